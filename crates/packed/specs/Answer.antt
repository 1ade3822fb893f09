-- What the functions of this crate answer. Assumes nothing: these are definitions.
use Rattle.std.specs.Prelude.{ℕ, zero, suc, ◌+◌, ◌-◌, ◌*◌, ◌≤◌, ◌<◌, min, ◌≡◌, List, [], ◌∷◌, length, drop, get_or, Option, Some, None, Result, Ok, Err}
use Rattle.format.specs.Packed.{nybbles}
use Rattle.format.specs.Decoding.{Got, value, ends, mark, zeros, decode}
use Rattle.packed.specs.declared.Number.{Number}
use Rattle.packed.specs.declared.Unread.{Unread}
use Rattle.packed.specs.declared.Unread.TheVariants.{Ends, Mark}

-- The nybbles of the bytes s from the place at on.
unfoldable pub from : List ℕ → ℕ → List ℕ
from s at = drop at (nybbles s)

-- Above every limit: a larger number is held here.
abbrev pub cap : ℕ
cap = 65537

-- What is read, with the place of the nybble after it.
unfoldable pub to_read : List ℕ → Got → Result Number Unread
to_read s (value n rest) = Ok (record { n = min n cap; next = 2 * length s - length rest })
to_read s ends = Err Ends
to_read s mark = Err Mark

-- The packed number that begins at the place at of the bytes s, for f.
unfoldable pub read_at : List ℕ → ℕ → ℕ → Result Number Unread
read_at s at f = to_read s (decode f (from s at))

-- r is past the zeros from at on.
pub record Skipped (s : List ℕ) (at r : ℕ) : Type 0 where
  pub low : at ≤ r
  pub high : r ≤ 2 * length s
  pub same : (z : ℕ) → zeros z (from s at) ≡ zeros (z + (r - at)) (from s r)
  pub stop : r < 2 * length s → 0 < get_or (nybbles s) r 0

-- No number of one or two nybbles begins the nybbles xs.
abbrev pub NotShort : ℕ → List ℕ → Type 0
NotShort f [] = Unit {0}
NotShort f (zero ∷ xs) = Unit {0}
NotShort f (suc a ∷ []) = f < suc a
NotShort f (suc a ∷ b ∷ xs) = 13 < suc a

-- The number of one or two nybbles that begins at a place, or that none does.
pub record IsShort (s : List ℕ) (at f : ℕ) (r : Option Number) : Type 0 where
  pub some : (x : Number) → r ≡ Some x → read_at s at f ≡ Ok x
  pub none : r ≡ None → NotShort f (from s at)
