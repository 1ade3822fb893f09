-- The mark over bytes, one byte at a time. Assumes nothing.
use Prim.Native.Nat.{ℕ, suc, ◌+◌, ◌*◌, ◌%◌, ◌≤◌, ◌<◌}
use mathlib.Core.Path.{◌≡◌, refl, ◌∙◌}
use mathlib.Core.List.{List}
use native.Mathlib.Omega.{arith}
use lib.ListN.{length, drop, get_or}
use lib.Seq.{drop-cons, drop-length}
use Rattle.lines.specs.Marks.{mark_after, marked}

-- The first i bytes came to m, and the others are still to be read.
pub record Marking (s : List ℕ) (m i : ℕ) : Type 0 where
  pub upto : i ≤ length s
  pub small : m < 65521
  pub rest : marked s ≡ mark_after m (drop i s)

-- Before the first byte.
pub marking_start : (s : List ℕ) → Marking s 1 0
unfolding marked
marking_start s = record { upto = omega arith; small = omega arith; rest = refl }

-- One byte more.
pub marking_step : (s : List ℕ) (m i n : ℕ) → Marking s m i → i < length s → n ≡ (m * 257 + get_or s i 0) % 65521 → Marking s n (i + 1)
unfolding mark_after
marking_step s m i n x h e =
    let v : i + 1 ≡ suc i = omega arith in
    record { upto = omega arith; small = omega arith; rest = x.rest ∙ rw (drop-cons s i 0 h, e, v) refl }

-- After the last.
pub marking_end : (s : List ℕ) (m i : ℕ) → Marking s m i → length s ≤ i → m ≡ marked s
unfolding mark_after
marking_end s m i x h =
    let e : i ≡ length s = omega arith in
    rw (x.rest, e, drop-length s) refl
