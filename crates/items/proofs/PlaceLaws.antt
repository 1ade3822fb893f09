-- Behind an item that is read there is a later place. Assumes nothing.
use Prim.Native.Nat.{ℕ, ◌+◌, ◌-◌, ◌*◌, ◌≤◌, ◌<◌}
use mathlib.Core.Path.{◌≡◌, sym, ap, ◌∙◌, subst}
use mathlib.Core.List.{List, [], ◌∷◌, ◌++◌}
use native.Mathlib.Omega.{arith}
use lib.ListN.{length, take, drop, length-append, take-append-drop}
use lib.Seq.{drop-drop, drop-append_seam}
use Rattle.format.specs.Refusals.{ok}
use Rattle.format.specs.Numbers.{Bytes}
use Rattle.format.specs.Packed.{nybbles}
use Rattle.format.specs.Rasters.{Item, Number, written, writings}
use Rattle.format.specs.Reading.{item_of}
use Rattle.format.proofs.PackedLaws.{Nybbles, bytes_nybbles}
use Rattle.format.proofs.ItemLaws.{item_took}
use Rattle.format.proofs.ReadingLaws.{nybs_rest}
use Rattle.format.proofs.ReadingTheorems.{enough}
use Rattle.packed.specs.Answer.{from}
use Rattle.packed.proofs.Part.{from_length}

-- The nybbles rest stand from the place next on, which is later.
pub record Later (s : List ℕ) (at next : ℕ) (rest : List ℕ) : Type 0 where
  pub after : at < next
  pub upto : next ≤ 2 * length s
  pub rest_is : from s next ≡ rest

later : (s : List ℕ) (at : ℕ) (ys rest : List ℕ) → at ≤ 2 * length s → 1 ≤ length ys → from s at ≡ ys ++ rest → Later s at (2 * length s - length rest) rest
unfolding from
later s at ys rest l m e =
    let k = from_length s at in
    let n = ap length e ∙ length-append ys rest in
    let j : 2 * length s - length rest ≡ at + length ys = omega arith in
    record {
      after = omega arith;
      upto = omega arith;
      rest_is = rw (j, ← drop-drop (length ys) at (nybbles s), e) (drop-append_seam ys rest);
    }

nybs_drop : (n : ℕ) (xs : List ℕ) → Nybbles xs → Nybbles (drop n xs)
nybs_drop n xs h = nybs_rest (take n xs) (drop n xs) (subst Nybbles (sym (take-append-drop n xs)) h)

nybs_from : (s : List ℕ) (at : ℕ) → Bytes s → Nybbles (from s at)
unfolding from
nybs_from s at b = nybs_drop at (nybbles s) (bytes_nybbles s b)

-- An item has a nybble at least.
written_some : (f : ℕ) (i : Item) → f ≤ 13 → Number i → 1 ≤ length (written f i)
unfolding writings
written_some f i hf p = omega (arith, enough f (i ∷ []) hf (p, tt), length-append (written f i) [])

-- Behind an item that is read.
pub item_later : (s : List ℕ) (at f rep : ℕ) (i : Item) (rest : List ℕ) → f ≤ 13 → Bytes s → at ≤ 2 * length s → item_of f rep (from s at) ≡ ok (i, rest) → Later s at (2 * length s - length rest) rest
item_later s at f rep i rest hf b l e =
    let t = item_took f rep (from s at) i rest hf (nybs_from s at b) e in
    later s at (written f i) rest l (written_some f i hf t.number) t.cut
