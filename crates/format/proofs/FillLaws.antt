-- A raster's items are read exactly if it draws something (01, Rasters). Assumes nothing.
use Prim.Native.Nat.{ℕ, zero, suc, ◌*◌, ◌≤◌}
use mathlib.Core.Path.{◌≡◌, refl}
use mathlib.Core.List.{List, [], ◌∷◌}
use mathlib.Core.Bool.{Bool, true}
use native.Mathlib.Omega.{arith}
use lib.Dec.{eqb}
use lib.ListN.{take}
use borrow.Author.Tests.{leb-true, eqb-true, eqb-false, eq-eqb, ne_eqb}
use Rattle.format.specs.Limits.{in_limits}
use Rattle.format.specs.Refusals.{ok}
use Rattle.format.specs.Numbers.{Bytes}
use Rattle.format.specs.Rasters.{Item, bits, picture, colour, Draws, blank, in_bits, in_runs}
use Rattle.format.specs.Reading.{none_read, items, ReadWhole}
use Rattle.format.proofs.Tests.{test, split}
use Rattle.format.proofs.ItemLaws.{fault≢}
use Rattle.format.proofs.BitLaws.{bits_read_lem, read_bits}
use Rattle.format.proofs.ReadingTheorems.{raster_read, read_raster}

-- Within the limits, w of 0 has h of 0,
pub limits_none : (h : ℕ) → in_limits 0 h ≡ true → h ≡ 0
unfolding in_limits
limits_none zero e = refl
limits_none (suc h) e = absurd (let z : ◌≡◌ {A = ℕ} 0 1 = cc in omega arith)

-- and w of at least 1 gives this.
pub record Limited (w h : ℕ) : Type 0 where
  pub high : 1 ≤ h
  pub some : 1 ≤ w * h
  pub small : w * h ≤ 65536

pub limited : (w h : ℕ) → in_limits w h ≡ true → (w ≡ 0 → ⊥) → Limited w h
unfolding in_limits
limited zero h e n = absurd (n refl)
limited (suc w) zero e n = absurd (let z : ◌≡◌ {A = ℕ} 0 1 = cc in omega arith)
limited (suc w) (suc h) e n = record { high = omega arith; some = omega arith; small = leb-true (suc w * suc h) 65536 e }

-- Within the limits, w and h are at most 65,536 each.
pub limits_most : (w h : ℕ) → in_limits w h ≡ true → (w ≤ 65536) × (h ≤ 65536)
unfolding in_limits
limits_most zero zero e = (omega arith, omega arith)
limits_most zero (suc h) e = absurd (let z : ◌≡◌ {A = ℕ} 0 1 = cc in omega arith)
limits_most (suc w) zero e = absurd (let z : ◌≡◌ {A = ℕ} 0 1 = cc in omega arith)
limits_most (suc w) (suc h) e = let l = leb-true (suc w * suc h) 65536 e in (omega arith, omega arith)

-- and so are the pixels.
pub limits_small : (w h : ℕ) → in_limits w h ≡ true → w * h ≤ 65536
limits_small zero h e = omega arith
limits_small (suc w) h e = (limited (suc w) h e (λ q. omega arith)).small

none_nil : (bytes : List ℕ) (is : List Item) → none_read bytes ≡ ok is → bytes ≡ []
unfolding none_read
none_nil [] is e = refl
none_nil (b ∷ bytes) is e = absurd (fault≢ e)

-- What draws something is read,
pub draws_items : (f : ℕ) (black : Bool) (w h : ℕ) (bytes drawn : List ℕ) → in_limits w h ≡ true → Draws f black w h bytes drawn → ReadWhole f w h bytes
unfolding items none_read
draws_items f black zero h bytes drawn l (blank p g q r) = ([], rw q refl)
draws_items f black zero h bytes drawn l (in_bits p g x) = absurd (omega arith)
draws_items f black zero h bytes drawn l (in_runs p g x) = absurd (omega arith)
draws_items f black (suc w) h bytes drawn l (blank p g q r) = absurd (omega arith)
draws_items f black (suc w) h bytes drawn l (in_bits p g x) = ([], rw (eq-eqb f 14 g) (bits_read_lem (suc w) h bytes drawn x))
draws_items f black (suc w) h bytes drawn l (in_runs p g x) =
    (x.items, rw (ne_eqb f 14 (λ e. omega arith)) (raster_read f (suc w) h (colour black) bytes g p (limited (suc w) h l (λ e. omega arith)).high x))

-- and what is read draws something.
pub items_draws : (f : ℕ) (black : Bool) (w h : ℕ) (bytes : List ℕ) (is : List Item) → f ≤ 14 → in_limits w h ≡ true → Bytes bytes → items f w h bytes ≡ ok is
    → (drawn : List ℕ) × Draws f black w h bytes drawn
unfolding items
items_draws f black zero h bytes is hf l b e = ([], blank refl (limits_none h l) (none_nil bytes is e) refl)
items_draws f black (suc w) h bytes is hf l b e =
    test (eqb f 14)
    (λ t. (take (suc w * h) (bits bytes), in_bits (omega arith) (eqb-true f 14 t) (read_bits (suc w) h bytes is (rw t at e))))
    (λ t. let n = eqb-false f 14 t in
    let g : f ≤ 13 = lower f hf n in
    let r = read_raster f (suc w) h (colour black) bytes g (omega arith) (limited (suc w) h l (λ e. omega arith)).high is b (rw t at e) in
    (picture (suc w) (colour black) r.0 is, in_runs (omega arith) g r.1))
  where
    lower : (f : ℕ) → f ≤ 14 → (f ≡ 14 → ⊥) → f ≤ 13
    lower f h n = split f 13 (λ t. t) (λ t. absurd (n (omega arith)))
