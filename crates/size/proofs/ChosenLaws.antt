-- The place of the least total, and the choice. Assumes nothing.
use Prim.Native.Nat.{ℕ, ◌+◌, ◌*◌, ◌/◌, ◌≤◌, ◌<◌}
use mathlib.Core.Path.{◌≡◌, refl, sym, ap, ◌∙◌}
use mathlib.Core.List.{List}
use mathlib.Core.Bool.{cond}
use native.Mathlib.Omega.{arith}
use lib.Dec.{ltb}
use lib.ListN.{length, get_or}
use borrow.Author.Tests.{eq-eqb, ne_eqb, lt-ltb, le-ltb}
use Rattle.format.specs.Rasters.{Item, rows, bytes_of_bits, writings}
use Rattle.format.specs.Counts.{counts}
use Rattle.format.specs.Choice.{nybble_count, fewest, chosen, raster_of}
use Rattle.format.proofs.HalfLaws.{length-halves, length-bit_bytes}
use Rattle.format.proofs.ChoiceLaws.{fewest_least, least_one}
use Rattle.walk.proofs.BeginLaws.{begin_items}
use Rattle.part.specs.declared.Part.{Part}
use Rattle.size.specs.declared.Chosen.{Chosen}
use Rattle.size.specs.Sizes.{Sizes, Sized, Best, IsChosen}

-- The least.

-- The place of the least total is the f with fewest nybbles.
best_fewest : (is : List Item) {t : List ℕ} {f : ℕ} → Sizes is t → Best t 14 f → f ≡ fewest is
best_fewest is {t} {f} s b =
    least_one (nybble_count is) 13 f (fewest is)
    (record {
      inside = omega (arith, b.inside);
      least = λ i h. omega (arith, b.least i (omega arith), (s f b.inside).0, (s i (omega arith)).0);
      largest = λ i l h. omega (arith, b.last i l (omega arith), (s f b.inside).0, (s i (omega arith)).0);
    })
    (fewest_least is)

-- The bytes.

-- The bytes of the two kinds of raster.
bits_length : (is : List Item) (b : List ℕ) → bytes_of_bits (length b) ≡ length (raster_of 14 is b)
unfolding raster_of
bits_length is b = sym (length-bit_bytes (bytes_of_bits (length b)) b)

runs_length : (f : ℕ) (is : List Item) (b : List ℕ) → f < 14 → (nybble_count is f + 1) / 2 ≡ length (raster_of f is b)
unfolding raster_of nybble_count
runs_length f is b h = rw (ne_eqb f 14 (λ e. omega arith)) (sym (length-halves (writings f is)))

-- The choice.

-- The sizes of what is left before the first pixel are those of the count list.
pub counted : {b : List ℕ} {w : ℕ} {p q : Part} {t : List ℕ} (h : ℕ) → 0 < w → length b ≡ w * h → Sized b w p t q → Sizes (counts (rows w h b)) t
counted {b} {w} h z e s = rw (begin_items b w h z e) at s.sizes

chosen_some : (w h : ℕ) (is : List Item) → 0 < w → chosen w h is ≡ cond (ltb (bytes_of_bits (w * h)) ((nybble_count is (fewest is) + 1) / 2)) 14 (fewest is)
unfolding chosen
chosen_some w h is p = rw (ne_eqb w 0 (λ e. omega arith)) refl

-- The least total is that of the f with fewest nybbles.
fewest_total : (is : List Item) {t : List ℕ} {f : ℕ} → Sizes is t → Best t 14 f → get_or t f 0 ≡ nybble_count is (fewest is)
fewest_total is {t} {f} s b = (s f b.inside).0 ∙ ap (nybble_count is) (best_fewest is s b)

-- There are no pixels.
pub choose_none : (w h : ℕ) (b : List ℕ) (r : Chosen) → w ≡ 0 → length b ≤ 65536 → r.f ≡ 14 → r.bytes ≡ (length b + 7) / 8 → IsChosen w h b r
unfolding chosen
choose_none w h b r z l p q =
    let is = counts (rows w h b) in
    record { f = p ∙ rw (eq-eqb w 0 z) refl; bytes = q ∙ bits_length is b ∙ ap (λ (f : ℕ). length (raster_of f is b)) (sym p); most = omega arith }

-- The bits have strictly fewer bytes.
pub choose_bits : (w h : ℕ) (b : List ℕ) (r : Chosen) (t : List ℕ) (f : ℕ) → 0 < w → length b ≡ w * h → length b ≤ 65536 → Sizes (counts (rows w h b)) t → Best t 14 f → (length b + 7) / 8 < (get_or t f 0 + 1) / 2 → r.f ≡ 14 → r.bytes ≡ (length b + 7) / 8 → IsChosen w h b r
choose_bits w h b r t f z e l s a less p q =
    let is = counts (rows w h b) in
    let g = fewest_total is s a in
    record {
      f = p ∙ sym (chosen_some w h is z ∙ rw (lt-ltb (bytes_of_bits (w * h)) ((nybble_count is (fewest is) + 1) / 2) (rw (← e, ← g) less)) refl);
      bytes = q ∙ bits_length is b ∙ ap (λ (i : ℕ). length (raster_of i is b)) (sym p);
      most = omega arith;
    }

-- They have not.
pub choose_runs : (w h : ℕ) (b : List ℕ) (r : Chosen) (t : List ℕ) → 0 < w → length b ≡ w * h → length b ≤ 65536 → Sizes (counts (rows w h b)) t → Best t 14 r.f → r.bytes ≤ (length b + 7) / 8 → r.bytes ≡ (get_or t r.f 0 + 1) / 2 → IsChosen w h b r
choose_runs w h b r t z e l s a most q =
    let is = counts (rows w h b) in
    let g = fewest_total is s a in
    record {
      f = best_fewest is s a ∙ sym (chosen_some w h is z ∙ rw (le-ltb (bytes_of_bits (w * h)) ((nybble_count is (fewest is) + 1) / 2) (rw (← e, ← g, ← q) most)) refl);
      bytes = q ∙ ap (λ (n : ℕ). (n + 1) / 2) (s r.f a.inside).0 ∙ runs_length r.f is b a.inside;
      most = omega arith;
    }
