-- The f chosen of 0 to 13 is the one with fewest nybbles, the largest of equal ones, and the only such. Assumes nothing.
use Prim.Native.Nat.{ℕ, zero, suc, ◌≤◌}
use mathlib.Core.Path.{◌≡◌, subst}
use mathlib.Core.List.{List}
use native.Mathlib.Omega.{arith}
use lib.Dec.{leb}
use borrow.Author.Tests.{leb-true, leb-false}
use Rattle.format.specs.Rasters.{Item}
use Rattle.format.specs.Choice.{nybble_count, least_of, fewest, Least}
use Rattle.format.proofs.Tests.{split, test}

-- A number up to suc k is suc k, or below it.
top {ℓ} : {X : Type ℓ} (i k : ℕ) → i ≤ suc k → (i ≤ k → X) → (i ≡ suc k → X) → X
top i k h f g = split i k f (λ p. g (omega arith))

-- What `least_of` gives is least.
least_of_lem : (g : ℕ → ℕ) (k : ℕ) → Least g k (least_of g k)
unfolding least_of
least_of_lem g zero = record {
  inside = omega arith;
  least = λ i h. let e : 0 ≡ i = omega arith in subst (λ (j : ℕ). g 0 ≤ g j) e (omega arith);
  largest = λ i l h. absurd (omega arith);
}
least_of_lem g (suc k) =
    let r = least_of_lem g k in
    test (leb (g (suc k)) (g (least_of g k)))
    (λ e. let l = leb-true (g (suc k)) (g (least_of g k)) e in
    rw e record {
      inside = omega arith;
      least = λ i h. top i k h (λ p. omega (arith, r.least i p)) (λ p. rw p (omega arith));
      largest = λ i l h. absurd (omega arith);
    })
    (λ e. let l = leb-false (g (suc k)) (g (least_of g k)) e in
    rw e record {
      inside = omega (arith, r.inside);
      least = λ i h. top i k h (λ p. r.least i p) (λ p. rw p (omega arith));
      largest = λ i m h. top i k h (λ p. r.largest i m p) (λ p. rw p l);
    })

-- The f chosen of 0 to 13 has fewest nybbles, and is the largest of equal ones.
pub fewest_least : (is : List Item) → Least (nybble_count is) 13 (fewest is)
unfolding fewest
fewest_least is = least_of_lem (nybble_count is) 13

-- Only one place is so.
pub least_one : (g : ℕ → ℕ) (k a b : ℕ) → Least g k a → Least g k b → a ≡ b
least_one g k a b p q =
    split a b
    (λ h. split b a (λ l. omega arith) (λ l. absurd (omega (arith, p.largest b l q.inside, q.least a p.inside))))
    (λ h. absurd (omega (arith, q.largest a h p.inside, p.least b q.inside)))
