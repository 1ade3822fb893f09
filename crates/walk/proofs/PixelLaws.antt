-- Pixels of rows compared: what the answers of a scan say of mixed and of equal rows. Assumes nothing.
use Prim.Native.Nat.{ℕ, zero, suc, ◌+◌, ◌-◌, ◌≤◌, ◌<◌}
use mathlib.Core.Path.{◌≡◌, refl, sym, ap, ◌∙◌}
use mathlib.Core.List.{List, [], ◌∷◌}
use mathlib.Core.Bool.{Bool, true, false, or-true}
use native.Mathlib.Nat.{lt_of_not-le, add-zero}
use native.Mathlib.Decide.{dec_le}
use native.Mathlib.Numerals.{add-one}
use native.Mathlib.Omega.{arith}
use lib.Dec.{eqb, ltb}
use lib.ListN.{length, take, drop, get_or, replicate, length-drop, length-replicate, get_or-replicate}
use lib.Seq.{drop-cons, length-take-le, get_or-take, get_or-drop, ext_get_or}
use borrow.Author.Tests.{eqb-true, eqb-false, eq-eqb, ne_eqb, lt-ltb}
use Rattle.format.specs.Lists.{all, same}
use Rattle.format.specs.Counts.{mixed}
use Rattle.format.proofs.Tests.{test, and_true}
use Rattle.scan.specs.Scan.{IsByte, FirstOther, FirstDifference}

-- Pixels by place.

-- Pixels from a place on, the first taken off.
pub take-drop : (b : List ℕ) (n i : ℕ) → 0 < n → i < length b → take n (drop i b) ≡ get_or b i 0 ∷ take (n - 1) (drop (i + 1) b)
take-drop b zero i p h = absurd (omega arith)
take-drop b (suc n) i p h = let e : suc n - 1 ≡ n = omega arith in rw (drop-cons b i 0 h, add-one i, e) refl

-- A pixel of a row.
row_pixel : (b : List ℕ) (w at i : ℕ) → i < w → get_or (take w (drop at b)) i 0 ≡ get_or b (at + i) 0
row_pixel b w at i h = get_or-take w (drop at b) i 0 h ∙ get_or-drop at b i 0

row_length : (b : List ℕ) (w at : ℕ) → at + w ≤ length b → length (take w (drop at b)) ≡ w
row_length b w at h = length-take-le w (drop at b) (omega (arith, length-drop at b))

-- Pixels that are all x.
pub row_plain : (b : List ℕ) (w at x : ℕ) → at + w ≤ length b → ((i : ℕ) → i < w → IsByte b at x i) → take w (drop at b) ≡ replicate w x
row_plain b w at x l h =
    let n = row_length b w at l in
    ext_get_or 0 (take w (drop at b)) (replicate w x) (n ∙ sym (length-replicate w x)) λ i g.
    let k : i < w = omega arith in
    row_pixel b w at i k ∙ (h i k).is ∙ sym (get_or-replicate w i x 0 k)

-- Mixed rows.

all_same : (x n : ℕ) → all x (replicate n x) ≡ true
unfolding all
all_same x zero = refl
all_same x (suc n) = rw (eq-eqb x x refl) (all_same x n)

all_not : (c i : ℕ) (r : List ℕ) → i < length r → (get_or r i 0 ≡ c → ⊥) → all c r ≡ false
unfolding all
all_not c i [] h n = absurd (omega arith)
all_not c zero (x ∷ r) h n = rw (ne_eqb x c n) refl
all_not c (suc i) (x ∷ r) h n = test (eqb x c) (λ e. rw e (all_not c i r (omega arith) n)) (λ e. rw e refl)

mixed_both : (r : List ℕ) → all 0 r ≡ false → all 1 r ≡ false → true ≡ mixed r
unfolding mixed
mixed_both r e f = rw (e, f) refl

-- A row with a pixel other than its first is mixed.
pub mixed_other : {b : List ℕ} {at w k : ℕ} → at + w ≤ length b → FirstOther b at w (get_or b at 0) k → k < w → true ≡ mixed (take w (drop at b))
mixed_other {b} {at} {w} {k} l f h = mixed_both (take w (drop at b)) (lacks 0) (lacks 1)
  where
    first : get_or (take w (drop at b)) 0 0 ≡ get_or b at 0
    first = row_pixel b w at 0 (omega arith) ∙ ap (λ (i : ℕ). get_or b i 0) (add-zero at)

    lacks : (c : ℕ) → all c (take w (drop at b)) ≡ false
    lacks c = test (eqb (get_or b at 0) c)
        (λ e. all_not c k (take w (drop at b)) (omega (arith, row_length b w at l)) (λ q. f.stop h (record { is = sym (row_pixel b w at k h) ∙ q ∙ sym (eqb-true (get_or b at 0) c e) })))
        (λ e. all_not c 0 (take w (drop at b)) (omega (arith, row_length b w at l)) (λ q. eqb-false (get_or b at 0) c e (sym first ∙ q)))

-- A row of one colour is mixed only if it is neither white nor black.
mixed_one : (x w : ℕ) → 0 < w → ltb 1 x ≡ mixed (replicate w x)
unfolding mixed
mixed_one zero w h = rw (all_same 0 w) refl
mixed_one (suc zero) w h = rw (all_same 1 w, or-true (all 0 (replicate w 1))) refl
mixed_one (suc (suc x)) w h = lt-ltb 1 (suc (suc x)) (omega arith) ∙ mixed_both (replicate w (suc (suc x))) (lacks 0 (omega arith)) (lacks 1 (omega arith))
  where
    lacks : (c : ℕ) → c < suc (suc x) → all c (replicate w (suc (suc x))) ≡ false
    lacks c l = all_not c 0 (replicate w (suc (suc x))) (omega (arith, length-replicate w (suc (suc x)))) (λ q. let e = get_or-replicate w 0 (suc (suc x)) 0 h in omega arith)

pub mixed_plain : {b : List ℕ} {at w x k : ℕ} → 0 < w → at + w ≤ length b → FirstOther b at w x k → w ≤ k → ltb 1 x ≡ mixed (take w (drop at b))
mixed_plain {b} {at} {w} {x} {k} p l f h = mixed_one x w p ∙ ap mixed (sym (row_plain b w at x l (λ i g. f.below i (omega arith))))

-- Equal rows.

-- Rows that are the same are equal.
pub same_is : (r s : List ℕ) → same r s ≡ true → r ≡ s
unfolding same
same_is [] [] e = refl
same_is [] (y ∷ s) e = cc
same_is (x ∷ r) [] e = cc
same_is (x ∷ r) (y ∷ s) e =
    let w = and_true (eqb x y) (same r s) e in
    rw (eqb-true x y w.0, same_is r s w.1) refl

pub same_self : (r : List ℕ) → same r r ≡ true
unfolding same
same_self [] = refl
same_self (x ∷ r) = rw (eq-eqb x x refl) (same_self r)

-- Two rows are the same where all of their pixels are equal.
rows_equal : {b : List ℕ} {x y w k : ℕ} → x ≤ y → y + w ≤ length b → FirstDifference b x y w k → w ≤ k → same (take w (drop x b)) (take w (drop y b)) ≡ true
rows_equal {b} {x} {y} {w} {k} o l f h =
    let n = row_length b w x (omega arith) in
    let e : take w (drop x b) ≡ take w (drop y b) = ext_get_or 0 (take w (drop x b)) (take w (drop y b)) (n ∙ sym (row_length b w y l)) (λ i g. let j : i < w = omega arith in row_pixel b w x i j ∙ (f.below i (omega arith)).is ∙ sym (row_pixel b w y i j)) in
    ap (same (take w (drop x b))) (sym e) ∙ same_self (take w (drop x b))

rows_differ : {b : List ℕ} {x y w k : ℕ} → FirstDifference b x y w k → k < w → same (take w (drop x b)) (take w (drop y b)) ≡ false
rows_differ {b} {x} {y} {w} {k} f h =
    test (same (take w (drop x b)) (take w (drop y b)))
    (λ e. absurd (f.stop h (record { is = sym (row_pixel b w x k h) ∙ ap (λ (r : List ℕ). get_or r k 0) (same_is (take w (drop x b)) (take w (drop y b)) e) ∙ row_pixel b w y k h })))
    (λ e. e)

pub same_answer : {b : List ℕ} {x y w k : ℕ} → x ≤ y → y + w ≤ length b → FirstDifference b x y w k → eqb k w ≡ same (take w (drop x b)) (take w (drop y b))
same_answer {b} {x} {y} {w} {k} o l f = elim (dec_le w k) [
  | yes h ↦ eq-eqb k w (omega (arith, f.most)) ∙ sym (rows_equal o l f h)
  | no h ↦ ne_eqb k w (λ e. omega arith) ∙ sym (rows_differ f (lt_of_not-le h))
]

-- What an answer says of what it answers.
pub off : {a t : Bool} → a ≡ t → a ≡ false → t ≡ false
off e n = sym e ∙ n

pub on : {a t : Bool} → a ≡ t → a ≡ true → t ≡ true
on e n = sym e ∙ n
