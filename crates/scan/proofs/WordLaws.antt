-- Eight bytes compared at once, and the bytes from a place on. Assumes nothing.
use Rattle.std.proofs.Common.{◌≡◌, ℕ, ◌+◌, ◌-◌, ◌<◌, ◌≤◌, List, get_or, length, sym, refl, ap, ◌∙◌, subst, zero-add, lt_of_not-le, arith}
use Rattle.std.specs.List.{between}
use Rattle.std.proofs.lemmas.List.{get_or-drop}
use Rattle.std.proofs.lemmas.Slice.{between_to_end}
use native.Mathlib.Decide.{dec_le}
use Rattle.scan.specs.Scan.{First, byte_of, eight_of, Eight, Alike, AreSame, IsByte, AreEqual, FirstOther, FirstDifference}
use Rattle.scan.proofs.FirstLaws.{Below, Shifted, below_first, below_fewer, first_from, first_same}
use Rattle.scan.proofs.ByteLaws.{eight_byte}

-- f from the place i on.
abbrev pub from : (ℕ → ℕ) → ℕ → ℕ → ℕ
from f i j = f (i + j)

-- The bytes of two words that agree are the same.
pub word_same : {f g : ℕ → ℕ} {r s k : ℕ} → Eight f r → Eight g s → Alike r s k → First (AreSame f g) 8 k
word_same {f} {g} {r} {s} {k} e d a =
    first_same (λ (i : ℕ). byte_of i r ≡ byte_of i s) (AreSame f g) 8 k
    (λ i h q. record { is = sym (eight_byte f r i e h) ∙ q ∙ eight_byte g s i d h })
    (λ i h q. eight_byte f r i e h ∙ q.is ∙ sym (eight_byte g s i d h)) a

pub word_first : {f g : ℕ → ℕ} {r s k : ℕ} → Eight (from f 0) r → Eight (from g 0) s → Alike r s k → First (AreSame f g) 8 k
word_first {f} {g} {r} {s} {k} e d a =
    first_same (AreSame (from f 0) (from g 0)) (AreSame f g) 8 k
    (λ i h q. record { is = sym (ap f (zero-add i)) ∙ q.is ∙ ap g (zero-add i) })
    (λ i h q. record { is = ap f (zero-add i) ∙ q.is ∙ sym (ap g (zero-add i)) })
    (word_same e d a)

-- Equal words agree; where words differ, a byte does.
word_equal : {r s : ℕ} → r ≡ s → Alike r s 8
word_equal {r} {s} q = record { most = omega arith; below = λ i h. ap (byte_of i) q; stop = λ h. absurd (omega arith) }

early : {f g : ℕ → ℕ} {r s k : ℕ} → Eight f r → Eight g s → First (AreSame f g) 8 k → (r ≡ s → ⊥) → k < 8
early {f} {g} {r} {s} {k} e d h n = elim (dec_le 8 k) [ yes l ↦ absurd (n (e.is ∙ same l ∙ sym d.is)) | no l ↦ lt_of_not-le l ]
  where
    same : 8 ≤ k → eight_of f ≡ eight_of g
    same l = rw ((h.below 0 (omega arith)).is, (h.below 1 (omega arith)).is, (h.below 2 (omega arith)).is, (h.below 3 (omega arith)).is, (h.below 4 (omega arith)).is, (h.below 5 (omega arith)).is, (h.below 6 (omega arith)).is, (h.below 7 (omega arith)).is) refl

-- The loop.

shifted : (f g : ℕ → ℕ) (i : ℕ) → Shifted (AreSame f g) i (AreSame (from f i) (from g i))
shifted f g i j = (λ h. record { is = h.is }, λ h. record { is = h.is })

-- Words that differ; equal words; the last two.
pub same_stop : {f g : ℕ → ℕ} {n r s i k : ℕ} → Below (AreSame f g) n i → Eight (from f i) r → Eight (from g i) s → Alike r s k → (r ≡ s → ⊥) → i + 8 ≤ n → First (AreSame f g) n (i + k)
same_stop {f} {g} {n} {r} {s} {i} {k} h e o a d l =
    let w = word_same e o a in
    let q = early e o w d in
    first_from (AreSame f g) (AreSame (from f i) (from g i)) n i 8 k (shifted f g i) h w l (λ m. absurd (omega arith))

pub same_more : {f g : ℕ → ℕ} {n r s i j : ℕ} → Below (AreSame f g) n i → Eight (from f i) r → Eight (from g i) s → r ≡ s → i + 8 ≤ n → i + 8 ≡ j → Below (AreSame f g) n j
same_more {f} {g} {n} {r} {s} {i} {j} h e o d l q =
    subst (Below (AreSame f g) n) q (below_first (AreSame f g) (AreSame (from f i) (from g i)) n i 8 (shifted f g i) h (word_same e o (word_equal d)) l)

pub same_last : {f g : ℕ → ℕ} {n r s i k : ℕ} → Below (AreSame f g) n i → Eight (from f (n - 8)) r → Eight (from g (n - 8)) s → Alike r s k → 8 ≤ n → n - 8 ≤ i → First (AreSame f g) n (n - 8 + k)
same_last {f} {g} {n} {r} {s} {i} {k} h e o a l m =
    first_from (AreSame f g) (AreSame (from f (n - 8)) (from g (n - 8))) n (n - 8) 8 k (shifted f g (n - 8)) (below_fewer (AreSame f g) n i (n - 8) h m) (word_same e o a) (omega arith) (λ g. omega arith)

-- The bytes of a slice from a place on.
tail : (b : List ℕ) (at i : ℕ) → get_or (between at (length b) b) i 0 ≡ get_or b (at + i) 0
tail b at i = ap (λ (l : List ℕ). get_or l i 0) (between_to_end b at (length b) (omega arith)) ∙ get_or-drop at b i 0

pub other_here : (b : List ℕ) (at n x k : ℕ) → First (AreSame (λ (i : ℕ). get_or (between at (length b) b) i 0) (λ (i : ℕ). x)) n k → FirstOther b at n x k
other_here b at n x k h =
    first_same (AreSame (λ (i : ℕ). get_or (between at (length b) b) i 0) (λ (i : ℕ). x)) (IsByte b at x) n k
    (λ i l q. record { is = sym (tail b at i) ∙ q.is })
    (λ i l q. record { is = tail b at i ∙ q.is }) h

pub difference_here : (b : List ℕ) (x y n k : ℕ) → First (AreSame (λ (i : ℕ). get_or (between y (length b) b) i 0) (λ (i : ℕ). get_or (between x (length b) b) i 0)) n k → FirstDifference b x y n k
difference_here b x y n k h =
    first_same (AreSame (λ (i : ℕ). get_or (between y (length b) b) i 0) (λ (i : ℕ). get_or (between x (length b) b) i 0)) (AreEqual b x y) n k
    (λ i l q. record { is = sym (tail b x i) ∙ sym q.is ∙ tail b y i })
    (λ i l q. record { is = tail b y i ∙ sym q.is ∙ sym (tail b x i) }) h
