-- The first place of which a predicate does not hold, looked for piece by piece. Assumes nothing.
use Rattle.std.proofs.Common.{◌≡◌, ℕ, zero, suc, ◌+◌, ◌-◌, ◌<◌, ◌≤◌, subst, lt_of_not-le, min, arith, below_more}
use native.Mathlib.Decide.{dec_le}
use Rattle.scan.specs.Scan.{First}

-- P holds of each place below i, and no place beyond n was looked at.
pub record Below (P : ℕ → Type 0) (n i : ℕ) : Type 0 where
  pub most : i ≤ n
  pub all : (j : ℕ) → j < i → P j

-- Q is P from the place i on.
abbrev pub Shifted : (ℕ → Type 0) → ℕ → (ℕ → Type 0) → Type 0
Shifted P i Q = (j : ℕ) → (Q j → P (i + j)) × (P (i + j) → Q j)

-- Several places more.
below_all : (P : ℕ → Type 0) (n i k : ℕ) → Below P n i → ((j : ℕ) → j < k → P (i + j)) → (j : ℕ) → j < i + k → P j
below_all P n i k h f j l = elim (dec_le i j) [
  | yes g ↦ (let e : i + (j - i) ≡ j = omega arith in subst P e (f (j - i) (omega arith)))
  | no g ↦ h.all j (lt_of_not-le g)
]

pub below_first : (P Q : ℕ → Type 0) (n i k : ℕ) → Shifted P i Q → Below P n i → First Q k k → i + k ≤ n → Below P n (i + k)
below_first P Q n i k s h f l = record { most = l; all = below_all P n i k h (λ j g. (s j).0 (f.below j g)) }

pub below_fewer : (P : ℕ → Type 0) (n i k : ℕ) → Below P n i → k ≤ i → Below P n k
below_fewer P n i k h l = record { most = omega (arith, h.most); all = λ j g. h.all j (omega arith) }

-- Where P holds below i, the first place is the first from i on.
pub first_from : (P Q : ℕ → Type 0) (n i m k : ℕ) → Shifted P i Q → Below P n i → First Q m k → i + m ≤ n → (m ≤ k → i + m ≡ n) → First P n (i + k)
first_from P Q n i m k s h f l e = record { most = omega (arith, f.most); below = below_all P n i k h (λ j g. (s j).0 (f.below j g)); stop = go }
  where
    go : i + k < n → P (i + k) → ⊥
    go g p = elim (dec_le m k) [ yes a ↦ (let z : i + m ≡ n = e a in omega arith) | no a ↦ f.stop (lt_of_not-le a) ((s k).1 p) ]

-- Of fewer places the first is the same, or is none.
pub first_fewer : (P : ℕ → Type 0) (m n k : ℕ) → First P m k → n ≤ m → k < n → First P n k
first_fewer P m n k f l g = record { most = omega arith; below = f.below; stop = λ h. f.stop (omega arith) }

pub first_past : (P : ℕ → Type 0) (m n k : ℕ) → First P m k → n ≤ k → First P n n
first_past P m n k f l = record { most = omega arith; below = λ i h. f.below i (omega arith); stop = λ h. absurd (omega arith) }

pub first_least : {P : ℕ → Type 0} {m n k r : ℕ} → r ≡ min k n → First P m k → n ≤ m → First P n r
first_least {P} {m} {n} {k} {r} e f l = elim (dec_le n k) [
  | yes h ↦ (let q : n ≡ r = omega arith in subst (λ (j : ℕ). First P n j) q (first_past P m n k f h))
  | no h ↦ (let q : k ≡ r = omega arith in subst (λ (j : ℕ). First P n j) q (first_fewer P m n k f l (lt_of_not-le h)))
]

-- The first place is one later behind one place more of which P holds.
pub first_suc : (P : ℕ → Type 0) (n k : ℕ) → P 0 → First (λ (i : ℕ). P (suc i)) n k → First P (suc n) (suc k)
first_suc P n k z f = record { most = omega (arith, f.most); below = go; stop = λ h. f.stop (omega arith) }
  where
    go : (i : ℕ) → i < suc k → P i
    go zero h = z
    go (suc i) h = f.below i (omega arith)

-- The first place is the same for a predicate that holds of the same places.
pub first_same : (P Q : ℕ → Type 0) (n k : ℕ) → ((i : ℕ) → i < n → P i → Q i) → ((i : ℕ) → i < n → Q i → P i) → First P n k → First Q n k
first_same P Q n k f g h = record { most = h.most; below = λ i l. f i (omega (arith, h.most)) (h.below i l); stop = λ l q. h.stop l (g k l q) }
