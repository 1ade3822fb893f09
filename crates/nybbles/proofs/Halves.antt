-- The nybbles of bytes, one by one: there are two for each byte, its high half and its low half.
-- Assumes nothing.
use Prim.Native.Nat.{ℕ, zero, suc, ◌*◌, ◌/◌, ◌%◌, ◌<◌}
use mathlib.Core.Path.{◌≡◌, refl, ap, ◌∙◌}
use mathlib.Core.List.{List, [], ◌∷◌, ◌++◌}
use native.Mathlib.Nat.{mul-suc}
use native.Mathlib.Numerals.{add-two}
use native.Mathlib.Omega.{arith}
use lib.ListN.{length, get_or}
use lib.Seq.{get_or-append_seam}
use Rattle.format.specs.Packed.{nybbles}
use Rattle.nybbles.specs.Nybble.{NybbleAt}

-- The nybble 2 × k is the high half of byte k.
even : (s : List ℕ) (k : ℕ) → get_or (nybbles s) (2 * k) 0 ≡ get_or s k 0 / 16
unfolding nybbles
even [] k = refl
even (b ∷ s) zero = refl
even (b ∷ s) (suc k) = rw (mul-suc, add-two) (even s k)

-- The nybble 2 × k + 1 is the low half of byte k.
odd : (s : List ℕ) (k : ℕ) → get_or (nybbles s) (suc (2 * k)) 0 ≡ get_or s k 0 % 16
unfolding nybbles
odd [] k = refl
odd (b ∷ s) zero = refl
odd (b ∷ s) (suc k) = rw (mul-suc, add-two) (odd s k)

-- At an even place stands the high half of byte i / 2.
pub high : (s : List ℕ) (i : ℕ) → i % 2 ≡ 0 → get_or (nybbles s) i 0 ≡ get_or s (i / 2) 0 / 16
high s i h = ap (λ (n : ℕ). get_or (nybbles s) n 0) (omega arith) ∙ even s (i / 2)

-- At an odd place stands the low half of byte i / 2.
pub low : (s : List ℕ) (i : ℕ) → i % 2 ≡ 1 → get_or (nybbles s) i 0 ≡ get_or s (i / 2) 0 % 16
low s i h = ap (λ (n : ℕ). get_or (nybbles s) n 0) (omega arith) ∙ odd s (i / 2)

-- The answer at an even place.
pub high_at : (s : List ℕ) (i r : ℕ) → i % 2 ≡ 0 → get_or s (i / 2) 0 < 256 → r ≡ get_or s (i / 2) 0 / 16 → NybbleAt s i r
high_at s i r h l e = record { is = omega (arith, high s i h); small = omega arith }

-- The answer at an odd place.
pub low_at : (s : List ℕ) (i r : ℕ) → i % 2 ≡ 1 → r ≡ get_or s (i / 2) 0 % 16 → NybbleAt s i r
low_at s i r h e = record { is = omega (arith, low s i h); small = omega arith }

-- At the very end stands the low half of the last byte.
pub last_half : (s : List ℕ) (b : ℕ) → get_or (nybbles (s ++ (b ∷ []))) (suc (2 * length s)) 0 ≡ b % 16
last_half s b = odd (s ++ (b ∷ [])) (length s) ∙ ap (λ (x : ℕ). x % 16) (get_or-append_seam s b [] 0)
