-- Two numbers agree in as many bytes as their difference has zeros at its end. Assumes nothing.
use Rattle.std.proofs.Common.{◌≡◌, ℕ, zero, suc, ◌+◌, ◌*◌, ◌/◌, ◌%◌, ◌^◌, ◌<◌, sym, refl, ap, ◌∙◌, subst, mul_assoc, pow-suc, div-add-mod', arith}
use native.Mathlib.Decide.{dec_le}
use lib.Count.{count_trailing_zeros, under}
use Rattle.scan.specs.Scan.{First, byte_of, Alike}
use Rattle.scan.proofs.FirstLaws.{first_suc}

-- The zeros at the end of d: fewer than j, or j and those of the rest.
data Ends (j k d : ℕ) : Type 0 where
  early : count_trailing_zeros (k + j) d < j → ((q : ℕ) → d ≡ q * 2 ^ j → ⊥) → Ends j k d
  late : (q : ℕ) → d ≡ q * 2 ^ j → count_trailing_zeros (k + j) d ≡ j + count_trailing_zeros k q → Ends j k d

-- One digit more: the zeros end at once where it is 1, and where it is 0 there is one more than in the half.
more_digits : (j k d : ℕ) → count_trailing_zeros (k + suc j) d ≡ under (d % 2) (count_trailing_zeros (k + j) (d / 2))
unfolding count_trailing_zeros
more_digits j k d = let e : k + suc j ≡ suc (k + j) = omega arith in ap (λ (n : ℕ). count_trailing_zeros n d) e

twice : (j q : ℕ) → q * 2 ^ suc j ≡ q * 2 ^ j * 2
twice j q = ap (λ (p : ℕ). q * p) (pow-suc 2 j) ∙ sym (mul_assoc q (2 ^ j) 2)

ends_one : (j k d : ℕ) → d % 2 ≡ 1 → Ends (suc j) k d
ends_one j k d e =
    let z : count_trailing_zeros (k + suc j) d ≡ 0 = more_digits j k d ∙ rw e refl in
    early (omega arith) (λ q f. omega (arith, twice j q))

ends_zero : (j k d : ℕ) → d % 2 ≡ 0 → Ends j k (d / 2) → Ends (suc j) k d
ends_zero j k d e s =
    let z : count_trailing_zeros (k + suc j) d ≡ suc (count_trailing_zeros (k + j) (d / 2)) = more_digits j k d ∙ rw e refl in
    elim s [ early l n ↦ early (omega arith) (λ q f. n q (omega (arith, twice j q))) | late q f t ↦ late q (omega (arith, twice j q)) (omega arith) ]

ends : (j k d : ℕ) → Ends j k d
ends zero k d = let e : k + 0 ≡ k = omega arith in late d (omega arith) (rw e (omega arith))
ends (suc j) k d =
    elim (dec_le 1 (d % 2)) [ yes h ↦ ends_one j k d (omega arith) | no h ↦ ends_zero j k d (omega arith) (ends j k (d / 2)) ]

-- Where the difference of x and y, up to a multiple of 256 ^ n, is d, they agree in as many of n bytes as d ends with zeros.
alike_more : (n x y d q' : ℕ) → x + q' * 256 ≡ y + d → ((q : ℕ) → x / 256 + q' ≡ y / 256 + q → First (λ (i : ℕ). byte_of i (x / 256) ≡ byte_of i (y / 256)) n (count_trailing_zeros (n * 8) q / 8)) → Ends 8 (n * 8) d → First (λ (i : ℕ). byte_of i x ≡ byte_of i y) (suc n) (count_trailing_zeros (n * 8 + 8) d / 8)
unfolding byte_of
alike_more n x y d q' e next (early l h) =
    let z : count_trailing_zeros (n * 8 + 8) d / 8 ≡ 0 = omega arith in
    rw z record { most = omega arith; below = λ i g. absurd (omega arith); stop = λ g f. h (d / 256) (omega arith) }
alike_more n x y d q' e next (late q f t) =
    let z : count_trailing_zeros (n * 8 + 8) d / 8 ≡ suc (count_trailing_zeros (n * 8) q / 8) = omega arith in
    rw z (first_suc (λ (i : ℕ). byte_of i x ≡ byte_of i y) n (count_trailing_zeros (n * 8) q / 8) (omega arith) (next q (omega arith)))

alike_bytes : (n x y d p : ℕ) → x + p * 256 ^ n ≡ y + d → First (λ (i : ℕ). byte_of i x ≡ byte_of i y) n (count_trailing_zeros (n * 8) d / 8)
unfolding count_trailing_zeros byte_of
alike_bytes zero x y d p e = record { most = omega arith; below = λ i h. absurd (omega arith); stop = λ h. absurd (omega arith) }
alike_bytes (suc n) x y d p e =
    let bits : n * 8 + 8 ≡ suc n * 8 = omega arith in
    let whole : x + p * 256 ^ n * 256 ≡ y + d = ap (λ (k : ℕ). x + k) (mul_assoc p (256 ^ n) 256 ∙ ap (λ (k : ℕ). p * k) (sym (pow-suc 256 n))) ∙ e in
    subst (λ (k : ℕ). First (λ (i : ℕ). byte_of i x ≡ byte_of i y) (suc n) (count_trailing_zeros k d / 8)) bits
    (alike_more n x y d (p * 256 ^ n) whole (λ q f. alike_bytes n (x / 256) (y / 256) q p f) (ends 8 (n * 8) d))

-- So they do where d is their difference as numbers of 64 digits.
pub alike_wrapped : (x y d : ℕ) → (d + y) % 2 ^ 64 ≡ x → Alike x y (count_trailing_zeros 64 d / 8)
alike_wrapped x y d e = alike_bytes 8 x y d ((d + y) / 2 ^ 64) (let z = div-add-mod' (d + y) (2 ^ 64) in omega arith)
