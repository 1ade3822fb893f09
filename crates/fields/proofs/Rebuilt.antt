-- A number of at most four bytes rebuilt from them, and its value in two's complement. Assumes nothing.
use Prim.Native.Nat.{ℕ, zero, suc, ◌+◌, ◌-◌, ◌*◌, ◌^◌, ◌%◌, ◌≤◌, ◌<◌}
use mathlib.Core.Path.{◌≡◌, refl, sym, ap, ◌∙◌, subst}
use mathlib.Core.List.{List, [], ◌∷◌}
use native.Mathlib.Nat.{pow-suc, pow-le-pow_right}
use native.Mathlib.Omega.{arith}
use lib.Dec.{lit<}
use lib.IntN.{ℤ, pos, negsuc, neg_ℤ, ◌-ℤ◌, +ℤ_idl}
use lib.ListN.{length, take, drop, get_or, length-drop}
use lib.Seq.{length-take-le}
use mir.Syntax.{w64}
use mir.Val.{SFits, to_z, of_z}
use mir.Facts.{to_z-of_z, to_z_pos}
use borrow.Author.Tests.{lt-ltb, le-ltb}
use Rattle.format.specs.Numbers.{signed}
use Rattle.format.specs.Decoding.{number, value_of}
use Rattle.fields.specs.Field.{NumberAt}

-- Equal widths have equally many values.
pub values_at : (n k : ℕ) → n ≡ k → 256 ^ n ≡ 256 ^ k
values_at n k e = ap (λ (x : ℕ). 256 ^ x) e

-- A greater width has no fewer values.
pub values_most : (i j : ℕ) → i ≤ j → 256 ^ i ≤ 256 ^ j
values_most i j h = pow-le-pow_right {n = 256} (omega arith) {i = i} {j = j} h

-- Eight bits a byte.
pub values_shifted : (k : ℕ) → k ≤ 4 → 1 * 2 ^ (8 * k) % 18446744073709551616 ≡ 256 ^ k
values_shifted zero h = refl
values_shifted (suc zero) h = refl
values_shifted (suc (suc zero)) h = refl
values_shifted (suc (suc (suc zero))) h = refl
values_shifted (suc (suc (suc (suc zero)))) h = refl
values_shifted (suc (suc (suc (suc (suc k))))) h = absurd (omega arith)

-- A number of k bytes.

-- n is what the first i of some bytes are.
pub record Rebuilt (xs : List ℕ) (i n : ℕ) : Type 0 where
  pub is : n ≡ number i xs
  pub small : n < 256 ^ i

-- Before the first byte.
pub rebuilt_start : (xs : List ℕ) → Rebuilt xs 0 0
unfolding number
rebuilt_start xs = record { is = refl; small = omega arith }

-- A number by its last byte.
number_last : (i : ℕ) (xs : List ℕ) → i < length xs → number (suc i) xs ≡ number i xs * 256 + get_or xs i 0
unfolding number
number_last i [] h = absurd (omega arith)
number_last zero (b ∷ xs) h = omega arith
number_last (suc i) (b ∷ xs) h =
    let z : b * 256 ^ suc i ≡ b * 256 ^ i * 256 = ap (λ (q : ℕ). b * q) (pow-suc 256 i) ∙ (omega arith) in
    omega (arith, number_last i xs (omega arith))

-- One byte more, of at most four.
pub rebuilt_step : (xs : List ℕ) (i n m : ℕ) → Rebuilt xs i n → i < length xs → get_or xs i 0 < 256 → m ≡ n * 256 + get_or xs i 0 → Rebuilt xs (i + 1) m
rebuilt_step xs i n m x h g e =
    let w : i + 1 ≡ suc i = omega arith in
    rw w (record { is = omega (arith, number_last i xs h, x.is); small = omega (arith, x.small, pow-suc 256 i) })

-- n is below 2^32 where a byte is still to come.
pub rebuilt_room : (xs : List ℕ) (i n : ℕ) → Rebuilt xs i n → i ≤ 4 → n < 4294967296
rebuilt_room xs i n x h = omega (arith, values_most i 4 h)

-- A number is that of its bytes alone.
number_take : (k : ℕ) (xs : List ℕ) → number k (take k xs) ≡ number k xs
unfolding number
number_take zero xs = refl
number_take (suc k) [] = refl
number_take (suc k) (b ∷ xs) = ap (λ (y : ℕ). b * 256 ^ k + y) (number_take k xs)

-- How many bytes stand from at to at + k.
pub taken : (s : List ℕ) (at k : ℕ) → at + k ≤ length s → length (take (at + k - at) (drop at s)) ≡ k
taken s at k h =
    let e : at + k - at ≡ k = omega arith in
    rw e (length-take-le k (drop at s) (rw length-drop (omega arith)))

-- After the last byte.
pub rebuilt_end : (s : List ℕ) (at k i n : ℕ) → Rebuilt (take (at + k - at) (drop at s)) i n → i ≡ k → NumberAt s at k n
rebuilt_end s at k i n x e =
    let d : at + k - at ≡ k = omega arith in
    let y = subst (λ (u : ℕ). Rebuilt (take (at + k - at) (drop at s)) u n) e x in
    let z = subst (λ (u : ℕ). Rebuilt (take u (drop at s)) k n) d y in
    record { is = z.is ∙ number_take k (drop at s); small = z.small }

-- Two's complement.

-- Minus a number below 2^63 is an i64.
minus_fits : (m : ℕ) → m < 2 ^ 63 → SFits w64 (neg_ℤ (pos m))
minus_fits zero h = record { sfits = lit< tt }
minus_fits (suc n) h = record { sfits = omega arith }

-- Taking a number from 0 is minus the number.
minus_nat : (m : ℕ) → m < 2 ^ 63 → pos 0 -ℤ to_z w64 m ≡ neg_ℤ (pos m)
minus_nat m h = ap (λ (y : ℤ). pos 0 -ℤ y) (to_z_pos w64 h) ∙ +ℤ_idl (neg_ℤ (pos m))

-- Minus the number after j.
minus_suc : (m j : ℕ) → m ≡ suc j → neg_ℤ (pos m) ≡ negsuc j
minus_suc m j e = rw e refl

-- Twice a number of at most four bytes.
pub twice_most : (s : List ℕ) (at k n : ℕ) → NumberAt s at k n → k ≤ 4 → 2 * n < 2 ^ 33
twice_most s at k n x l = omega (arith, values_most k 4 l)

-- What lacks to all the values, taken from 0, is an i64.
pub lack_fits : (n all k : ℕ) → all ≡ 256 ^ k → k ≤ 4 → SFits w64 (pos 0 -ℤ to_z w64 (all - n))
lack_fits n all k f l =
    let h : all - n < 2 ^ 63 = omega (arith, values_most k 4 l) in
    subst (SFits w64) (sym (minus_nat (all - n) h)) (minus_fits (all - n) h)

-- In the lower half of the values a number is its own value.
pub lower_half : (s : List ℕ) (at k n all : ℕ) → NumberAt s at k n → all ≡ 256 ^ k → k ≤ 4 → 2 * n < all
    → to_z w64 n ≡ value_of (signed k) (number k (drop at s))
unfolding value_of
lower_half s at k n all x f l h =
    let y = number k (drop at s) in
    let p = values_most k 4 l in
    to_z_pos w64 {n = n} (omega arith) ∙ rw (lt-ltb (2 * y) (256 ^ k) (omega arith)) (ap pos x.is)

-- In the upper half it stands for that number less all of them.
pub upper_half : (s : List ℕ) (at k n all : ℕ) → NumberAt s at k n → all ≡ 256 ^ k → k ≤ 4 → all ≤ 2 * n
    → to_z w64 (of_z w64 (pos 0 -ℤ to_z w64 (all - n))) ≡ value_of (signed k) (number k (drop at s))
unfolding value_of
upper_half s at k n all x f l h =
    let y = number k (drop at s) in
    let p = values_most k 4 l in
    ap (λ (z : ℤ). to_z w64 (of_z w64 z)) (minus_nat (all - n) (omega arith)) ∙ to_z-of_z {w = w64} (minus_fits (all - n) (omega arith))
    ∙ rw (le-ltb (2 * y) (256 ^ k) (omega arith)) (minus_suc (all - n) (256 ^ k - suc y) (omega arith))
