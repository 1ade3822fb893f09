-- Laws of the limits on w, h and the code: of numbers in any order of looking, and of signed fields as the numbers that their bytes are.
-- Assumes nothing.
use Prim.Native.Nat.{ℕ, zero, suc, ◌-◌, ◌*◌, ◌≤◌, ◌<◌}
use mathlib.Core.Path.{◌≡◌, refl, sym, ◌∙◌}
use mathlib.Core.Bool.{true, false}
use native.Mathlib.Nat.{mul-le-mul_right, mul-le-mul_left}
use native.Mathlib.Omega.{arith}
use lib.Dec.{ltb, leb, eqb}
use lib.IntN.{ℤ, pos, negsuc, nat_abs}
use borrow.Author.Tests.{le-ltb, lt-leb, ne_eqb}
use Rattle.format.specs.Limits.{in_limits, within_limits, is_code}
use Rattle.format.specs.Numbers.{twos}

-- w and h.

-- With no width there is no height.
pub limits_zero : (w h : ℕ) → w ≡ 0 → eqb h 0 ≡ in_limits w h
unfolding in_limits
limits_zero zero zero e = refl
limits_zero zero (suc h) e = ne_eqb (suc h) 0 (λ q. omega arith)
limits_zero (suc w) h e = absurd (omega arith)

-- With a width there is a height.
pub limits_flat : (w h : ℕ) → 0 < w → h ≡ 0 → false ≡ in_limits w h
unfolding in_limits
limits_flat zero h l e = absurd (omega arith)
limits_flat (suc w) zero l e = refl
limits_flat (suc w) (suc h) l e = absurd (omega arith)

-- With both, the product decides,
pub limits_both : (w h : ℕ) → 0 < w → 0 < h → leb (w * h) 65536 ≡ in_limits w h
unfolding in_limits
limits_both zero h l k = absurd (omega arith)
limits_both (suc w) zero l k = absurd (omega arith)
limits_both (suc w) (suc h) l k = refl

-- and one that is alone too large makes the product so.
limits_large : (w h : ℕ) → 0 < w → 0 < h → 65536 < w * h → false ≡ in_limits w h
limits_large w h l k m = sym (lt-leb (w * h) 65536 m) ∙ limits_both w h l k

pub limits_wide : (w h : ℕ) → 65536 < w → 0 < h → false ≡ in_limits w h
limits_wide w h l k = limits_large w h (omega arith) k (let p = mul-le-mul_left {m = 1} {n = h} w (omega arith) in omega arith)

pub limits_high : (w h : ℕ) → 0 < w → 65536 < h → false ≡ in_limits w h
limits_high w h l k = limits_large w h l (omega arith) (let p = mul-le-mul_right {m = 1} {n = w} h (omega arith) in omega arith)

-- Fields as the numbers that their bytes are.

-- Above −2^31 − 1.
abbrev pub Low : ℤ → Type 0
Low (pos n) = Unit {0}
Low (negsuc n) = suc n ≤ 2147483648

-- What is alone too large is outside, whatever the other is.
far_w : (w h : ℕ) → 65536 < w → in_limits w h ≡ false
far_w w zero l = sym (limits_flat w 0 (omega arith) refl)
far_w w (suc h) l = sym (limits_wide w (suc h) l (omega arith))

far_h : (w h : ℕ) → 65536 < h → in_limits w h ≡ false
far_h zero h l = sym (limits_zero 0 h refl) ∙ ne_eqb h 0 (λ q. omega arith)
far_h (suc w) h l = sym (limits_high (suc w) h (omega arith) l)

-- The numbers of negative fields are too large, so the checks 7 and 8 on the numbers are those on the values.
pub limits_raw : (w h : ℤ) → Low w → Low h → within_limits w h ≡ in_limits (twos 4 w) (twos 4 h)
unfolding within_limits twos
limits_raw (pos w) (pos h) l k = refl
limits_raw (pos w) (negsuc h) l k = sym (far_h w (4294967296 - suc h) (omega arith))
limits_raw (negsuc w) h l k = sym (far_w (4294967296 - suc w) (twos 4 h) (omega arith))

pub code_raw : (c : ℤ) → Low c → is_code c ≡ ltb (twos 4 c) 256
unfolding is_code twos
code_raw (pos c) l = refl
code_raw (negsuc c) l = sym (le-ltb (4294967296 - suc c) 256 (omega arith))

-- Values that pass are their own numbers.
pub limits_own : (w h : ℤ) → within_limits w h ≡ true → (nat_abs w ≡ twos 4 w) × (nat_abs h ≡ twos 4 h)
unfolding within_limits twos
limits_own (pos w) (pos h) e = (refl, refl)
limits_own (pos w) (negsuc h) e = cc
limits_own (negsuc w) h e = cc

pub code_own : (c : ℤ) → is_code c ≡ true → nat_abs c ≡ twos 4 c
unfolding is_code twos
code_own (pos c) e = refl
code_own (negsuc c) e = cc
