-- The magnitude and the sign of a signed number of 64 bits. Assumes nothing.
use mathlib.Core.Path.{◌≡◌, refl, sym, ap, subst, ◌∙◌}
use mathlib.Core.Bool.{true, false}
use Prim.Native.Nat.{ℕ, ◌≤◌, ◌<◌}
use native.Mathlib.Omega.{arith}
use lib.Dec.{T}
use borrow.Author.Tests.{le-ltb}
use lib.IntN.{ℤ, pos, negsuc}
use lib.Signed.{lt_z, mag}
use mir.Syntax.{Width, w64}
use mir.Val.{SFits, to_z, of_z}
use mir.Facts.{to_z-of_z}

-- What the machine reads back.
abbrev pub at64 : ℤ → ℤ
at64 z = to_z w64 (of_z w64 z)

-- It is the same number.
pub reads_back : (z : ℤ) → mag z < 9223372036854775808 → at64 z ≡ z
reads_back z l = to_z-of_z {w = w64} (record { sfits = l })

-- Below a bound it is so as the machine reads it back.
pub bound_back : (z : ℤ) (k : ℕ) → mag z < k → k ≤ 9223372036854775808 → mag (at64 z) < k
bound_back z k h l = subst (λ (y : ℤ). mag y < k) (sym (reads_back z (omega arith))) h

-- The sign.

below : (z : ℤ) → lt_z z (pos 0) ≡ true → z ≡ negsuc (mag z)
below (pos n) e = absurd (subst T (sym e ∙ le-ltb n 0 (omega arith)) tt)
below (negsuc n) e = refl

above : (z : ℤ) → lt_z z (pos 0) ≡ false → z ≡ pos (mag z)
above (pos n) e = refl
above (negsuc n) e = absurd (subst T e tt)

-- A number below 0 is −(n + 1), n being its magnitude;
pub negative : (z : ℤ) → at64 z ≡ z → lt_z (at64 z) (pos 0) ≡ true → z ≡ negsuc (mag z)
negative z b e = below z (ap (λ (y : ℤ). lt_z y (pos 0)) (sym b) ∙ e)

-- another is its magnitude.
pub natural : (z : ℤ) → at64 z ≡ z → lt_z (at64 z) (pos 0) ≡ false → z ≡ pos (mag z)
natural z b e = above z (ap (λ (y : ℤ). lt_z y (pos 0)) (sym b) ∙ e)

-- In fewer bits.

-- Where a number fits fewer bits, it is the same number there,
pub in_bits_lem : (w : Width) (x z : ℤ) → SFits w z → x ≡ z → to_z w (of_z w x) ≡ z
in_bits_lem w x z f e = ap (λ (y : ℤ). to_z w (of_z w y)) e ∙ to_z-of_z {w = w} f

-- also as the machine reads it back.
pub fewer : (w : Width) {x : ℤ} (z : ℤ) → SFits w z → mag z < 9223372036854775808 → x ≡ at64 z → to_z w (of_z w x) ≡ z
fewer w {x} z f l e = in_bits_lem w x z f (e ∙ reads_back z l)
