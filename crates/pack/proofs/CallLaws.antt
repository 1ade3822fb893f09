-- What the call knows behind its first test: w and h are within the limits, and their magnitudes are they. Assumes nothing.
use Prim.Native.Nat.{ℕ, ◌*◌, ◌≤◌}
use mathlib.Core.Path.{◌≡◌, refl, sym, ap, ◌∙◌}
use mathlib.Core.Bool.{Bool, true}
use native.Mathlib.Omega.{arith}
use lib.IntN.{ℤ, pos, negsuc, nat_abs}
use lib.Signed.{mag}
use Rattle.format.specs.Limits.{within_limits, is_code}
use Rattle.format.proofs.PieceLaws.{box_true}
use Rattle.format.proofs.FillLaws.{limits_small}
use Rattle.sign.proofs.SignLaws.{at64}

-- The test is that of the numbers themselves.
pub test_is : (w h : ℤ) (t s : Bool) → at64 w ≡ w → at64 h ≡ h → t ≡ within_limits (at64 w) (at64 h) → t ≡ s → within_limits w h ≡ s
test_is w h t s x y e z = sym (e ∙ rw (x, y) refl) ∙ z

pub code_test : (z : ℤ) (t s : Bool) → at64 z ≡ z → t ≡ is_code (at64 z) → t ≡ s → is_code z ≡ s
code_test z t s x e q = sym (e ∙ rw x refl) ∙ q

-- It holds, and i and k are w and h.
pub record Known (w h : ℤ) (i k : ℕ) : Type 0 where
  pub limits : within_limits w h ≡ true
  pub wide : i ≡ nat_abs w
  pub high : k ≡ nat_abs h
  pub small : i * k ≤ 65536

mag_is : (z : ℤ) → pos (nat_abs z) ≡ z → mag z ≡ nat_abs z
mag_is (pos n) e = refl
mag_is (negsuc n) e = absurd (let z : ◌≡◌ {A = ℕ} 0 1 = cc in omega arith)

pub known : (w h : ℤ) (t : Bool) (i k : ℕ) → at64 w ≡ w → at64 h ≡ h → t ≡ within_limits (at64 w) (at64 h) → t ≡ true → i ≡ mag (at64 w) → k ≡ mag (at64 h) → Known w h i k
known w h t i k x y e z p q =
    let l = test_is w h t true x y e z in
    let b = box_true w h l in
    let a = p ∙ ap mag x ∙ mag_is w b.0 in
    let c = q ∙ ap mag y ∙ mag_is h b.1 in
    record { limits = l; wide = a; high = c; small = rw (a, c) (limits_small (nat_abs w) (nat_abs h) b.2) }
