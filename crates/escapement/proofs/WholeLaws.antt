-- The pixels to try for an escapement, as the machine finds them. Assumes nothing.
use Prim.Native.Nat.{ℕ, ◌/◌}
use mathlib.Core.Path.{◌≡◌, refl, sym, ap, subst, ◌∙◌}
use mathlib.Core.Bool.{Bool, cond}
use lib.Dec.{ltb}
use lib.IntN.{ℤ, pos, negsuc}
use lib.Signed.{mag}
use Rattle.format.specs.Measures as F
use Rattle.escapement.specs.Count.{capped}

pub whole_below : (z : ℤ) → z ≡ negsuc (mag z) → F.pixels 0 ≡ capped (F.whole_pixels (F.scaled z))
unfolding F.whole_pixels
whole_below z e = subst (λ (y : ℤ). F.pixels 0 ≡ capped (F.whole_pixels (F.scaled y))) (sym e) refl

pub whole_above : (z : ℤ) {r : ℕ} (b : Bool) → z ≡ pos (mag z) → r ≡ mag z → ltb 65535 (r / 65536) ≡ b → F.pixels (cond b 0 (r / 65536)) ≡ capped (F.whole_pixels (F.scaled z))
unfolding F.whole_pixels
whole_above z {r} b e q t =
    ap (λ (a : Bool). F.pixels (cond a 0 (r / 65536))) (sym t) ∙ ap (λ (n : ℕ). F.pixels (cond (ltb 65535 (n / 65536)) 0 (n / 65536))) q
    ∙ subst (λ (y : ℤ). F.pixels (cond (ltb 65535 (mag z / 65536)) 0 (mag z / 65536)) ≡ capped (F.whole_pixels (F.scaled y))) (sym e) refl
