-- The tests of single fields and of all of them, as the machine makes them. Assumes nothing.
use Prim.Native.Nat.{ℕ}
use mathlib.Core.Path.{◌≡◌, refl, sym, ap, subst, ◌∙◌}
use mathlib.Core.Bool.{Bool, true, false, ◌&&◌}
use lib.Dec.{ltb}
use lib.IntN.{ℤ, pos, negsuc}
use lib.Signed.{mag}
use borrow.Author.Tests.{eq-eqb}
use Rattle.std.proofs.Common.{int_eq}
use Rattle.std.proofs.lemmas.Bool.Decides.{Decides-int_eq}
use Rattle.format.specs.Measures as F
use Rattle.format.proofs.FormLaws.{same_is}
use Rattle.escapement.specs.Count.{whole_of, scaled_of}
use Rattle.escapement.specs.declared.Pixels.{Pixels}
use Rattle.escapement.specs.declared.Scaled.{Scaled}
use Rattle.measures.specs.Said.{said}
use Rattle.measures.specs.declared.Measures.{Measures}
use Rattle.sign.proofs.SignLaws.{at64}
use Rattle.pick.specs.Picks.{plain_in, narrow_in, long_in}

-- Two tests that imply each other are equal.
pub alike : (a b : Bool) → (a ≡ true → b ≡ true) → (b ≡ true → a ≡ true) → a ≡ b
alike true b f g = sym (f refl)
alike false true f g = g refl
alike false false f g = refl

pub same_self : (z : ℤ) → F.same_scaled (F.scaled z) (F.scaled z) ≡ true
unfolding F.same_scaled
same_self (pos n) = eq-eqb n n refl
same_self (negsuc n) = eq-eqb n n refl

in_a_row : (a b c : Bool) → (a && b) && c ≡ a && (b && c)
in_a_row true b c = refl
in_a_row false b c = refl

-- The derived comparison of two counts, either way round.
same_is_derived : (a b : ℤ) → int_eq a b ≡ F.same_scaled (F.scaled a) (F.scaled b)
same_is_derived a b =
    alike _ _ (λ e. subst (λ (y : ℤ). F.same_scaled (F.scaled a) (F.scaled y) ≡ true) ((Decides-int_eq a b).0 e) (same_self a))
    (λ e. (Decides-int_eq a b).1 (ap (λ (x : F.Scaled). number x) (same_is (F.scaled a) (F.scaled b) e)))
  where
    number : F.Scaled → ℤ
    number (F.scaled z) = z

same_turned : (a b : ℤ) → int_eq a b ≡ F.same_scaled (F.scaled b) (F.scaled a)
same_turned a b = alike _ _ (λ e. (Decides-int_eq b a).1 (sym ((Decides-int_eq a b).0 e))) (λ e. (Decides-int_eq a b).1 (sym ((Decides-int_eq b a).0 e))) ∙ same_is_derived b a

-- All fields; a magnitude is taken of a number as the machine reads it back.

pub narrow_all : (top half : ℕ) (m : Measures) (dm : Pixels) (back : Scaled) {s z t : Bool} {n w h x y : ℕ}
    → at64 m.tfm ≡ m.tfm → at64 m.w ≡ m.w → at64 m.h ≡ m.h → at64 m.hoff ≡ m.hoff → at64 m.voff ≡ m.voff
    → scaled_of back ≡ F.to_scaled (whole_of dm) → s ≡ int_eq back.0 m.dx.0 → z ≡ int_eq m.dy.0 (pos 0) → t ≡ plain_in 16777216 (at64 m.tfm) → n ≡ dm.0
    → w ≡ mag (at64 m.w) → h ≡ mag (at64 m.h) → x ≡ mag (at64 m.hoff) → y ≡ mag (at64 m.voff)
    → ((((((s && z) && t) && ltb n top) && ltb w top) && ltb h top) && ltb x half) && ltb y half ≡ narrow_in top half (whole_of dm) (said m)
unfolding narrow_in F.to_scaled
narrow_all top half m dm back at aw ah ao av eb es ez et en ew eh eo ev =
    let same : int_eq back.0 m.dx.0 ≡ F.same_scaled (F.to_scaled (whole_of dm)) (scaled_of m.dx) = same_is_derived back.0 m.dx.0 ∙ ap (λ (x : F.Scaled). F.same_scaled x (scaled_of m.dx)) eb in
    rw (es ∙ same, ez ∙ same_turned m.dy.0 (pos 0), et ∙ ap (plain_in 16777216) at, en, ew ∙ ap mag aw, eh ∙ ap mag ah, eo ∙ ap mag ao, ev ∙ ap mag av) (simp in_a_row refl)

pub long_all : (m : Measures) {t dx dy x y : ℕ}
    → at64 m.tfm ≡ m.tfm → at64 m.dx.0 ≡ m.dx.0 → at64 m.dy.0 ≡ m.dy.0 → at64 m.hoff ≡ m.hoff → at64 m.voff ≡ m.voff
    → t ≡ mag (at64 m.tfm) → dx ≡ mag (at64 m.dx.0) → dy ≡ mag (at64 m.dy.0) → x ≡ mag (at64 m.hoff) → y ≡ mag (at64 m.voff)
    → (((ltb t 2147483648 && ltb dx 2147483648) && ltb dy 2147483648) && ltb x 2147483648) && ltb y 2147483648 ≡ long_in (said m)
unfolding long_in
long_all m at ax ay ao av et ex ey eo ev = rw (et ∙ ap mag at, ex ∙ ap mag ax, ey ∙ ap mag ay, eo ∙ ap mag ao, ev ∙ ap mag av) (simp in_a_row refl)
