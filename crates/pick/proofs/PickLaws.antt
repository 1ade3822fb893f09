-- The tests are those of the forms, and so the form picked is the first that holds. Assumes nothing.
use Prim.Native.Nat.{ℕ, suc, ◌+◌, ◌*◌, ◌/◌, ◌%◌, ◌^◌, ◌≤◌, ◌<◌}
use mathlib.Core.Path.{◌≡◌, refl, sym, ap, ◌∙◌}
use mathlib.Core.Logic.{◌⊎◌, inl, inr, ⊎_elim}
use mathlib.Core.List.{[], ◌∷◌}
use mathlib.Core.Bool.{Bool, true, false, ◌&&◌}
use native.Mathlib.Omega.{arith}
use lib.Dec.{ltb}
use lib.IntN.{ℤ, pos, negsuc, nat_abs}
use lib.ListN.{replicate, length-replicate}
use lib.Signed.{mag}
use borrow.Author.Tests.{ltb-true, leb-true, lt-ltb, le-ltb, le-leb, ne_eqb}
use Rattle.format.specs.Limits.{is_code}
use Rattle.format.specs.Refusals.{no_form, ok, fault}
use Rattle.format.specs.Numbers.{unsigned, signed, held, all_held}
use Rattle.format.specs.Measures as F
use Rattle.format.specs.Pieces.{Form, short, extended, long, kinds, values}
use Rattle.format.specs.Choice.{in_form, holds, first_form, order}
use Rattle.format.proofs.Tests.{test, and_true}
use Rattle.format.proofs.PieceLaws.{box_true, code_true}
use Rattle.format.proofs.FillLaws.{limits_most}
use Rattle.format.proofs.FormLaws.{holds_for, first_is, none_is}
use Rattle.escapement.specs.Count.{capped}
use Rattle.pick.specs.Picks.{Judged, tried, plain_in, pixels_below, scaled_in, narrow_in, long_in}
use Rattle.pick.proofs.TestLaws.{alike, same_self}

-- Tests in a row.

-- The tests of the escapement may stand behind that of the length.
turned : (a b l x : Bool) → (a && b) && (l && x) ≡ l && (a && (b && x))
turned true b true x = refl
turned true true false x = refl
turned true false false x = refl
turned false b true x = refl
turned false b false x = refl

twice : (l x : Bool) → l && (l && x) ≡ l && x
twice true x = refl
twice false x = refl

ended : (x : Bool) → x && true ≡ x
ended true = refl
ended false = refl

-- The fourth test fails.
fourth : (a b c : Bool) {d : Bool} (x : Bool) → d ≡ false → a && (b && (c && (d && x))) ≡ false
fourth true true true x e = rw e refl
fourth true true false x e = refl
fourth true false c x e = refl
fourth false b c x e = refl

less_alike : (a b c d : ℕ) → (a < b → c < d) → (c < d → a < b) → ltb a b ≡ ltb c d
less_alike a b c d f g = alike _ _ (λ e. lt-ltb c d (f (ltb-true a b e))) (λ e. lt-ltb a b (g (ltb-true c d e)))

-- One field.

-- A field's test by the value's magnitude.
plain_is : (k : ℕ) (z : ℤ) → held (unsigned k) z ≡ plain_in (256 ^ k) z
unfolding held
plain_is k (pos n) = refl
plain_is k (negsuc n) = refl

signed_is : (k half : ℕ) (z : ℤ) → 256 ^ k ≡ 2 * half → held (signed k) z ≡ ltb (mag z) half
unfolding held
signed_is k half (pos n) q = less_alike (2 * n) (256 ^ k) n half (λ h. omega arith) (λ h. omega arith)
signed_is k half (negsuc n) q = alike _ _ (λ e. let l = leb-true (2 * suc n) (256 ^ k) e in lt-ltb n half (omega arith)) (λ e. let l = ltb-true n half e in le-leb (2 * suc n) (256 ^ k) (omega arith))

-- What is known of a judged width, height and code.
pub record Small (m : F.Measures) : Type 0 where
  pub wide : mag m.w ≡ nat_abs m.w
  pub high : mag m.h ≡ nat_abs m.h
  pub coded : mag m.code ≡ nat_abs m.code
  pub width : nat_abs m.w ≤ 65536
  pub height : nat_abs m.h ≤ 65536
  pub code : nat_abs m.code < 256

pub small : (m : F.Measures) → Judged m → Small m
unfolding is_code
small m j =
    let b = box_true m.w m.h j.limits in
    let l = limits_most (nat_abs m.w) (nat_abs m.h) b.2 in
    let c = code_true m.code j.code in
    record {
      wide = sym (ap mag b.0);
      high = sym (ap mag b.1);
      coded = sym (ap mag c.0);
      width = l.0;
      height = l.1;
      code = ltb-true (nat_abs m.code) 256 c.1;
    }

-- All fields.

-- Those of the first two forms, with dm pixels, behind a length that is held.
narrow_fields_lem : (k half : ℕ) (m : F.Measures) (dm n : ℕ) → 256 ^ k ≡ 2 * half → n < 256 ^ k → Small m
    → all_held (unsigned k ∷ unsigned 1 ∷ unsigned 3 ∷ unsigned k ∷ unsigned k ∷ unsigned k ∷ signed k ∷ signed k ∷ [])
    (pos n, (pos (nat_abs m.code), (m.tfm, (pos dm, (pos (nat_abs m.w), (pos (nat_abs m.h), (m.hoff, (m.voff, tt))))))))
    ≡ plain_in 16777216 m.tfm && (ltb dm (256 ^ k) && (ltb (mag m.w) (256 ^ k) && (ltb (mag m.h) (256 ^ k) && (ltb (mag m.hoff) half && ltb (mag m.voff) half))))
unfolding all_held
narrow_fields_lem k half m dm n q l s =
    rw (
      plain_is k (pos n),
      plain_is 1 (pos (nat_abs m.code)),
      plain_is 3 m.tfm,
      plain_is k (pos dm),
      plain_is k (pos (nat_abs m.w)),
      plain_is k (pos (nat_abs m.h)),
      lt-ltb n (256 ^ k) l,
      lt-ltb (nat_abs m.code) 256 s.code,
      signed_is k half m.hoff q,
      signed_is k half m.voff q,
      ended (ltb (mag m.voff) half),
      s.wide,
      s.high,
    )
    refl

short_fields : (m : F.Measures) (n : ℕ) (e : F.Pixels) → Small m → all_held (kinds short) (values short e (in_form 0 false m [] short) (8 + n))
    ≡ plain_in 16777216 m.tfm && (pixels_below 256 e && (ltb (mag m.w) 256 && (ltb (mag m.h) 256 && (ltb (mag m.hoff) 128 && ltb (mag m.voff) 128))))
unfolding in_form
short_fields m n (F.pixels dm) s = narrow_fields_lem 1 128 m dm ((8 + n) % 256) refl (omega arith) s

extended_fields : (m : F.Measures) (n : ℕ) (e : F.Pixels) → Small m → all_held (kinds extended) (values extended e (in_form 0 false m [] extended) (13 + n))
    ≡ plain_in 16777216 m.tfm && (pixels_below 65536 e && (ltb (mag m.w) 65536 && (ltb (mag m.h) 65536 && (ltb (mag m.hoff) 32768 && ltb (mag m.voff) 32768))))
unfolding in_form
extended_fields m n (F.pixels dm) s = narrow_fields_lem 2 32768 m dm ((13 + n) % 65536) refl (omega arith) s

long_fields : (m : F.Measures) (n : ℕ) (dx dy : F.Scaled) → Small m → all_held (kinds long) (values long (dx, dy) (in_form 0 false m [] long) (28 + n))
    ≡ ltb (28 + n) 2147483648 && (ltb (mag m.tfm) 2147483648 && (scaled_in 2147483648 dx && (scaled_in 2147483648 dy && (ltb (mag m.hoff) 2147483648 && ltb (mag m.voff) 2147483648))))
unfolding in_form all_held
long_fields m n (F.scaled dx) (F.scaled dy) s =
    rw (
      signed_is 4 2147483648 (pos (28 + n)) refl,
      signed_is 4 2147483648 (pos (nat_abs m.code)) refl,
      signed_is 4 2147483648 m.tfm refl,
      signed_is 4 2147483648 dx refl,
      signed_is 4 2147483648 dy refl,
      signed_is 4 2147483648 (pos (nat_abs m.w)) refl,
      signed_is 4 2147483648 (pos (nat_abs m.h)) refl,
      signed_is 4 2147483648 m.hoff refl,
      signed_is 4 2147483648 m.voff refl,
      lt-ltb (nat_abs m.code) 2147483648 (omega (arith, s.code)),
      lt-ltb (nat_abs m.w) 2147483648 (omega (arith, s.width)),
      lt-ltb (nat_abs m.h) 2147483648 (omega (arith, s.height)),
      ended (ltb (mag m.voff) 2147483648),
    )
    refl

-- The three forms.

-- The code's test of each form is that of the definitions.
module _ (m : F.Measures) (n : ℕ) (j : Judged m) where
  pub short_is : holds m (tried m n short) ≡ ltb n 1016 && narrow_in 256 128 (F.whole_pixels m.dx) m
  unfolding narrow_in
  short_is =
      let p = F.whole_pixels m.dx in
      holds_for 0 false m (replicate n 0) short
      ∙ rw (length-replicate {A = ℕ} n 0, less_alike (8 + n) 1024 n 1016 (λ h. omega arith) (λ h. omega arith), short_fields m n p (small m j))
      (turned (F.same_scaled (F.to_scaled p) m.dx) (F.same_scaled (F.to_scaled (F.pixels 0)) m.dy) (ltb n 1016) _)

  pub extended_is : holds m (tried m n extended) ≡ ltb n 196595 && narrow_in 65536 32768 (F.whole_pixels m.dx) m
  unfolding narrow_in
  extended_is =
      let p = F.whole_pixels m.dx in
      holds_for 0 false m (replicate n 0) extended
      ∙ rw (length-replicate {A = ℕ} n 0, less_alike (13 + n) 196608 n 196595 (λ h. omega arith) (λ h. omega arith), extended_fields m n p (small m j))
      (turned (F.same_scaled (F.to_scaled p) m.dx) (F.same_scaled (F.to_scaled (F.pixels 0)) m.dy) (ltb n 196595) _)

  pub long_is : holds m (tried m n long) ≡ ltb n 2147483620 && long_in m
  unfolding long_in
  long_is =
      holds_for 0 false m (replicate n 0) long
      ∙ rw (length-replicate {A = ℕ} n 0, same m.dx, same m.dy, long_fields m n m.dx m.dy (small m j), less_alike (28 + n) 2147483648 n 2147483620 (λ h. omega arith) (λ h. omega arith))
      (twice (ltb n 2147483620) _)
    where
      same : (d : F.Scaled) → F.same_scaled d d ≡ true
      same (F.scaled z) = same_self z

-- Pixels beyond 65,535.

-- Where the pixels to try are more than 65,535, neither they nor 0 are held as the escapement.
beyond : (top half : ℕ) (m : F.Measures) (d : F.Scaled) → m.dx ≡ d → top ≤ 65536
    → (capped (F.whole_pixels d) ≡ F.whole_pixels d) ⊎ ((narrow_in top half (capped (F.whole_pixels d)) m ≡ false) × (narrow_in top half (F.whole_pixels d) m ≡ false))
unfolding F.whole_pixels F.to_scaled F.same_scaled narrow_in
beyond top half m (F.scaled (pos n)) e l =
    test (ltb 65535 (n / 65536))
    (λ t. let h = ltb-true 65535 (n / 65536) t in
    inr (rw (e, t, ne_eqb 0 n (λ q. omega arith)) refl, fourth (F.same_scaled (F.to_scaled (F.pixels (n / 65536))) m.dx) (F.same_scaled (F.to_scaled (F.pixels 0)) m.dy) (plain_in 16777216 m.tfm) _ (le-ltb (n / 65536) top (omega arith))))
    (λ t. inl (rw t refl))
beyond top half m (F.scaled (negsuc n)) e l = inl refl

-- The test with the pixels that the code tries is the test with those to try.
same_test : (top half : ℕ) (m : F.Measures) → top ≤ 65536 → narrow_in top half (F.whole_pixels m.dx) m ≡ narrow_in top half (capped (F.whole_pixels m.dx)) m
same_test top half m l =
    ⊎_elim (λ e. ap (λ (p : F.Pixels). narrow_in top half p m) (sym e)) (λ e. e.1 ∙ sym e.0) (beyond top half m m.dx refl l)

-- Where it holds, they are the pixels to try.
same_pixels : (top half : ℕ) (m : F.Measures) → top ≤ 65536 → narrow_in top half (capped (F.whole_pixels m.dx)) m ≡ true → capped (F.whole_pixels m.dx) ≡ F.whole_pixels m.dx
same_pixels top half m l h =
    ⊎_elim (λ e. e) (λ e. absurd (let z : ◌≡◌ {A = ℕ} 0 1 = cc in omega arith)) (beyond top half m m.dx refl l)

-- The offsets of a form that holds.

pub narrow_offsets : (top half n most : ℕ) (dm : F.Pixels) (m : F.Measures) {s : Bool} → s ≡ narrow_in top half dm m → ltb n most && s ≡ true → (mag m.hoff < half) × (mag m.voff < half)
unfolding narrow_in
narrow_offsets top half n most dm m e t =
    let h0 = sym e ∙ (and_true (ltb n most) _ t).1 in
    let h1 = (and_true (F.same_scaled (F.to_scaled dm) m.dx) _ h0).1 in
    let h2 = (and_true (F.same_scaled (F.to_scaled (F.pixels 0)) m.dy) _ h1).1 in
    let h3 = (and_true (plain_in 16777216 m.tfm) _ h2).1 in
    let h4 = (and_true (pixels_below top dm) _ h3).1 in
    let h5 = (and_true (ltb (mag m.w) top) _ h4).1 in
    let h6 = (and_true (ltb (mag m.h) top) _ h5).1 in
    let h7 = and_true (ltb (mag m.hoff) half) _ h6 in
    (ltb-true (mag m.hoff) half h7.0, ltb-true (mag m.voff) half h7.1)

pub long_offsets : (n most : ℕ) (m : F.Measures) {s : Bool} → s ≡ long_in m → ltb n most && s ≡ true → (mag m.hoff < 2147483648) × (mag m.voff < 2147483648)
unfolding long_in
long_offsets n most m e t =
    let h0 = sym e ∙ (and_true (ltb n most) _ t).1 in
    let h1 = (and_true (ltb (mag m.tfm) 2147483648) _ h0).1 in
    let h2 = (and_true (scaled_in 2147483648 m.dx) _ h1).1 in
    let h3 = (and_true (scaled_in 2147483648 m.dy) _ h2).1 in
    let h4 = and_true (ltb (mag m.hoff) 2147483648) _ h3 in
    (ltb-true (mag m.hoff) 2147483648 h4.0, ltb-true (mag m.voff) 2147483648 h4.1)

-- What the function answers.

module _ (m : F.Measures) (n : ℕ) (dm : F.Pixels) {s : Bool} (j : Judged m) (d : dm ≡ capped (F.whole_pixels m.dx)) (e : s ≡ narrow_in 256 128 dm m) where
  short_held : holds m (tried m n short) ≡ ltb n 1016 && s
  short_held = short_is m n j ∙ ap (λ (b : Bool). ltb n 1016 && b) (same_test 256 128 m (omega arith) ∙ ap (λ (p : F.Pixels). narrow_in 256 128 p m) (sym d) ∙ sym e)

  pub pick_short : ltb n 1016 && s ≡ true → (first_form m (tried m n) ≡ ok (tried m n short)) × (dm ≡ F.whole_pixels m.dx)
  pick_short t = (
    first_is m (tried m n) short record { held = short_held ∙ t; earlier = λ k h. absurd (omega arith) },
    d ∙ same_pixels 256 128 m (omega arith) (ap (λ (p : F.Pixels). narrow_in 256 128 p m) (sym d) ∙ sym e ∙ (and_true (ltb n 1016) s t).1),
  )

  module _ {x : Bool} (g : x ≡ narrow_in 65536 32768 dm m) (a : ltb n 1016 && s ≡ false) where
    extended_held : holds m (tried m n extended) ≡ ltb n 196595 && x
    extended_held = extended_is m n j ∙ ap (λ (b : Bool). ltb n 196595 && b) (same_test 65536 32768 m (omega arith) ∙ ap (λ (p : F.Pixels). narrow_in 65536 32768 p m) (sym d) ∙ sym g)

    pub pick_extended : ltb n 196595 && x ≡ true → (first_form m (tried m n) ≡ ok (tried m n extended)) × (dm ≡ F.whole_pixels m.dx)
    pick_extended t = (
      first_is m (tried m n) extended record { held = extended_held ∙ t; earlier = first },
      d ∙ same_pixels 65536 32768 m (omega arith) (ap (λ (p : F.Pixels). narrow_in 65536 32768 p m) (sym d) ∙ sym g ∙ (and_true (ltb n 196595) x t).1),
    )
      where
        first : (k : Form) → order k < 1 → holds m (tried m n k) ≡ false
        first short h = short_held ∙ a
        first extended h = absurd (omega arith)
        first long h = absurd (omega arith)

    module _ {l : Bool} (y : l ≡ long_in m) (b : ltb n 196595 && x ≡ false) where
      long_held : holds m (tried m n long) ≡ ltb n 2147483620 && l
      long_held = long_is m n j ∙ ap (λ (c : Bool). ltb n 2147483620 && c) (sym y)

      pub pick_long : ltb n 2147483620 && l ≡ true → first_form m (tried m n) ≡ ok (tried m n long)
      pick_long t = first_is m (tried m n) long record { held = long_held ∙ t; earlier = first }
        where
          first : (k : Form) → order k < 2 → holds m (tried m n k) ≡ false
          first short h = short_held ∙ a
          first extended h = extended_held ∙ b
          first long h = absurd (omega arith)

      pub pick_none : ltb n 2147483620 && l ≡ false → first_form m (tried m n) ≡ fault no_form
      pick_none t = none_is m (tried m n) none
        where
          none : (k : Form) → holds m (tried m n k) ≡ false
          none short = short_held ∙ a
          none extended = extended_held ∙ b
          none long = long_held ∙ t
