-- The form that packing chooses is the first that holds; of the raster only the number of its bytes matters; and the packet says the
-- measures that were handed in. Assumes nothing.
use Prim.Native.Nat.{ℕ, ◌+◌, ◌≤◌, ◌<◌}
use mathlib.Core.Path.{◌≡◌, refl, sym, ap, ◌∙◌, subst}
use mathlib.Core.Logic.{◌↔◌}
use mathlib.Core.List.{List, []}
use mathlib.Core.Bool.{Bool, true, false, cond, ◌&&◌}
use native.Mathlib.Omega.{arith}
use lib.Dec.{ltb}
use lib.IntN.{pos, negsuc}
use lib.ListN.{length, replicate, length-replicate}
use borrow.Author.Tests.{eqb-true}
use Rattle.format.specs.Limits.{within_limits, is_code}
use Rattle.format.specs.Refusals.{Refusal, no_form, Result, ok, fault}
use Rattle.format.specs.Numbers.{Values, all_held}
use Rattle.format.specs.Measures.{pixels, Scaled, scaled, same_scaled, Measures}
use Rattle.format.specs.Pieces.{Form, short, extended, long, Escapement, kinds, fixed, length_top, Packet, values, fits, PacketOk, dx_of, dy_of, measures}
use Rattle.format.specs.Choice.{escapement_in, in_form, holds, first_form, order, FirstHeld}
use Rattle.format.proofs.Tests.{test, and_true}
use Rattle.format.proofs.ItemLaws.{fault≢}
use Rattle.format.proofs.PieceLaws.{box_true, code_true}

-- f, the black bit and the raster bytes.

-- The values of the fields before n raster bytes: f, the black bit and the bytes do not stand in them.
abbrev pub values_for : Measures → ℕ → (k : Form) → Values (kinds k)
values_for m n k = values k (escapement_in k m) (in_form 0 false m [] k) (fixed k + n)

pub values_for_lem : (f : ℕ) (black : Bool) (m : Measures) (raster : List ℕ) (k : Form)
    → values k (escapement_in k m) (in_form f black m raster k) (fixed k + length raster) ≡ values_for m (length raster) k
unfolding in_form
values_for_lem f black m raster k = go k (escapement_in k m)
  where
    go : (j : Form) (e : Escapement j) → values j e (in_form f black m raster k) (fixed j + length raster) ≡ values j e (in_form 0 false m [] k) (fixed j + length raster)
    go short (pixels dm) = refl
    go extended (pixels dm) = refl
    go long (scaled dx, scaled dy) = refl

-- What it is for a form to hold, with n raster bytes.
pub holds_for : (f : ℕ) (black : Bool) (m : Measures) (raster : List ℕ) (k : Form) → holds m (in_form f black m raster k)
    ≡ (same_scaled (dx_of k (escapement_in k m)) m.dx && same_scaled (dy_of k (escapement_in k m)) m.dy)
    && (ltb (fixed k + length raster) (length_top k) && all_held (kinds k) (values_for m (length raster) k))
unfolding holds fits in_form measures
holds_for f black m raster k = rw (values_for_lem f black m raster k) refl

-- What f, the black bit and the raster bytes are does not matter to the form; their number does.
pub form_length : (f : ℕ) (black : Bool) (m : Measures) (raster : List ℕ) (k : Form)
    → holds m (in_form f black m raster k) ≡ holds m (in_form 0 false m (replicate (length raster) 0) k)
form_length f black m raster k =
    rw (holds_for f black m raster k, holds_for 0 false m (replicate (length raster) 0) k, length-replicate {A = ℕ} (length raster) 0) refl

-- The first form that holds.

-- What an answer says.
abbrev Says : Measures → (Form → Packet) → Result Packet → Type 0
Says m p (ok q) = (k : Form) × FirstHeld m p k × (q ≡ p k)
Says m p (fault x) = (k : Form) → holds m (p k) ≡ false

first_says : (m : Measures) (p : Form → Packet) → Says m p (first_form m p)
unfolding first_form
first_says m p = go (holds m (p short)) (holds m (p extended)) (holds m (p long)) refl refl refl
  where
    go : (a b c : Bool) → holds m (p short) ≡ a → holds m (p extended) ≡ b → holds m (p long) ≡ c
        → Says m p (cond a (ok (p short)) (cond b (ok (p extended)) (cond c (ok (p long)) (fault no_form))))
    go true b c x y z = (short, record { held = x; earlier = λ j h. absurd (omega arith) }, refl)
    go false true c x y z = (extended, record { held = y; earlier = λ j. first j }, refl)
      where
        first : (j : Form) → order j < 1 → holds m (p j) ≡ false
        first short h = x
        first extended h = absurd (omega arith)
        first long h = absurd (omega arith)
    go false false true x y z = (long, record { held = z; earlier = λ j. first j }, refl)
      where
        first : (j : Form) → order j < 2 → holds m (p j) ≡ false
        first short h = x
        first extended h = y
        first long h = absurd (omega arith)
    go false false false x y z = never
      where
        never : (k : Form) → holds m (p k) ≡ false
        never short = x
        never extended = y
        never long = z

pub first_is : (m : Measures) (p : Form → Packet) (k : Form) → FirstHeld m p k → first_form m p ≡ ok (p k)
unfolding first_form
first_is m p short x = rw x.held refl
first_is m p extended x = rw (x.earlier short (omega arith), x.held) refl
first_is m p long x = rw (x.earlier short (omega arith), x.earlier extended (omega arith), x.held) refl

pub none_is : (m : Measures) (p : Form → Packet) → ((k : Form) → holds m (p k) ≡ false) → first_form m p ≡ fault no_form
unfolding first_form
none_is m p x = rw (x short, x extended, x long) refl

-- A packet is chosen exactly if it is that of the first form that holds,
pub first_exactly : (m : Measures) (p : Form → Packet) (q : Packet) → (first_form m p ≡ ok q) ↔ ((k : Form) × FirstHeld m p k × (q ≡ p k))
first_exactly m p q = (λ e. subst (Says m p) e (first_says m p), λ x. first_is m p x.0 x.1 ∙ ap ok (sym x.2))

-- and it is 20 exactly if none holds.
pub none_exactly : (m : Measures) (p : Form → Packet) → (first_form m p ≡ fault no_form) ↔ ((k : Form) → holds m (p k) ≡ false)
none_exactly m p = (λ e. subst (Says m p) e (first_says m p), λ x. none_is m p x)

-- Nothing else is refused.
pub first_fault : (m : Measures) (p : Form → Packet) (x : Refusal) → first_form m p ≡ fault x → x ≡ no_form
unfolding first_form
first_fault m p x e =
    test (holds m (p short)) (λ t. absurd (fault≢ (sym (rw t at e))))
    (λ t. let e1 = rw t at e in
    test (holds m (p extended)) (λ u. absurd (fault≢ (sym (rw u at e1))))
    (λ u. let e2 = rw u at e1 in
    test (holds m (p long)) (λ v. absurd (fault≢ (sym (rw v at e2)))) (λ v. let e3 : fault no_form ≡ fault x = rw v at e2 in cc)))

-- The form for a raster's length is the form for the raster.

-- The form of the packet chosen is the first that holds.
pub first_of : (f : ℕ) (black : Bool) (m : Measures) (raster : List ℕ) (k : Form) → first_form m (in_form f black m raster) ≡ ok (in_form f black m raster k)
    → FirstHeld m (in_form f black m raster) k
unfolding in_form
first_of f black m raster k e =
    let x = (first_exactly m (in_form f black m raster) (in_form f black m raster k)).0 e in
    subst (FirstHeld m (in_form f black m raster)) (sym (ap (λ (p : Packet). p.form) x.2)) x.1

module _ (f : ℕ) (black : Bool) (m : Measures) (raster : List ℕ) where
  -- The packets tried for its length.
  abbrev tried : Form → Packet
  tried = in_form 0 false m (replicate (length raster) 0)

  -- The first form for a raster's length is the first for the raster,
  pub first_length : (k : Form) → first_form m tried ≡ ok (tried k) → first_form m (in_form f black m raster) ≡ ok (in_form f black m raster k)
  first_length k e =
      let x = first_of 0 false m (replicate (length raster) 0) k e in
      first_is m (in_form f black m raster) k record {
        held = form_length f black m raster k ∙ x.held;
        earlier = λ j h. form_length f black m raster j ∙ x.earlier j h;
      }

  -- and none holds for it where none does.
  pub none_length : first_form m tried ≡ fault no_form → first_form m (in_form f black m raster) ≡ fault no_form
  none_length e = none_is m (in_form f black m raster) (λ k. form_length f black m raster k ∙ (none_exactly m tried).0 e k)

-- The packet says what was handed in.

pub same_is : (a b : Scaled) → same_scaled a b ≡ true → a ≡ b
unfolding same_scaled
same_is (scaled (pos a)) (scaled (pos b)) e = ap (λ (n : ℕ). scaled (pos n)) (eqb-true a b e)
same_is (scaled (pos a)) (scaled (negsuc b)) e = absurd (let z : ◌≡◌ {A = ℕ} 0 1 = cc in omega arith)
same_is (scaled (negsuc a)) (scaled (pos b)) e = absurd (let z : ◌≡◌ {A = ℕ} 0 1 = cc in omega arith)
same_is (scaled (negsuc a)) (scaled (negsuc b)) e = ap (λ (n : ℕ). scaled (negsuc n)) (eqb-true a b e)

module _ (f : ℕ) (black : Bool) (m : Measures) (raster : List ℕ) (k : Form) (l : within_limits m.w m.h ≡ true) (c : is_code m.code ≡ true)
    (h : holds m (in_form f black m raster k) ≡ true) where
  -- A packet whose form holds has the measures that were handed in,
  pub form_measures : measures (in_form f black m raster k) ≡ m
  unfolding holds measures in_form
  form_measures =
      let x = (and_true (same_scaled (dx_of k (escapement_in k m)) m.dx && same_scaled (dy_of k (escapement_in k m)) m.dy) _ h).0 in
      let y = and_true (same_scaled (dx_of k (escapement_in k m)) m.dx) _ x in
      let b = box_true m.w m.h l in
      rw (
        (code_true m.code c).0,
        b.0,
        b.1,
        same_is (dx_of k (escapement_in k m)) m.dx y.0,
        same_is (dy_of k (escapement_in k m)) m.dy y.1,
      )
      refl

  -- and is one that 01 allows.
  pub form_ok : f ≤ 14 → PacketOk (in_form f black m raster k)
  unfolding holds in_form measures
  form_ok g =
      record {
        f = g;
        fits = (and_true (same_scaled (dx_of k (escapement_in k m)) m.dx && same_scaled (dy_of k (escapement_in k m)) m.dy) _ h).1;
        limits = (box_true m.w m.h l).2;
        code = (code_true m.code c).1;
      }
