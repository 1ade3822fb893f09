-- The numbers of a form that holds fit their bytes, and those bytes are the head of its packet. Assumes nothing.
use Prim.Native.Nat.{ℕ, ◌+◌, ◌*◌, ◌/◌, ◌%◌, ◌^◌, ◌≤◌, ◌<◌}
use mathlib.Core.Path.{◌≡◌, refl, sym, ap, subst, ◌∙◌}
use mathlib.Core.List.{List, [], ◌∷◌, ◌++◌}
use mathlib.Core.Bool.{Bool, true, false, ◌&&◌}
use native.Mathlib.Omega.{arith}
use lib.Dec.{ltb}
use lib.IntN.{ℤ, pos, negsuc, nat_abs}
use lib.ListN.{length, drop, replicate, length-replicate}
use lib.Signed.{mag}
use mir.Syntax.{w8, w16, w32}
use mir.Val.{to_z, of_z}
use borrow.Author.Tests.{ltb-true}
use Rattle.format.specs.Refusals.{ok}
use Rattle.format.specs.Numbers.{bytes, Kind, unsigned, signed, held, twos, Values, all_held, size, field_bytes}
use Rattle.format.specs.Measures as F
use Rattle.format.specs.Pieces.{Form, short, extended, long, kinds, fixed, form_bits, length_top, values, black_bit, flag, dx_of, dy_of}
use Rattle.format.specs.Choice.{escapement_in, in_form, holds, first_form}
use Rattle.format.proofs.Tests.{and_true}
use Rattle.format.proofs.FieldLaws.{Held, held_is, value_twos}
use Rattle.format.proofs.FormLaws.{values_for, values_for_lem, holds_for, first_of}
use Rattle.escapement.specs.Count.{whole_of}
use Rattle.escapement.specs.declared.Pixels.{Pixels}
use Rattle.std.specs.Prelude.{Some}
use Rattle.pick.specs.Picks.{Judged, tried, IsPicked}
use Rattle.pick.specs.declared.Picked.{Picked}
use Rattle.pick.specs.declared.Picked.TheVariants.{Short, Extended, Long}
use Rattle.pick.proofs.PickLaws.{Small, small, short_is, extended_is, long_is, narrow_offsets, long_offsets}
use Rattle.sign.proofs.SignLaws.{in_bits_lem}
use Rattle.head.specs.declared.Field.{Field}
use Rattle.head.specs.Head.{head_of, head_for, head_length, numbers, total, Fit, narrow_values, long_values, ScaledBelow, Ready}

-- The head of a packet before n raster bytes.

head_of_lem : (f : ℕ) (black : Bool) (m : F.Measures) (n : ℕ) (k : Form)
    → head_of (in_form f black m (replicate n 0) k) ≡ (16 * f + black_bit black + form_bits k (fixed k + n)) ∷ field_bytes (kinds k) (values_for m n k)
unfolding head_of flag in_form
head_of_lem f black m n k = rw (values_for_lem f black m (replicate n 0) k, length-replicate {A = ℕ} n 0) refl

-- What a form that holds says.

-- The length is held, and every field.
fields_held : (m : F.Measures) (n : ℕ) (k : Form) → holds m (tried m n k) ≡ true → (fixed k + n < length_top k) × (all_held (kinds k) (values_for m n k) ≡ true)
fields_held m n k h =
    let a = F.same_scaled (dx_of k (escapement_in k m)) m.dx && F.same_scaled (dy_of k (escapement_in k m)) m.dy in
    let x = (and_true a _ (sym (holds_for 0 false m (replicate n 0) k) ∙ h)).1 in
    let y : ltb (fixed k + n) (length_top k) && all_held (kinds k) (values_for m n k) ≡ true = rw (length-replicate {A = ℕ} n 0) at x in
    let z = and_true (ltb (fixed k + n) (length_top k)) _ y in
    (ltb-true (fixed k + n) (length_top k) z.0, z.1)

plain_held : (k : ℕ) (z : ℤ) → held (unsigned k) z ≡ true → (z ≡ pos (mag z)) × (mag z < 256 ^ k)
plain_held k z e = go z (held_is (unsigned k) z e)
  where
    go : (z : ℤ) → Held (unsigned k) z → (z ≡ pos (mag z)) × (mag z < 256 ^ k)
    go (pos n) h = (refl, h)
    go (negsuc n) h = absurd h

signed_held : (k : ℕ) (z : ℤ) → held (signed k) z ≡ true → mag z < 256 ^ k
signed_held k z e = go z (held_is (signed k) z e)
  where
    go : (z : ℤ) → Held (signed k) z → mag z < 256 ^ k
    go (pos n) h = omega arith
    go (negsuc n) h = omega arith

-- The first two forms, of k = 1 and k = 2.

-- Their kinds, and their values for dm pixels and the length n in its field.
abbrev narrow_kinds : ℕ → List Kind
narrow_kinds k = unsigned k ∷ unsigned 1 ∷ unsigned 3 ∷ unsigned k ∷ unsigned k ∷ unsigned k ∷ signed k ∷ signed k ∷ []

abbrev narrow_fields : (k : ℕ) → F.Measures → ℕ → ℕ → Values (narrow_kinds k)
narrow_fields k m dm n = (pos n, (pos (nat_abs m.code), (m.tfm, (pos dm, (pos (nat_abs m.w), (pos (nat_abs m.h), (m.hoff, (m.voff, tt))))))))

-- What it is for their fields to be held.
record Narrow (k : ℕ) (m : F.Measures) (dm : ℕ) : Type 0 where
  above : m.tfm ≡ pos (mag m.tfm)
  tfm : mag m.tfm < 16777216
  pixels : dm < 256 ^ k
  w : nat_abs m.w < 256 ^ k
  h : nat_abs m.h < 256 ^ k
  hoff : held (signed k) m.hoff ≡ true
  voff : held (signed k) m.voff ≡ true

narrow_held : (k : ℕ) (m : F.Measures) (dm n : ℕ) → all_held (narrow_kinds k) (narrow_fields k m dm n) ≡ true → Narrow k m dm
unfolding all_held
narrow_held k m dm n h0 =
    let h1 = (and_true (held (unsigned k) (pos n)) _ h0).1 in
    let h2 = (and_true (held (unsigned 1) (pos (nat_abs m.code))) _ h1).1 in
    let h3 = and_true (held (unsigned 3) m.tfm) _ h2 in
    let h4 = and_true (held (unsigned k) (pos dm)) _ h3.1 in
    let h5 = and_true (held (unsigned k) (pos (nat_abs m.w))) _ h4.1 in
    let h6 = and_true (held (unsigned k) (pos (nat_abs m.h))) _ h5.1 in
    let h7 = and_true (held (signed k) m.hoff) _ h6.1 in
    let t = plain_held 3 m.tfm h3.0 in
    record {
      above = t.0;
      tfm = t.1;
      pixels = held_is (unsigned k) (pos dm) h4.0;
      w = held_is (unsigned k) (pos (nat_abs m.w)) h5.0;
      h = held_is (unsigned k) (pos (nat_abs m.h)) h6.0;
      hoff = h7.0;
      voff = (and_true (held (signed k) m.voff) _ h7.1).0;
    }

narrow_fit : (k : ℕ) (m : F.Measures) (dm n : ℕ) → k ≤ 4 → n < 256 ^ k → Small m → Narrow k m dm → Fit (narrow_values k m (F.pixels dm) n)
narrow_fit k m dm n l e s x = (
  l,
  e,
  (
    omega arith,
    omega (arith, s.code, s.coded),
    (
      omega arith,
      omega (arith, x.tfm),
      (
        l,
        x.pixels,
        (
          omega arith,
          omega arith,
          (l, rw s.wide x.w, (l, rw s.high x.h, (l, (value_twos (signed k) m.hoff x.hoff).1, (l, (value_twos (signed k) m.voff x.voff).1, tt)))),
        ),
      ),
    ),
  ),
)

narrow_bytes : (k : ℕ) (m : F.Measures) (dm n : ℕ) → Small m → Narrow k m dm → field_bytes (narrow_kinds k) (narrow_fields k m dm n) ≡ numbers (narrow_values k m (F.pixels dm) n)
unfolding numbers field_bytes twos bytes
narrow_bytes k m dm n s x =
    let t : twos 3 m.tfm ≡ mag m.tfm = ap (twos 3) x.above in
    rw (t, s.wide, s.high, s.coded) refl

-- What the two have in common, for the length n in its field: what their numbers ask, that they fit, and that their bytes are the fields'.
pub record NarrowOk (k n : ℕ) (m : F.Measures) (dm : ℕ) : Type 0 where
  pub right : mag m.hoff < 256 ^ k
  pub down : mag m.voff < 256 ^ k
  pub fit : Fit (narrow_values k m (F.pixels dm) n)
  pub is : field_bytes (narrow_kinds k) (narrow_fields k m dm n) ≡ numbers (narrow_values k m (F.pixels dm) n)

narrow_ok : (k : ℕ) (m : F.Measures) (dm n : ℕ) → k ≤ 4 → n < 256 ^ k → Judged m → all_held (narrow_kinds k) (narrow_fields k m dm n) ≡ true → NarrowOk k n m dm
narrow_ok k m dm n l e j h =
    let s = small m j in
    let x = narrow_held k m dm n h in
    record {
      right = signed_held k m.hoff x.hoff;
      down = signed_held k m.voff x.voff;
      fit = narrow_fit k m dm n l e s x;
      is = narrow_bytes k m dm n s x;
    }

short_values : (m : F.Measures) (n dm : ℕ) → F.pixels dm ≡ F.whole_pixels m.dx → values_for m n short ≡ narrow_fields 1 m dm ((8 + n) % 256)
unfolding in_form
short_values m n dm e = rw (← e) refl

extended_values : (m : F.Measures) (n dm : ℕ) → F.pixels dm ≡ F.whole_pixels m.dx → values_for m n extended ≡ narrow_fields 2 m dm ((13 + n) % 65536)
unfolding in_form
extended_values m n dm e = rw (← e) refl

module _ (l : List ℕ) (f n dm : ℕ) (m : F.Measures) (e : F.pixels dm ≡ F.whole_pixels m.dx) where
  pub short_ok : Ready l f m n short → NarrowOk 1 ((8 + n) % 256) m dm
  short_ok r =
      narrow_ok 1 m dm ((8 + n) % 256) (omega arith) (omega arith) r.judged (rw (short_values m n dm e) at (fields_held m n short r.held).1)

  pub extended_ok : Ready l f m n extended → NarrowOk 2 ((13 + n) % 65536) m dm
  extended_ok r =
      narrow_ok 2 m dm ((13 + n) % 65536) (omega arith) (omega arith) r.judged (rw (extended_values m n dm e) at (fields_held m n extended r.held).1)

-- The flag of a short packet has room for the upper part of its length.
pub short_flag : (l : List ℕ) (f n : ℕ) (m : F.Measures) → Ready l f m n short → (8 + n) / 256 < 8
short_flag l f n m r = let x = (fields_held m n short r.held).0 in omega arith

-- The long form.

-- The same for the long form.
pub record LongOk (n : ℕ) (m : F.Measures) : Type 0 where
  pub tfm : mag m.tfm < 4294967296
  pub dx : ScaledBelow 4294967296 m.dx
  pub dy : ScaledBelow 4294967296 m.dy
  pub right : mag m.hoff < 4294967296
  pub down : mag m.voff < 4294967296
  pub fit : Fit (long_values m (28 + n))
  pub is : field_bytes (kinds long) (values_for m n long) ≡ numbers (long_values m (28 + n))

four : (z : ℤ) → held (signed 4) z ≡ true → (mag z < 4294967296) × (twos 4 z < 4294967296)
four z h = (signed_held 4 z h, (value_twos (signed 4) z h).1)

-- Its fields are taken apart, with the two escapements as numbers.
long_go : (m : F.Measures) (n : ℕ) (dx dy : F.Scaled) → m.dx ≡ dx → m.dy ≡ dy → 28 + n < 2147483648 → Small m
    → all_held (kinds long) (values long (dx, dy) (in_form 0 false m [] long) (28 + n)) ≡ true → LongOk n m
unfolding in_form all_held numbers field_bytes twos bytes
long_go m n (F.scaled x) (F.scaled y) ex ey l s h0 =
    let h1 = (and_true (held (signed 4) (pos (28 + n))) _ h0).1 in
    let h2 = (and_true (held (signed 4) (pos (nat_abs m.code))) _ h1).1 in
    let h3 = and_true (held (signed 4) m.tfm) _ h2 in
    let h4 = and_true (held (signed 4) x) _ h3.1 in
    let h5 = and_true (held (signed 4) y) _ h4.1 in
    let h6 = (and_true (held (signed 4) (pos (nat_abs m.w))) _ h5.1).1 in
    let h7 = (and_true (held (signed 4) (pos (nat_abs m.h))) _ h6).1 in
    let h8 = and_true (held (signed 4) m.hoff) _ h7 in
    let h9 = and_true (held (signed 4) m.voff) _ h8.1 in
    let a = four m.tfm h3.0 in
    let b = four x h4.0 in
    let c = four y h5.0 in
    let d = four m.hoff h8.0 in
    let e = four m.voff h9.0 in
    let k : 4 ≤ 4 = omega arith in
    record {
      tfm = a.0;
      dx = rw ex b.0;
      dy = rw ey c.0;
      right = d.0;
      down = e.0;
      fit = rw (ex, ey)
          (k, omega arith, (k, omega (arith, s.code, s.coded), (k, a.1, (k, b.1, (k, c.1, (k, omega (arith, s.width, s.wide), (k, omega (arith, s.height, s.high), (k, d.1, (k, e.1, tt)))))))));
      is = rw (ex, ey, s.wide, s.high, s.coded);
    }

pub long_ok : (l : List ℕ) (f n : ℕ) (m : F.Measures) → Ready l f m n long → LongOk n m
long_ok l f n m r =
    let x = fields_held m n long r.held in
    long_go m n m.dx m.dy refl refl x.0 (small m r.judged) x.1

-- What was written.

-- The flag and the numbers are the head, if the numbers' bytes are the fields'.
wrote : (f : ℕ) (black : Bool) (m : F.Measures) (n : ℕ) (k : Form) (xs : List Field) (l d : List ℕ) {r b : ℕ} → field_bytes (kinds k) (values_for m n k) ≡ numbers xs
    → b ≡ 16 * f + black_bit black + form_bits k (fixed k + n)
    → (r ≡ 1 + total xs) × (d ≡ (b ∷ numbers xs) ++ drop (1 + total xs) l)
    → (r ≡ 1 + total xs) × (d ≡ head_of (in_form f black m (replicate n 0) k) ++ drop (1 + total xs) l)
wrote f black m n k xs l d {b = b} e q g =
    let p : b ∷ numbers xs ≡ head_of (in_form f black m (replicate n 0) k) = rw (q, ← e) (sym (head_of_lem f black m n k)) in
    (g.0, g.1 ∙ ap (λ (x : List ℕ). x ++ drop (1 + total xs) l) p)

module _ (f : ℕ) (black : Bool) (n : ℕ) (m : F.Measures) (l d : List ℕ) {r b : ℕ} where
  pub wrote_short : (dm : ℕ) → F.pixels dm ≡ F.whole_pixels m.dx → Ready l f m n short → b ≡ 16 * f + black_bit black + (8 + n) / 256
      → (r ≡ 11) × (d ≡ (b ∷ numbers (narrow_values 1 m (F.pixels dm) ((8 + n) % 256))) ++ drop 11 l)
      → (r ≡ 11) × (d ≡ head_of (in_form f black m (replicate n 0) short) ++ drop 11 l)
  wrote_short dm e o eb g =
      wrote f black m n short (narrow_values 1 m (F.pixels dm) ((8 + n) % 256)) l d (ap (field_bytes (kinds short)) (short_values m n dm e) ∙ (short_ok l f n dm m e o).is) eb g

  pub wrote_extended : (dm : ℕ) {xs : List Field} → F.pixels dm ≡ F.whole_pixels m.dx → Ready l f m n extended → xs ≡ narrow_values 2 m (F.pixels dm) ((13 + n) % 65536)
      → b ≡ 16 * f + black_bit black + (4 + (13 + n) / 65536)
      → (r ≡ 1 + total xs) × (d ≡ (b ∷ numbers xs) ++ drop (1 + total xs) l)
      → (r ≡ 17) × (d ≡ head_of (in_form f black m (replicate n 0) extended) ++ drop 17 l)
  wrote_extended dm e o ev eb g =
      wrote f black m n extended (narrow_values 2 m (F.pixels dm) ((13 + n) % 65536)) l d (ap (field_bytes (kinds extended)) (extended_values m n dm e) ∙ (extended_ok l f n dm m e o).is) eb (rw ev at g)

  pub wrote_long : {xs : List Field} → Ready l f m n long → xs ≡ long_values m (28 + n) → b ≡ 16 * f + black_bit black + 7
      → (r ≡ 1 + total xs) × (d ≡ (b ∷ numbers xs) ++ drop (1 + total xs) l)
      → (r ≡ 37) × (d ≡ head_of (in_form f black m (replicate n 0) long) ++ drop 37 l)
  wrote_long o ev eb g = wrote f black m n long (long_values m (28 + n)) l d (long_ok l f n m o).is eb (rw ev at g)

-- The form picked.

ready : (l : List ℕ) (f : ℕ) (m : F.Measures) (n : ℕ) (k : Form) → f ≤ 14 → n ≤ 8192 → Judged m → 1 + size (kinds k) ≤ length l
    → first_form m (tried m n) ≡ ok (tried m n k) → Ready l f m n k
ready l f m n k a b j r e = record { most = a; few = b; judged = j; held = (first_of 0 false m (replicate n 0) k e).held; room = r }

-- What writing asks of the form picked.
abbrev Asked : List ℕ → ℕ → F.Measures → ℕ → Picked → Type 0
Asked l f m n p = (f ≤ 14) × (n ≤ 8192) × Judged m × IsPicked m n p × (head_length (Some p) ≤ length l)

-- A form picked may be written, with its offsets as the machine reads them.
module _ (l : List ℕ) (f : ℕ) (m : F.Measures) (n : ℕ) (p : Picked) (h : Asked l f m n p) where
  pub ready_short : (dm : Pixels) (x y : ℤ) → p ≡ Short dm x y → Ready l f m n short × (whole_of dm ≡ F.whole_pixels m.dx) × (to_z w8 (of_z w8 x) ≡ m.hoff) × (to_z w8 (of_z w8 y) ≡ m.voff)
  ready_short dm x y e = go (subst (Asked l f m n) e h)
    where
      go : Asked l f m n (Short dm x y) → Ready l f m n short × (whole_of dm ≡ F.whole_pixels m.dx) × (to_z w8 (of_z w8 x) ≡ m.hoff) × (to_z w8 (of_z w8 y) ≡ m.voff)
      go a =
          let r = ready l f m n short a.0 a.1 a.2 a.4 a.3.0 in
          let s = narrow_offsets 256 128 n 1016 (F.whole_pixels m.dx) m refl (sym (short_is m n a.2) ∙ r.held) in
          (r, a.3.1, in_bits_lem w8 x m.hoff (record { sfits = s.0 }) a.3.2, in_bits_lem w8 y m.voff (record { sfits = s.1 }) a.3.3)

  pub ready_extended : (dm : Pixels) (x y : ℤ) → p ≡ Extended dm x y → Ready l f m n extended × (whole_of dm ≡ F.whole_pixels m.dx) × (to_z w16 (of_z w16 x) ≡ m.hoff) × (to_z w16 (of_z w16 y) ≡ m.voff)
  ready_extended dm x y e = go (subst (Asked l f m n) e h)
    where
      go : Asked l f m n (Extended dm x y) → Ready l f m n extended × (whole_of dm ≡ F.whole_pixels m.dx) × (to_z w16 (of_z w16 x) ≡ m.hoff) × (to_z w16 (of_z w16 y) ≡ m.voff)
      go a =
          let r = ready l f m n extended a.0 a.1 a.2 a.4 a.3.0 in
          let s = narrow_offsets 65536 32768 n 196595 (F.whole_pixels m.dx) m refl (sym (extended_is m n a.2) ∙ r.held) in
          (r, a.3.1, in_bits_lem w16 x m.hoff (record { sfits = s.0 }) a.3.2, in_bits_lem w16 y m.voff (record { sfits = s.1 }) a.3.3)

  pub ready_long : (x y : ℤ) → p ≡ Long x y → Ready l f m n long × (to_z w32 (of_z w32 x) ≡ m.hoff) × (to_z w32 (of_z w32 y) ≡ m.voff)
  ready_long x y e = go (subst (Asked l f m n) e h)
    where
      go : Asked l f m n (Long x y) → Ready l f m n long × (to_z w32 (of_z w32 x) ≡ m.hoff) × (to_z w32 (of_z w32 y) ≡ m.voff)
      go a =
          let r = ready l f m n long a.0 a.1 a.2 a.4 a.3.0 in
          let s = long_offsets n 2147483620 m refl (sym (long_is m n a.2) ∙ r.held) in
          (r, in_bits_lem w32 x m.hoff (record { sfits = s.0 }) a.3.1, in_bits_lem w32 y m.voff (record { sfits = s.1 }) a.3.2)

-- What was written is the head of the form picked.
pub wrote_picked : (f : ℕ) (black : Bool) (m : F.Measures) (n : ℕ) (l d : List ℕ) {r : ℕ} (p q : Picked) → p ≡ q
    → (r ≡ head_length (Some q)) × (d ≡ head_for f black m n (Some q) ++ drop (head_length (Some q)) l) → (r ≡ head_length (Some p)) × (d ≡ head_for f black m n (Some p) ++ drop r l)
wrote_picked f black m n l d {r} p q e g =
    subst (λ (x : Picked). (r ≡ head_length (Some x)) × (d ≡ head_for f black m n (Some x) ++ drop r l)) (sym e)
    (g.0, g.1 ∙ ap (λ (x : ℕ). head_for f black m n (Some q) ++ drop x l) (sym g.0))
