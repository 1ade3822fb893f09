-- Pieces: what is a piece is found at the front of the bytes, whatever follows; and a piece that is found is what stands there.
-- The three forms meet in `header_values` and `rebuilt`; all else is said once for the three. Assumes nothing.
use Prim.Native.Nat.{ℕ, ◌+◌, ◌-◌, ◌*◌, ◌/◌, ◌%◌, ◌^◌, ◌<◌, ◌≤◌}
use mathlib.Core.Path.{◌≡◌, refl, sym, ap, ◌∙◌, subst}
use mathlib.Core.List.{List, [], ◌∷◌, ◌++◌, append_assoc}
use mathlib.Core.Bool.{Bool, true, false, cond}
use native.Mathlib.Nat.{mod-eq_of_lt, mul-add-mod_self_right}
use native.Mathlib.Omega.{arith}
use lib.Dec.{ltb, leb, eqb}
use lib.IntN.{ℤ, pos, negsuc, nat_abs}
use lib.ListN.{length, take, drop, length-append, take-append-drop}
use lib.Seq.{length-take-le, take-append_seam, drop-append_seam, take_at, drop_at}
use borrow.Author.Tests.{ltb-true, ltb-false, leb-true, eqb-true, eqb-false, lt-ltb, le-ltb, le-leb, eq-eqb, ne_eqb}
use Rattle.format.specs.Limits.{in_limits, within_limits, is_code}
use Rattle.format.specs.Refusals.{file_ends, bad_length, outside_limits, bad_code, Result, ok, fault, ◌>>=◌, need}
use Rattle.format.specs.Numbers.{Bytes, bytes, unsigned, signed, held, twos, Values, all_held, size, field_bytes}
use Rattle.format.specs.Decoding.{number, value_of, read_fields}
use Rattle.format.specs.Measures.{pixels, scaled}
use Rattle.format.specs.Pieces.{Form, short, extended, long, Escapement, kinds, fixed, form_bits, length_top, Packet, packet_length, values, fields, black_bit, flag, fits, PacketOk, Piece, special, numeric, noop, packet, length_kind, bytes_of, SpecialOk, PieceOk}
use Rattle.format.specs.Verdict.{Front, piece, last, at_least, form_of, Header, header, packet_of, raster_at, packet_at, special_at, numeric_at, step}
use Rattle.format.proofs.Tests.{and_true, true_and}
use Rattle.format.proofs.RefusalLaws.{need_case, cond_case}
use Rattle.format.proofs.FieldLaws.{length-bytes, number_bytes, number_bound, bytes_number, Held, held_is, value_twos, twos_value, length_fields, read_fields_lem, Wrote, fields_read}

-- A packet as the reader sees it.

abbrev header_in : (k : Form) → Escapement k → Packet → ℕ → Header
header_in k e p n =
    record { length = pos n; code = pos p.code; tfm = p.tfm; form = k; escapement = e; w = pos p.w; h = pos p.h; hoff = p.hoff; voff = p.voff }

header_values : (k : Form) (e : Escapement k) (p : Packet) (b n : ℕ) → n < length_top k → b % 8 ≡ form_bits k n → header k b (values k e p n) ≡ header_in k e p n
header_values short (pixels dm) p b n h e = let z : b % 4 * 256 + n % 256 ≡ n = omega arith in rw z
header_values extended (pixels dm) p b n h e = let z : b % 4 * 65536 + n % 65536 ≡ n = omega arith in rw z
header_values long (scaled dx, scaled dy) p b n h e = refl

-- What flag mod 8 is in each form.
abbrev pub Bits : Form → ℕ → Type 0
Bits short l = l < 4
Bits extended l = (4 ≤ l) × (l < 7)
Bits long l = l ≡ 7

pub form_is_lem : (k : Form) (b : ℕ) → Bits k (b % 8) → form_of b ≡ k
unfolding form_of
form_is_lem short b h = rw (lt-ltb (b % 8) 4 h)
form_is_lem extended b h = rw (le-ltb (b % 8) 4 h.0, lt-ltb (b % 8) 7 h.1)
form_is_lem long b h = rw (le-ltb (b % 8) 4 (omega arith), le-ltb (b % 8) 7 (omega arith))

bits_length : (k : Form) (l n : ℕ) → n < length_top k → l ≡ form_bits k n → Bits k l
bits_length short l n h e = omega arith
bits_length extended l n h e = (omega arith, omega arith)
bits_length long l n h e = e

bits_small : (k : Form) (n : ℕ) → n < length_top k → form_bits k n < 8
bits_small short n h = omega arith
bits_small extended n h = omega arith
bits_small long n h = omega arith

-- The flag b, taken apart.
record Flag (b x l : ℕ) (c : Bool) : Type 0 where
  f : b / 16 ≡ x
  low : b % 8 ≡ l
  black : eqb (b / 8 % 2) 1 ≡ c

flag_apart : (f low : ℕ) (black : Bool) → low < 8 → Flag (16 * f + black_bit black + low) f low black
flag_apart f low true h =
    record { f = omega arith; low = omega arith; black = eq-eqb ((16 * f + 8 + low) / 8 % 2) 1 (omega arith) }
flag_apart f low false h =
    record { f = omega arith; low = omega arith; black = ne_eqb ((16 * f + 0 + low) / 8 % 2) 1 (λ q. omega arith) }

-- What is a piece is found.

-- The form of a packet that 01 allows holds its length, and its fields.
fits_length : (p : Packet) → PacketOk p → packet_length p < length_top p.form
unfolding fits
fits_length p o = ltb-true (packet_length p) (length_top p.form) (and_true (ltb (packet_length p) (length_top p.form)) _ o.fits).0

pub fits_fields : (p : Packet) → PacketOk p → all_held (kinds p.form) (fields p) ≡ true
unfolding fits
fits_fields p o = (and_true (ltb (packet_length p) (length_top p.form)) _ o.fits).1

-- Its flag has these parts, and says its form.
flag_parts : (p : Packet) → PacketOk p → Flag (flag p) p.f (form_bits p.form (packet_length p)) p.black
unfolding flag
flag_parts p o =
    let n = packet_length p in
    flag_apart p.f (form_bits p.form n) p.black (bits_small p.form n (fits_length p o))

pub flag_below : (p : Packet) → PacketOk p → flag p < 240
flag_below p o = omega (arith, o.f, (flag_parts p o).f)

pub flag_form : (p : Packet) → PacketOk p → form_of (flag p) ≡ p.form
flag_form p o = form_is_lem p.form (flag p) (bits_length p.form (flag p % 8) (packet_length p) (fits_length p o) (flag_parts p o).low)

raster_found : (p : Packet) (b : ℕ) (r : List ℕ) → PacketOk p → Flag b p.f (form_bits p.form (packet_length p)) p.black
    → raster_at b (header_in p.form p.escapement p (packet_length p)) (length p.raster) (p.raster ++ r) ≡ ok (piece (packet p) r)
unfolding raster_at need ◌>>=◌ within_limits
raster_found p b r o e =
    rw (
      le-leb (length p.raster) (length (p.raster ++ r)) (rw length-append (omega arith)),
      o.limits,
      o.code,
      take-append_seam p.raster r,
      drop-append_seam p.raster r,
      e.f,
      e.black,
    )

packet_found : (p : Packet) (b : ℕ) (r : List ℕ) → PacketOk p → Flag b p.f (form_bits p.form (packet_length p)) p.black
    → packet_at b p.form (header p.form b (read_fields (kinds p.form) (field_bytes (kinds p.form) (fields p) ++ (p.raster ++ r))))
    (field_bytes (kinds p.form) (fields p) ++ (p.raster ++ r)) ≡ ok (piece (packet p) r)
unfolding packet_at need ◌>>=◌ at_least
packet_found p b r o e =
    let n = packet_length p in
    let ks = kinds p.form in
    let v = fields p in
    let l = length_fields ks v in
    let m : fixed p.form + length p.raster - fixed p.form ≡ length p.raster = omega arith in
    rw (
      read_fields_lem ks v (p.raster ++ r) (fits_fields p o),
      header_values p.form p.escapement p b n (fits_length p o) e.low,
      le-leb (size ks) (length (field_bytes ks v ++ (p.raster ++ r))) (rw (length-append (field_bytes ks v) (p.raster ++ r)) (omega arith)),
      le-leb (fixed p.form) n (omega arith),
      drop_at (field_bytes ks v) (p.raster ++ r) (size ks) l,
      m,
    )
    (raster_found p b r o e)

special_found : (k : ℕ) (xs r : List ℕ) → SpecialOk k (length xs)
    → special_at k (value_of (length_kind k) (number k (bytes k (length xs) ++ (xs ++ r)))) (bytes k (length xs) ++ (xs ++ r)) ≡ ok (piece (special k xs) r)
unfolding special_at need ◌>>=◌ at_least twos
special_found k xs r o =
    let b = bytes k (length xs) in
    let l = length-bytes k (length xs) in
    let e = length_held (eqb k 4) o.held in
    rw (
      number_bytes k (length xs) (xs ++ r) e.1,
      e.0,
      le-leb k (length (b ++ (xs ++ r))) (rw (length-append b (xs ++ r)) (omega arith)),
      le-leb 0 (length xs) (omega arith),
      drop_at b (xs ++ r) k l,
      le-leb (length xs) (length (xs ++ r)) (rw length-append (omega arith)),
      take-append_seam xs r,
      drop-append_seam xs r,
    )
  where
    length_held : (c : Bool) → held (cond c (signed k) (unsigned k)) (pos (length xs)) ≡ true
        → (value_of (cond c (signed k) (unsigned k)) (length xs) ≡ pos (length xs)) × (length xs < 256 ^ k)
    length_held true h = value_twos (signed k) (pos (length xs)) h
    length_held false h = value_twos (unsigned k) (pos (length xs)) h

numeric_found : (xs r : List ℕ) → length xs ≡ 4 → numeric_at (xs ++ r) ≡ ok (piece (numeric xs) r)
unfolding numeric_at need ◌>>=◌
numeric_found xs r o = rw (le-leb 4 (length (xs ++ r)) (rw length-append (omega arith)), take_at xs r 4 o, drop_at xs r 4 o)

-- What is a piece is found, whatever follows.
pub step_piece : (p : Piece) (r : List ℕ) → PieceOk p → step (bytes_of p ++ r) ≡ ok (piece p r)
unfolding step bytes_of
step_piece (special k xs) r o =
    let m : 239 + k - 239 ≡ k = omega arith in
    rw (le-ltb (239 + k) 240 (omega arith), lt-ltb (239 + k) 244 (omega arith), m, append_assoc (bytes k (length xs)) xs r) (special_found k xs r o)
step_piece (numeric xs) r o = numeric_found xs r o
step_piece noop r o = refl
step_piece (packet p) r o =
    let e = flag_parts p o in
    rw (lt-ltb (flag p) 240 (flag_below p o), flag_form p o, append_assoc (field_bytes (kinds p.form) (fields p)) p.raster r)
    (packet_found p (flag p) r o e)

-- A piece that is found is what stands there.

pub record Found (s : List ℕ) (p : Piece) (r : List ℕ) : Type 0 where
  pub whole : s ≡ bytes_of p ++ r
  pub ok : PieceOk p

-- What each answer of `step` says of the bytes.
abbrev pub Is : List ℕ → Result Front → Type 0
Is s (ok (piece p r)) = Found s p r
Is s (ok (last r)) = s ≡ 245 ∷ r
Is s (fault x) = Unit {0}

plain_held : (k : ℕ) (z : ℤ) → held (unsigned k) z ≡ true → (pos (nat_abs z) ≡ z) × (nat_abs z < 256 ^ k)
plain_held k z e = go z (held_is (unsigned k) z e)
  where
    go : (z : ℤ) → Held (unsigned k) z → (pos (nat_abs z) ≡ z) × (nat_abs z < 256 ^ k)
    go (pos n) h = (refl, h)
    go (negsuc n) h = absurd h

signed_held : (k n : ℕ) (z : ℤ) → z ≡ pos n → held (signed k) z ≡ true → 2 * n < 256 ^ k
signed_held k n z e h = held_is (signed k) (pos n) (rw e at h)

-- The packet p has the fields v of the form k, and the flag b.
record Rebuilt (k : Form) (b : ℕ) (v : Values (kinds k)) (p : Packet) : Type 0 where
  same : field_bytes (kinds p.form) (fields p) ≡ field_bytes (kinds k) v
  head : flag p ≡ b
  fits : fits p ≡ true

form_bits_lem : (b : ℕ) → Bits (form_of b) (b % 8)
unfolding form_of
form_bits_lem b = go (ltb (b % 8) 4) refl (ltb (b % 8) 7) refl
  where
    go : (x : Bool) → ltb (b % 8) 4 ≡ x → (y : Bool) → ltb (b % 8) 7 ≡ y → Bits (cond x short (cond y extended long)) (b % 8)
    go true e y f = ltb-true (b % 8) 4 e
    go false e true f = (ltb-false (b % 8) 4 e, ltb-true (b % 8) 7 f)
    go false e false f = let l = ltb-false (b % 8) 7 f in omega arith

black_back : (b : ℕ) → black_bit (eqb (b / 8 % 2) 1) ≡ 8 * (b / 8 % 2)
black_back b = go (eqb (b / 8 % 2) 1) refl
  where
    go : (x : Bool) → eqb (b / 8 % 2) 1 ≡ x → black_bit x ≡ 8 * (b / 8 % 2)
    go true e = let z = eqb-true (b / 8 % 2) 1 e in omega arith
    go false e = let z = eqb-false (b / 8 % 2) 1 e in omega arith

-- The first two forms have a length in k bytes with its upper part in the flag, and dm in k bytes behind a code and tfm: both stand in
-- their fields again.
record Narrow (k n : ℕ) (v : Values (unsigned k ∷ unsigned 1 ∷ unsigned 3 ∷ unsigned k ∷ unsigned k ∷ unsigned k ∷ signed k ∷ signed k ∷ [])) : Type 0 where
  length : pos (n % 256 ^ k) ≡ v.0
  dm : pos (nat_abs v.1.1.1.0) ≡ v.1.1.1.0
  small : nat_abs v.0 < 256 ^ k

narrow : (k n b : ℕ) (v : Values (unsigned k ∷ unsigned 1 ∷ unsigned 3 ∷ unsigned k ∷ unsigned k ∷ unsigned k ∷ signed k ∷ signed k ∷ []))
    → all_held (unsigned k ∷ unsigned 1 ∷ unsigned 3 ∷ unsigned k ∷ unsigned k ∷ unsigned k ∷ signed k ∷ signed k ∷ []) v ≡ true
    → b * 256 ^ k + nat_abs v.0 ≡ n → Narrow k n v
unfolding all_held
narrow k n b v hs e =
    let h0 = and_true (held (unsigned k) v.0) _ hs in
    let h1 = and_true (held (unsigned 1) v.1.0) _ h0.1 in
    let h2 = and_true (held (unsigned 3) v.1.1.0) _ h1.1 in
    let h3 = and_true (held (unsigned k) v.1.1.1.0) _ h2.1 in
    let x = plain_held k v.0 h0.0 in
    record {
      length = ap pos (ap (λ (m : ℕ). m % 256 ^ k) (sym e) ∙ mul-add-mod_self_right b (256 ^ k) (nat_abs v.0) ∙ mod-eq_of_lt x.1) ∙ x.0;
      dm = (plain_held k v.1.1.1.0 h3.0).0;
      small = x.1;
    }

module _ (b : ℕ) (raster : List ℕ) where
  rebuilt : (k : Form) → Bits k (b % 8) → (v : Values (kinds k)) → all_held (kinds k) v ≡ true
      → (header k b v).length ≡ pos (fixed k + length raster)
      → pos (nat_abs (header k b v).code) ≡ (header k b v).code
      → pos (nat_abs (header k b v).w) ≡ (header k b v).w
      → pos (nat_abs (header k b v).h) ≡ (header k b v).h
      → Rebuilt k b v (packet_of b (header k b v) raster)
  unfolding flag fits all_held field_bytes
  rebuilt short l v hs n c w h =
      let y : b % 4 * 256 + nat_abs v.0 ≡ fixed short + length raster = ap nat_abs n in
      let x = narrow 1 (fixed short + length raster) (b % 4) v hs y in
      let t = lt-ltb (fixed short + length raster) (length_top short) (omega (arith, x.small)) in
      record { same = rw (x.length, c, x.dm, w, h); head = omega (arith, x.small, black_back b); fits = true_and t (rw (x.length, c, x.dm, w, h) hs) }
  rebuilt extended l v hs n c w h =
      let y : b % 4 * 65536 + nat_abs v.0 ≡ fixed extended + length raster = ap nat_abs n in
      let x = narrow 2 (fixed extended + length raster) (b % 4) v hs y in
      let t = lt-ltb (fixed extended + length raster) (length_top extended) (omega (arith, x.small)) in
      record { same = rw (x.length, c, x.dm, w, h); head = omega (arith, x.small, black_back b); fits = true_and t (rw (x.length, c, x.dm, w, h) hs) }
  rebuilt long l v hs n c w h =
      let x = signed_held 4 (fixed long + length raster) v.0 n (and_true (held (signed 4) v.0) _ hs).0 in
      let t = lt-ltb (fixed long + length raster) (length_top long) (omega arith) in
      record { same = rw (← n, c, w, h); head = omega (arith, black_back b); fits = true_and t (rw (← n, c, w, h) hs) }

pub at_least_lem : (m : ℕ) (z : ℤ) → at_least m z ≡ true → (z ≡ pos (nat_abs z)) × (m ≤ nat_abs z)
unfolding at_least
at_least_lem m (pos n) e = (refl, leb-true m n e)
at_least_lem m (negsuc n) e = absurd (let z : ◌≡◌ {A = ℕ} 0 1 = cc in omega arith)

pub box_true : (w h : ℤ) → within_limits w h ≡ true → (pos (nat_abs w) ≡ w) × (pos (nat_abs h) ≡ h) × (in_limits (nat_abs w) (nat_abs h) ≡ true)
unfolding within_limits
box_true (pos w) (pos h) e = (refl, refl, e)
box_true (pos w) (negsuc h) e = absurd (let z : ◌≡◌ {A = ℕ} 0 1 = cc in omega arith)
box_true (negsuc w) h e = absurd (let z : ◌≡◌ {A = ℕ} 0 1 = cc in omega arith)

pub code_true : (c : ℤ) → is_code c ≡ true → (pos (nat_abs c) ≡ c) × (is_code (pos (nat_abs c)) ≡ true)
unfolding is_code
code_true (pos c) e = (refl, e)
code_true (negsuc c) e = absurd (let z : ◌≡◌ {A = ℕ} 0 1 = cc in omega arith)

packet_whole : (b : ℕ) (k : Form) (s : List ℕ) (n : ℕ) (v : Values (kinds k)) (p : Packet) → Wrote (kinds k) s v → Rebuilt k b v p
    → p.raster ≡ take n (drop (size (kinds k)) s) → b ∷ s ≡ bytes_of (packet p) ++ drop n (drop (size (kinds k)) s)
unfolding bytes_of
packet_whole b k s n v p w e q =
    rw (
      e.head,
      e.same,
      w.whole,
      q,
      append_assoc (take (size (kinds k)) s) (take n (drop (size (kinds k)) s)) (drop n (drop (size (kinds k)) s)),
      take-append-drop n (drop (size (kinds k)) s),
      take-append-drop (size (kinds k)) s,
    )

packet_is : (b : ℕ) (s : List ℕ) (k : Form) → b < 240 → Bits k (b % 8) → (v : Values (kinds k)) → (size (kinds k) ≤ length s → Wrote (kinds k) s v)
    → Is (b ∷ s) (packet_at b k (header k b v) s)
unfolding packet_at raster_at
packet_is b s k hb hk v wrote =
    let x = header k b v in
    let t = drop (size (kinds k)) s in
    let n = nat_abs x.length - fixed k in
    need_case (Is (b ∷ s)) (leb (size (kinds k)) (length s)) file_ends _ (λ _. tt) λ a.
    need_case (Is (b ∷ s)) (at_least (fixed k) x.length) bad_length _ (λ _. tt) λ e.
    need_case (Is (b ∷ s)) (leb n (length t)) file_ends _ (λ _. tt) λ l.
    need_case (Is (b ∷ s)) (within_limits x.w x.h) outside_limits _ (λ _. tt) λ f.
    need_case (Is (b ∷ s)) (is_code x.code) bad_code _ (λ _. tt) λ g.
    let w = wrote (leb-true (size (kinds k)) (length s) a) in
    let u = at_least_lem (fixed k) x.length e in
    let i = box_true x.w x.h f in
    let c = code_true x.code g in
    let z : nat_abs x.length ≡ fixed k + length (take n t) = rw (length-take-le n t (leb-true n (length t) l)) (omega arith) in
    let y = rebuilt b (take n t) k hk v w.held (u.0 ∙ ap pos z) c.0 i.0 i.1 in
    record {
      whole = packet_whole b k s n v (packet_of b x (take n t)) w y refl;
      ok = record { f = omega arith; fits = y.fits; limits = i.2; code = c.1 };
    }

special_is : (k : ℕ) (s : List ℕ) → 1 ≤ k → k ≤ 4 → Bytes s → Is ((239 + k) ∷ s) (special_at k (value_of (length_kind k) (number k s)) s)
unfolding special_at bytes_of twos
special_is k s lo hi hs =
    let z = value_of (length_kind k) (number k s) in
    let n = nat_abs z in
    need_case (Is ((239 + k) ∷ s)) (leb k (length s)) file_ends _ (λ _. tt) λ a.
    need_case (Is ((239 + k) ∷ s)) (at_least 0 z) bad_length _ (λ _. tt) λ e.
    need_case (Is ((239 + k) ∷ s)) (leb n (length (drop k s))) file_ends _ (λ _. tt) λ l.
    let i = length_is (eqb k 4) n (at_least_lem 0 z e).0 in
    let m = length-take-le n (drop k s) (leb-true n (length (drop k s)) l) in
    record {
      whole =
          rw (m, i.0, bytes_number k s hs (leb-true k (length s) a), ← i.0, append_assoc (take k s) (take n (drop k s)) (drop n (drop k s)), take-append-drop n (drop k s), take-append-drop k s);
      ok = record { least = lo; most = hi; held = rw m i.1 };
    }
  where
    length_is : (c : Bool) (m : ℕ) → value_of (cond c (signed k) (unsigned k)) (number k s) ≡ pos m
        → (m ≡ number k s) × (held (cond c (signed k) (unsigned k)) (pos m) ≡ true)
    length_is true m e = rw e at (twos_value (signed k) (number k s) (number_bound k s hs))
    length_is false m e = rw e at (twos_value (unsigned k) (number k s) (number_bound k s hs))

numeric_is : (s : List ℕ) → Is (244 ∷ s) (numeric_at s)
unfolding numeric_at bytes_of
numeric_is s =
    need_case (Is (244 ∷ s)) (leb 4 (length s)) file_ends _ (λ _. tt) λ a.
    record { whole = rw (take-append-drop 4 s); ok = length-take-le 4 s (leb-true 4 (length s) a) }

-- A piece that is found is what stands there.
pub step_is : (s : List ℕ) → Bytes s → Is s (step s)
unfolding step bytes_of
step_is [] h = tt
step_is (b ∷ s) h =
    let P = Is (b ∷ s) in
    cond_case P (ltb b 240) _ _
    (λ e. packet_is b s (form_of b) (ltb-true b 240 e) (form_bits_lem b) (read_fields (kinds (form_of b)) s) (fields_read (kinds (form_of b)) s h.1)) λ e.
    let l = ltb-false b 240 e in
    cond_case P (ltb b 244) _ _
    (λ e. let m = ltb-true b 244 e in
    let n : 239 + (b - 239) ≡ b = omega arith in
    subst (λ (c : ℕ). Is (c ∷ s) (special_at (b - 239) (value_of (length_kind (b - 239)) (number (b - 239) s)) s)) n (special_is (b - 239) s (omega arith) (omega arith) h.1)) λ e.
    cond_case P (eqb b 244) _ _ (λ e. rw (eqb-true b 244 e) (numeric_is s)) λ e.
    cond_case P (eqb b 245) _ _ (λ e. rw (eqb-true b 245 e) refl) λ e.
    cond_case P (eqb b 246) _ _ (λ e. record { whole = rw (eqb-true b 246 e) refl; ok = tt }) λ e. tt
