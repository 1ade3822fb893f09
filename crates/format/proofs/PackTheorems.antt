-- Packing (the letter's second demand): the packet that is written is one that 01 allows, says the measures and draws the bitmap that were handed in, and
-- set alone in a font it makes a font that has a cut and draws them back. Assumes nothing.
use Prim.Native.Nat.{ℕ, ◌+◌, ◌*◌, ◌/◌, ◌%◌, ◌≤◌, ◌<◌}
use mathlib.Core.Path.{◌≡◌, refl, sym, ap, ◌∙◌, subst}
use mathlib.Core.List.{List, [], ◌∷◌, ◌++◌, append-nil}
use mathlib.Core.Logic.{◌↔◌}
use mathlib.Core.Bool.{true, false, ◌&&◌}
use native.Mathlib.Omega.{arith}
use lib.Dec.{eqb, leb, ltb}
use lib.IntN.{nat_abs}
use lib.ListN.{length, replicate, length-append, length-replicate}
use borrow.Author.Tests.{eqb-true, eq-eqb, ne_eqb, ltb-false, le-leb, lt-leb}
use Rattle.format.specs.Lists.{elem}
use Rattle.format.specs.Limits.{most, within_limits, is_code}
use Rattle.format.specs.Refusals.{bad_code, no_room, bitmap_outside_limits, bad_bitmap, no_form, gives, refused, Result, ok, fault, ◌>>=◌, need, answer_at}
use Rattle.format.specs.Numbers.{Bytes, size, field_bytes}
use Rattle.format.specs.Measures.{Measures}
use Rattle.format.specs.Pieces.{Preamble, PreambleOk, preamble_bytes, Form, short, extended, long, kinds, Packet, fields, PacketOk, packet, measures, bytes_of}
use Rattle.format.specs.Rasters.{Item, writings, rows, bytes_of_bits, Draws}
use Rattle.format.specs.Cut.{flat, packets, codes, Parts, join, Cut}
use Rattle.format.specs.Drawing.{draw}
use Rattle.format.specs.Counts.{counts}
use Rattle.format.specs.Choice.{nybble_count, fewest, chosen, raster_of, first_black, in_form, holds, first_form, FirstHeld}
use Rattle.format.specs.Packing.{is_bitmap, choice_bytes, all_pixels, choice_in, packet_for, packed, pack, set_alone, PackedOf}
use Rattle.format.proofs.Tests.{split, test, and_true}
use Rattle.format.proofs.ItemLaws.{bind_ok}
use Rattle.format.proofs.BitLaws.{need_ok}
use Rattle.format.proofs.FieldLaws.{length_fields}
use Rattle.format.proofs.PieceLaws.{box_true}
use Rattle.format.proofs.FillLaws.{limits_small}
use Rattle.format.proofs.OnwardLaws.{refused≢}
use Rattle.format.proofs.CutTheorems.{preamble_length}
use Rattle.format.proofs.HalfLaws.{length-halves, length-bit_bytes}
use Rattle.format.proofs.DrawTheorems.{drawn_exactly}
use Rattle.format.proofs.ChoiceLaws.{fewest_least}
use Rattle.format.proofs.CountTheorems.{raster_draws}
use Rattle.format.proofs.FormLaws.{first_exactly, first_fault, none_exactly, form_measures, form_ok}
use Rattle.format.proofs.SomeLaws.{some_form}
use Rattle.format.proofs.ByteLaws.{raster_are, packet_are, alone_are}

true≢false : true ≡ false → ⊥
true≢false e = let z : ◌≡◌ {A = ℕ} 0 1 = cc in omega arith

-- What is chosen.

-- f is at most 14, and 14 for no pixels.
pub chosen_most : (w h : ℕ) (is : List Item) → chosen w h is ≤ 14
unfolding chosen
chosen_most w h is =
    test (eqb w 0) (λ t. rw t (omega arith))
    (λ t. rw t (test (ltb (bytes_of_bits (w * h)) ((nybble_count is (fewest is) + 1) / 2)) (λ u. rw u (omega arith)) (λ u. rw u (omega (arith, (fewest_least is).inside)))))

pub chosen_none : (w h : ℕ) (is : List Item) → w ≡ 0 → chosen w h is ≡ 14
unfolding chosen
chosen_none w h is e = rw (eq-eqb w 0 e) refl

-- The raster bytes are no more than those of bits.
raster_few : (w h : ℕ) (b : List ℕ) (is : List Item) → length b ≡ w * h → length (raster_of (chosen w h is) is b) ≤ bytes_of_bits (length b)
unfolding chosen raster_of nybble_count
raster_few w h b is n =
    test (eqb w 0) (λ t. rw (t, length-bit_bytes (bytes_of_bits (length b)) b) (omega arith))
    (λ t. rw t (test (ltb (bytes_of_bits (w * h)) ((nybble_count is (fewest is) + 1) / 2))
    (λ u. rw (u, length-bit_bytes (bytes_of_bits (length b)) b) (omega arith))
    (λ u. let l = (fewest_least is).inside in
    let k = ltb-false (bytes_of_bits (w * h)) ((nybble_count is (fewest is) + 1) / 2) u in
    rw (u, ne_eqb (fewest is) 14 (λ e. omega arith), length-halves (writings (fewest is) is)) (omega (arith, n)))))

raster_small : (w h : ℕ) (b : List ℕ) (is : List Item) → length b ≡ w * h → w * h ≤ 65536 → length (raster_of (chosen w h is) is b) ≤ 8192
raster_small w h b is n l = omega (arith, raster_few w h b is n)

-- The packet.

-- A packet with so few raster bytes has at most 8,229, in every form.
packet_few : (p : Packet) → length p.raster ≤ 8192 → length (bytes_of (packet p)) ≤ 8229
unfolding bytes_of
packet_few p l =
    let n = length-append (field_bytes (kinds p.form) (fields p)) p.raster in
    let k = length_fields (kinds p.form) (fields p) in
    let s = sizes p.form in
    omega arith
  where
    sizes : (k : Form) → size (kinds k) ≤ 36
    sizes short = omega arith
    sizes extended = omega arith
    sizes long = omega arith

answer_ok : {A : Type 0} (r : Result A) (a : A) → answer_at 0 r ≡ gives a → r ≡ ok a
unfolding answer_at
answer_ok (ok b) a e = let z : b ≡ a = cc in ap ok z
answer_ok (fault x) a e = absurd (let z : ◌≡◌ {A = ℕ} 0 1 = cc in omega arith)

module _ (b : List ℕ) (m : Measures) (l : within_limits m.w m.h ≡ true) (n : length b ≡ nat_abs m.w * nat_abs m.h) (q : all_pixels b ≡ true) (c : is_code m.code ≡ true) where
  abbrev list : List Item
  list = counts (rows (nat_abs m.w) (nat_abs m.h) b)

  abbrev f : ℕ
  f = chosen (nat_abs m.w) (nat_abs m.h) list

  -- The packet of a form that holds.
  form_packed : (k : Form) (p : Packet) → p ≡ in_form f (first_black f b) m (raster_of f list b) k → holds m p ≡ true → PackedOf b m (bytes_of (packet p))
  unfolding in_form
  form_packed k p e t =
      let t' = subst (λ (x : Packet). holds m x ≡ true) e t in
      let fine = form_ok f (first_black f b) m (raster_of f list b) k l c t' (chosen_most (nat_abs m.w) (nat_abs m.h) list) in
      record {
        packet = p;
        are = refl;
        allowed = subst PacketOk (sym e) fine;
        says = ap measures e ∙ form_measures f (first_black f b) m (raster_of f list b) k l c t';
        draws = subst (λ (x : Packet). Draws x.f x.black x.w x.h x.raster b) (sym e)
            (raster_draws (nat_abs m.w) (nat_abs m.h) b f (chosen_most (nat_abs m.w) (nat_abs m.h) list) (box_true m.w m.h l).2 (chosen_none (nat_abs m.w) (nat_abs m.h) list) n q);
        size = n ∙ ap (λ (x : Packet). x.w * x.h) (sym e);
        each = packet_are p (subst PacketOk (sym e) fine) (subst (λ (x : Packet). Bytes x.raster) (sym e) (raster_are f list b (chosen_most (nat_abs m.w) (nat_abs m.h) list) q));
        few = packet_few p (subst (λ (x : Packet). length x.raster ≤ 8192) (sym e) (raster_small (nat_abs m.w) (nat_abs m.h) b list n (limits_small (nat_abs m.w) (nat_abs m.h) (box_true m.w m.h l).2)));
      }

-- What is packed is such a packet.
pub packed_is : (b : List ℕ) (m : Measures) (room : ℕ) (bytes : List ℕ) → pack b m room ≡ gives bytes → PackedOf b m bytes
unfolding pack packed packet_for choice_in
packed_is b m room bytes e =
    let w = nat_abs m.w in
    let h = nat_abs m.h in
    let r1 = need_ok (within_limits m.w m.h) bitmap_outside_limits _ (answer_ok (packed b m room) bytes e) in
    let r2 = need_ok (eqb (length b) (w * h) && all_pixels b) bad_bitmap _ r1.1 in
    let r3 = need_ok (is_code m.code) bad_code _ r2.1 in
    let r4 = bind_ok (packet_for b m) _ r3.1 in
    let p = r4.0 in
    let r5 = need_ok (leb (length (bytes_of (packet p))) room) no_room _ r4.2 in
    let t = and_true (eqb (length b) (w * h)) (all_pixels b) r2.0 in
    let is = counts (rows w h b) in
    let g = (first_exactly m (in_form (chosen w h is) (first_black (chosen w h is) b) m (raster_of (chosen w h is) is b)) p).0 r4.1 in
    let z : bytes_of (packet p) ≡ bytes = let y = r5.1 in cc in
    subst (PackedOf b m) z
    (form_packed b m r1.0 (eqb-true (length b) (w * h) t.0) t.1 r3.0 g.0 p g.2 (subst (λ (x : Packet). holds m x ≡ true) (sym g.2) g.1.held))

-- Set alone in a font.

-- The parts of such a font.
abbrev pub alone_in : Preamble → Packet → ℕ → Parts
alone_in a p pad = record { preamble = a; pieces = packet p ∷ []; pad = pad }

module _ (b : List ℕ) (m : Measures) (bytes : List ℕ) (t : PackedOf b m bytes) (a : Preamble) (fine : PreambleOk a) (pad : ℕ)
    (comment : Bytes a.comment) (small : length (set_alone a bytes pad) ≤ most) (four : length (set_alone a bytes pad) % 4 ≡ 0) where
  -- Its bytes have a cut,
  pub alone_cut : Cut (set_alone a bytes pad) (alone_in a t.packet pad)
  unfolding set_alone join flat packets codes elem
  alone_cut =
      record {
        bytes = alone_are a bytes pad fine comment t.each;
        whole = rw (append-nil (bytes_of (packet t.packet)), ← t.are) refl;
        small = small;
        four = four;
        preamble = fine;
        pieces = (t.allowed, tt);
        filled = ((b, t.draws), tt);
        distinct = (refl, tt);
        any = omega arith;
      }

  -- and its one code draws the measures and the pixels that were packed.
  pub alone_drawn : (room : ℕ) → length b ≤ room → draw (set_alone a bytes pad) (nat_abs m.code) room ≡ gives (m, b)
  unfolding measures
  alone_drawn room l =
      (drawn_exactly (set_alone a bytes pad) (alone_in a t.packet pad) alone_cut (nat_abs m.code) room m b).1
      (record {
        packet = t.packet;
        of = record { before = []; behind = []; stands = refl; has = sym (ap (λ (x : Measures). nat_abs x.code) t.says) };
        measures_are = sym t.says;
        draws = t.draws;
        fits = rw (← t.size) l;
      })

-- With every preamble there is an ending of at most three 246 that makes its length right.
pub alone_ends : (b : List ℕ) (m : Measures) (bytes : List ℕ) → PackedOf b m bytes → (a : Preamble) → PreambleOk a
    → (pad : ℕ) × (pad < 4) × (length (set_alone a bytes pad) ≤ most) × (length (set_alone a bytes pad) % 4 ≡ 0)
unfolding set_alone
alone_ends b m bytes t a fine =
    let n = length (preamble_bytes a) + length bytes + 1 in
    let pad = (3 * n) % 4 in
    let s = length-append (preamble_bytes a) (bytes ++ 245 ∷ replicate pad 246) in
    let r = length-append bytes (245 ∷ replicate pad 246) in
    let k = length-replicate {A = ℕ} pad 246 in
    let p = preamble_length a in
    let c = fine.comment in
    let f = t.few in
    (pad, omega arith, omega arith, omega arith)

-- The six ways in which packing answers, in 01's order.

module _ (b : List ℕ) (m : Measures) (room : ℕ) where
  pub data Ways : Type 0 where
    eighteen : within_limits m.w m.h ≡ false → pack b m room ≡ refused bitmap_outside_limits 0 → Ways
    nineteen : within_limits m.w m.h ≡ true → is_bitmap b m ≡ false → pack b m room ≡ refused bad_bitmap 0 → Ways
    eight : within_limits m.w m.h ≡ true → is_bitmap b m ≡ true → is_code m.code ≡ false → pack b m room ≡ refused bad_code 0 → Ways
    twenty : within_limits m.w m.h ≡ true → is_bitmap b m ≡ true → is_code m.code ≡ true → ((k : Form) → holds m (choice_in b m k) ≡ false) → pack b m room ≡ refused no_form 0 → Ways
    seventeen : within_limits m.w m.h ≡ true → is_bitmap b m ≡ true → is_code m.code ≡ true → (k : Form) → FirstHeld m (choice_in b m) k → room < length (choice_bytes b m k) → pack b m room ≡ refused no_room 0 → Ways
    packs : within_limits m.w m.h ≡ true → is_bitmap b m ≡ true → is_code m.code ≡ true → (k : Form) → FirstHeld m (choice_in b m) k → length (choice_bytes b m k) ≤ room
        → pack b m room ≡ gives (choice_bytes b m k) → Ways

  pub one_of_six : Ways
  unfolding pack packed packet_for choice_in need ◌>>=◌ answer_at
  one_of_six =
      test (within_limits m.w m.h)
      (λ l. test (is_bitmap b m)
      (λ p. test (is_code m.code) (λ c. formed l p c (first_form m (choice_in b m)) refl) (λ c. eight l p c (rw (l, p, c) refl)))
      (λ p. nineteen l p (rw (l, p) refl)))
      (λ l. eighteen l (rw l refl))
    where
      placed : within_limits m.w m.h ≡ true → is_bitmap b m ≡ true → is_code m.code ≡ true → (k : Form) → FirstHeld m (choice_in b m) k → first_form m (choice_in b m) ≡ ok (choice_in b m k) → Ways
      placed l p c k g e =
          split (length (choice_bytes b m k)) room
          (λ t. packs l p c k g t (rw (l, p, c, e, le-leb (length (choice_bytes b m k)) room t) refl))
          (λ t. seventeen l p c k g t (rw (l, p, c, e, lt-leb (length (choice_bytes b m k)) room t) refl))

      formed : within_limits m.w m.h ≡ true → is_bitmap b m ≡ true → is_code m.code ≡ true → (r : Result Packet) → first_form m (choice_in b m) ≡ r → Ways
      formed l p c (ok q) e = let g = (first_exactly m (choice_in b m) q).0 e in placed l p c g.0 g.1 (e ∙ ap ok g.2)
      formed l p c (fault x) e =
          let z = first_fault m (choice_in b m) x e in
          twenty l p c ((none_exactly m (choice_in b m)).0 (e ∙ ap fault z)) (rw (l, p, c, e, z) refl)

-- What is packed, and what is refused with 20.

-- A bitmap and a code within the limits.
module _ (b : List ℕ) (m : Measures) (room : ℕ) (l : within_limits m.w m.h ≡ true) (n : length b ≡ nat_abs m.w * nat_abs m.h) (q : all_pixels b ≡ true) (c : is_code m.code ≡ true) where
  abbrev w : ℕ
  w = nat_abs m.w

  abbrev h : ℕ
  h = nat_abs m.h

  choice_small : (k : Form) → length (choice_in b m k).raster ≤ 8192
  unfolding choice_in in_form
  choice_small k = raster_small w h b (counts (rows w h b)) n (limits_small w h (box_true m.w m.h l).2)

  a_bitmap : is_bitmap b m ≡ true
  a_bitmap = rw (eq-eqb (length b) (w * h) n, q) refl

  -- Some packet that 01 allows says the measures exactly where a form holds the choice.
  says_holds : (p : Packet) → PacketOk p → measures p ≡ m → (k : Form) × (holds m (choice_in b m k) ≡ true)
  unfolding choice_in
  says_holds p o e =
      let is = counts (rows w h b) in
      let f = chosen w h is in
      some_form m p o e f (first_black f b) (raster_of f is b) (raster_small w h b is n (limits_small w h (box_true m.w m.h l).2))

  holds_says : (k : Form) → holds m (choice_in b m k) ≡ true → PacketOk (choice_in b m k) × (measures (choice_in b m k) ≡ m)
  unfolding choice_in
  holds_says k t =
      let is = counts (rows w h b) in
      let f = chosen w h is in
      (form_ok f (first_black f b) m (raster_of f is b) k l c t (chosen_most w h is), form_measures f (first_black f b) m (raster_of f is b) k l c t)

  -- It is packed where such a packet is, and the buffer has room for the packet chosen;
  pub packs_when : (p : Packet) → PacketOk p → measures p ≡ m → ((k : Form) → FirstHeld m (choice_in b m) k → length (choice_bytes b m k) ≤ room)
      → (bytes : List ℕ) × (pack b m room ≡ gives bytes)
  packs_when p o e r = go (one_of_six b m room)
    where
      go : Ways b m room → (bytes : List ℕ) × (pack b m room ≡ gives bytes)
      go (eighteen x z) = absurd (true≢false (sym l ∙ x))
      go (nineteen x y z) = absurd (true≢false (sym a_bitmap ∙ y))
      go (eight x y u z) = absurd (true≢false (sym c ∙ u))
      go (twenty x y u none z) = let g = says_holds p o e in absurd (true≢false (sym g.1 ∙ none g.0))
      go (seventeen x y u k g less z) = let f = r k g in absurd (omega arith)
      go (packs x y u k g fits z) = (choice_bytes b m k, z)

  -- 8,229 bytes are room for each.
  pub room_enough : 8229 ≤ room → (k : Form) → length (choice_bytes b m k) ≤ room
  room_enough r k = let f = packet_few (choice_in b m k) (choice_small k) in omega arith

  -- It is refused with 20 exactly if no packet that 01 allows says the measures.
  pub twenty_exactly : (pack b m room ≡ refused no_form 0) ↔ ((p : Packet) → PacketOk p → measures p ≡ m → ⊥)
  twenty_exactly = (λ e. go e (one_of_six b m room), back (one_of_six b m room))
    where
      go : pack b m room ≡ refused no_form 0 → Ways b m room → (p : Packet) → PacketOk p → measures p ≡ m → ⊥
      go e (eighteen x z) p o s = true≢false (sym l ∙ x)
      go e (nineteen x y z) p o s = true≢false (sym a_bitmap ∙ y)
      go e (eight x y u z) p o s = true≢false (sym c ∙ u)
      go e (twenty x y u none z) p o s = let g = says_holds p o s in true≢false (sym g.1 ∙ none g.0)
      go e (seventeen x y u k g less z) p o s = let d = sym e ∙ z in let y : ◌≡◌ {A = ℕ} 0 1 = cc in omega arith
      go e (packs x y u k g fits z) p o s = refused≢ (sym e ∙ z)

      back : Ways b m room → ((p : Packet) → PacketOk p → measures p ≡ m → ⊥) → pack b m room ≡ refused no_form 0
      back (eighteen x z) never = absurd (true≢false (sym l ∙ x))
      back (nineteen x y z) never = absurd (true≢false (sym a_bitmap ∙ y))
      back (eight x y u z) never = absurd (true≢false (sym c ∙ u))
      back (twenty x y u none z) never = z
      back (seventeen x y u k g less z) never = let t = holds_says k g.held in absurd (never (choice_in b m k) t.0 t.1)
      back (packs x y u k g fits z) never = let t = holds_says k g.held in absurd (never (choice_in b m k) t.0 t.1)

-- The round trip.

-- The bytes come back as the bitmap b with the measures m: alone in a font behind the preamble, with an ending of at most three 246, they have a cut, and the code drawn there gives m and b.
pub record Returns (b : List ℕ) (m : Measures) (bytes : List ℕ) (a : Preamble) : Type 0 where
  pub pad : ℕ
  pub most_three : pad < 4
  pub parts : Parts
  pub cut : Cut (set_alone a bytes pad) parts
  pub drawn : (room : ℕ) → length b ≤ room → draw (set_alone a bytes pad) (nat_abs m.code) room ≡ gives (m, b)

-- Every bitmap and code within the limits with measures that some packet of 01 says is packed, where there is room, and the packet comes back, behind every preamble.
pub round_trip : (b : List ℕ) (m : Measures) (room : ℕ) → within_limits m.w m.h ≡ true → is_bitmap b m ≡ true → is_code m.code ≡ true → (p : Packet) → PacketOk p → measures p ≡ m
    → ((k : Form) → FirstHeld m (choice_in b m) k → length (choice_bytes b m k) ≤ room)
    → (bytes : List ℕ) × (pack b m room ≡ gives bytes) × ((a : Preamble) → PreambleOk a → Bytes a.comment → Returns b m bytes a)
round_trip b m room l q c p o e r =
    let t = and_true (eqb (length b) (nat_abs m.w * nat_abs m.h)) (all_pixels b) q in
    let k = packs_when b m room l (eqb-true (length b) (nat_abs m.w * nat_abs m.h) t.0) t.1 c p o e r in
    let is = packed_is b m room k.0 k.1 in (
      k.0,
      k.1,
      λ a fine comment.
          let x = alone_ends b m k.0 is a fine in
          record {
            pad = x.0;
            most_three = x.1;
            parts = alone_in a is.packet x.0;
            cut = alone_cut b m k.0 is a fine x.0 comment x.2 x.3;
            drawn = alone_drawn b m k.0 is a fine x.0 comment x.2 x.3;
          },
    )
