-- Laws of a bitmap that passed 18, 19 and 8, one for each answer: no form holds, the buffer is too short, the packet is written. Assumes nothing.
use Prim.Native.Nat.{ℕ, ◌+◌, ◌*◌, ◌≤◌, ◌<◌}
use mathlib.Core.Path.{◌≡◌, refl, sym, ap, ◌∙◌, subst}
use mathlib.Core.Bool.{Bool, true, false}
use mathlib.Core.List.{List, ◌∷◌, ◌++◌, append_assoc}
use native.Mathlib.Omega.{arith}
use lib.Dec.{leb}
use lib.IntN.{nat_abs}
use lib.ListN.{length, take, drop, replicate, length-append, length-replicate}
use lib.Seq.{take_at, drop_at, drop-drop}
use borrow.Author.Tests.{eq-eqb, ne_eqb, le-leb, lt-leb}
use Rattle.format.specs.Limits.{within_limits, is_code}
use Rattle.format.specs.Refusals.{Refusal, bad_code, no_room, bitmap_outside_limits, bad_bitmap, no_form, number_and_place, Result, ok, fault, ◌>>=◌, need, answers, answer_at, lent, told, says}
use Rattle.format.specs.Measures as F
use Rattle.format.specs.Numbers.{size, field_bytes}
use Rattle.format.specs.Pieces.{Form, short, extended, long, kinds, fixed, form_bits, Packet, black_bit, fields, flag, packet, bytes_of}
use Rattle.format.specs.Rasters.{rows}
use Rattle.format.specs.Counts.{counts}
use Rattle.format.specs.Choice.{first_black, in_form, first_form}
use Rattle.format.specs.Packing.{all_pixels, choice_in, packet_for, packed, pack, pack_answer, pack_buffer}
use Rattle.format.proofs.FieldLaws.{length_fields}
use Rattle.format.proofs.PackTheorems.{chosen_most, chosen_none}
use Rattle.format.proofs.FormLaws.{values_for, values_for_lem, first_length, none_length}
use Rattle.std.specs.Prelude.{Ok, Err, Some, None}
use Rattle.std.specs.declared.option.Option.{Option}
use Rattle.refusals.specs.Answers.{refused_at, numbers}
use Rattle.refusals.proofs.NameLaws.{number_coded}
use Rattle.size.specs.Sizes.{IsChosen}
use Rattle.size.specs.declared.Chosen.{Chosen}
use Rattle.pick.specs.Picks.{tried, IsPicked}
use Rattle.pick.specs.declared.Picked.{Picked}
use Rattle.pick.specs.declared.Picked.TheVariants.{Short, Extended, Long}
use Rattle.head.specs.Head.{head_of, head_for, head_length}
use Rattle.pack.specs.Answer.{in_numbers}
use Rattle.pack.specs.Bitmaps.{Bitmap, raster_for}

-- A refusal.

-- The answer is a refusal, and the buffer stays.
abbrev pub Refuses : List ℕ → F.Measures → List ℕ → Refusal → Type 0
Refuses b m buffer x = (in_numbers (Err (refused_at x 0)) ≡ told (pack_answer b m buffer)) × (buffer ≡ pack_buffer b m buffer)

refuses : (b : List ℕ) (m : F.Measures) (buffer : List ℕ) (x : Refusal) → (number_and_place x 0).1 ≡ 0 → packed b m (length buffer) ≡ fault x → Refuses b m buffer x
unfolding numbers told pack_answer pack_buffer answers lent pack answer_at
refuses b m buffer x e q = (rw (q, number_coded x 0, e) refl, rw q refl)

module _ (b : List ℕ) (m : F.Measures) (buffer : List ℕ) where
  -- 18.
  pub outside_refused : within_limits m.w m.h ≡ false → Refuses b m buffer bitmap_outside_limits
  unfolding packed need ◌>>=◌
  outside_refused l = refuses b m buffer bitmap_outside_limits refl (rw l refl)

  module _ (l : within_limits m.w m.h ≡ true) where
    -- 19: another length, or a byte other than 0 or 1.
    pub length_refused : (length b ≡ nat_abs m.w * nat_abs m.h → ⊥) → Refuses b m buffer bad_bitmap
    unfolding packed need ◌>>=◌
    length_refused n = refuses b m buffer bad_bitmap refl (rw (l, ne_eqb (length b) (nat_abs m.w * nat_abs m.h) n) refl)

    module _ (n : length b ≡ nat_abs m.w * nat_abs m.h) where
      pub pixels_refused : all_pixels b ≡ false → Refuses b m buffer bad_bitmap
      unfolding packed need ◌>>=◌
      pixels_refused q = refuses b m buffer bad_bitmap refl (rw (l, eq-eqb (length b) (nat_abs m.w * nat_abs m.h) n, q) refl)

      -- 8.
      pub code_refused : all_pixels b ≡ true → is_code m.code ≡ false → Refuses b m buffer bad_code
      unfolding packed need ◌>>=◌
      code_refused q c = refuses b m buffer bad_code refl (rw (l, eq-eqb (length b) (nat_abs m.w * nat_abs m.h) n, q, c) refl)

-- A packet's bytes.

-- Its head and its raster.
bytes_head : (p : Packet) → bytes_of (packet p) ≡ head_of p ++ p.raster
unfolding bytes_of head_of
bytes_head p = refl

-- The head before n raster bytes: what they are does not matter.
head_is : (f : ℕ) (black : Bool) (m : F.Measures) (raster : List ℕ) (k : Form)
    → head_of (in_form f black m raster k) ≡ (16 * f + black_bit black + form_bits k (fixed k + length raster)) ∷ field_bytes (kinds k) (values_for m (length raster) k)
unfolding head_of in_form flag
head_is f black m raster k = rw (values_for_lem f black m raster k) refl

head_alike : (f : ℕ) (black : Bool) (m : F.Measures) (raster : List ℕ) (k : Form) → head_of (in_form f black m (replicate (length raster) 0) k) ≡ head_of (in_form f black m raster k)
head_alike f black m raster k = head_is f black m (replicate (length raster) 0) k ∙ rw (length-replicate {A = ℕ} (length raster) 0) (sym (head_is f black m raster k))

-- Its length.
head_length_lem : (p : Packet) → length (head_of p) ≡ size (kinds p.form) + 1
unfolding head_of
head_length_lem p = let n = length_fields (kinds p.form) (fields p) in omega arith

-- The form picked.

-- The packet in the form k is the one chosen; its head is the one for the form picked, and so long.
record Formed (m : F.Measures) (f : ℕ) (black : Bool) (raster : List ℕ) (p : Picked) (k : Form) : Type 0 where
  first : first_form m (in_form f black m raster) ≡ ok (in_form f black m raster k)
  head : head_for f black m (length raster) (Some p) ≡ head_of (in_form f black m raster k)
  long : length (head_of (in_form f black m raster k)) ≡ head_length (Some p)

-- What an answer says of the raster.
abbrev IsForm : F.Measures → ℕ → Bool → List ℕ → Picked → Type 0
IsForm m f black raster (Short dm x y) = Formed m f black raster (Short dm x y) short
IsForm m f black raster (Extended dm x y) = Formed m f black raster (Extended dm x y) extended
IsForm m f black raster (Long x y) = Formed m f black raster (Long x y) long

formed : (m : F.Measures) (f : ℕ) (black : Bool) (raster : List ℕ) (p : Picked) → IsPicked m (length raster) p → IsForm m f black raster p
unfolding in_form
formed m f black raster (Short dm x y) e = record { first = first_length f black m raster short e.0; head = head_alike f black m raster short; long = head_length_lem (in_form f black m raster short) }
formed m f black raster (Extended dm x y) e = record { first = first_length f black m raster extended e.0; head = head_alike f black m raster extended; long = head_length_lem (in_form f black m raster extended) }
formed m f black raster (Long x y) e = record { first = first_length f black m raster long e.0; head = head_alike f black m raster long; long = head_length_lem (in_form f black m raster long) }

-- Which form it is.
record SomeForm (m : F.Measures) (f : ℕ) (black : Bool) (raster : List ℕ) (p : Picked) : Type 0 where
  k : Form
  is : Formed m f black raster p k

some_form : (m : F.Measures) (f : ℕ) (black : Bool) (raster : List ℕ) (p : Picked) → IsForm m f black raster p → SomeForm m f black raster p
some_form m f black raster (Short dm x y) t = record { k = short; is = t }
some_form m f black raster (Extended dm x y) t = record { k = extended; is = t }
some_form m f black raster (Long x y) t = record { k = long; is = t }

-- Behind the checks.

-- f is at most 14, and 14 where there are none,
pub choice_f : (b : List ℕ) (w h : ℕ) (r : Chosen) → IsChosen w h b r → (r.f ≤ 14) × (w ≡ 0 → r.f ≡ 14)
choice_f b w h r c = (rw c.f (chosen_most w h (counts (rows w h b))), (λ e. c.f ∙ chosen_none w h (counts (rows w h b)) e))

pub choice_bytes_lem : (b : List ℕ) (w h : ℕ) (r : Chosen) → IsChosen w h b r → length (raster_for r.f w h b) ≡ r.bytes
unfolding raster_for
choice_bytes_lem b w h r c = sym c.bytes

-- and a head is short.
pub head_small : (p : Option Picked) → head_length p ≤ 37
head_small (Some (Short dm x y)) = omega arith
head_small (Some (Extended dm x y)) = omega arith
head_small (Some (Long x y)) = omega arith
head_small None = omega arith

-- The packet's bytes, if the buffer has room for them.
abbrev placed : ℕ → Packet → Result (List ℕ)
placed room q = need (leb (length (bytes_of (packet q))) room) no_room >>= λ _. ok (bytes_of (packet q))

checked : (b : List ℕ) (m : F.Measures) (room : ℕ) → within_limits m.w m.h ≡ true → length b ≡ nat_abs m.w * nat_abs m.h → all_pixels b ≡ true → is_code m.code ≡ true
    → packed b m room ≡ (packet_for b m >>= placed room)
unfolding packed need ◌>>=◌
checked b m room l n q c = rw (l, eq-eqb (length b) (nat_abs m.w * nat_abs m.h) n, q, c) refl

module _ (b : List ℕ) (w h : ℕ) (m : F.Measures) (t : Bitmap b w h m) (buffer : List ℕ) (r : Chosen) (c : IsChosen w h b r) where
  abbrev black : Bool
  black = first_black r.f b

  abbrev raster : List ℕ
  raster = raster_for r.f w h b

  raster_long : r.bytes ≡ length raster
  unfolding raster_for
  raster_long = c.bytes

  -- What is packed is the first form's packet with this raster, placed.
  packed_so : packed b m (length buffer) ≡ (first_form m (in_form r.f black m raster) >>= placed (length buffer))
  unfolding packet_for choice_in raster_for
  packed_so =
      checked b m (length buffer) t.judged.limits (t.size ∙ rw (t.wide, t.high) refl) t.pixels t.judged.code
      ∙ ap (λ (x : Result Packet). x >>= placed (length buffer))
      (rw (← t.wide, ← t.high, ← c.f) refl)

  -- No form holds.
  module _ (e : first_form m (tried m r.bytes) ≡ fault no_form) where
    none_packed : packed b m (length buffer) ≡ fault no_form
    unfolding ◌>>=◌
    none_packed = packed_so ∙ rw (none_length r.f black m raster (subst (λ (n : ℕ). first_form m (tried m n) ≡ fault no_form) raster_long e)) refl

    pub none_refused : Refuses b m buffer no_form
    none_refused = refuses b m buffer no_form refl none_packed

  -- A form p holds.
  module _ (p : Picked) (e : IsPicked m r.bytes p) where
    some : SomeForm m r.f black raster p
    some = some_form m r.f black raster p (formed m r.f black raster p (subst (λ (n : ℕ). IsPicked m n p) raster_long e))

    abbrev chosen_packet : Packet
    chosen_packet = in_form r.f black m raster some.k

    raster_is : chosen_packet.raster ≡ raster
    unfolding in_form
    raster_is = refl

    bytes_are : bytes_of (packet chosen_packet) ≡ head_for r.f black m r.bytes (Some p) ++ raster
    bytes_are =
        bytes_head chosen_packet
        ∙ ap (λ (x : List ℕ). head_of chosen_packet ++ x) raster_is
        ∙ ap (λ (x : List ℕ). x ++ raster) (sym some.is.head ∙ ap (λ (n : ℕ). head_for r.f black m n (Some p)) (sym raster_long))

    bytes_long : length (bytes_of (packet chosen_packet)) ≡ head_length (Some p) + r.bytes
    bytes_long =
        ap length (bytes_head chosen_packet) ∙ length-append (head_of chosen_packet) chosen_packet.raster
        ∙ rw (some.is.long, raster_is, ← raster_long) refl

    placed_so : packed b m (length buffer) ≡ placed (length buffer) chosen_packet
    unfolding ◌>>=◌
    placed_so = packed_so ∙ rw some.is.first refl

    -- The buffer is too short.
    module _ (l : length buffer < head_length (Some p) + r.bytes) where
      short_packed : packed b m (length buffer) ≡ fault no_room
      unfolding need ◌>>=◌
      short_packed = placed_so ∙ rw (lt-leb (length (bytes_of (packet chosen_packet))) (length buffer) (omega (arith, bytes_long))) refl

      pub short_refused : Refuses b m buffer no_room
      short_refused = refuses b m buffer no_room refl short_packed

    -- The head is written, and the raster behind it.
    module _ (l : head_length (Some p) + r.bytes ≤ length buffer) where
      done_packed : packed b m (length buffer) ≡ ok (bytes_of (packet chosen_packet))
      unfolding need ◌>>=◌
      done_packed = placed_so ∙ rw (le-leb (length (bytes_of (packet chosen_packet))) (length buffer) (omega (arith, bytes_long))) refl

      pub done_answer : (n : ℕ) → n ≡ head_length (Some p) + length raster → in_numbers (Ok n) ≡ told (pack_answer b m buffer)
      unfolding numbers told pack_answer answers pack answer_at
      done_answer n q = rw done_packed (ap says (q ∙ ap (λ (x : ℕ). head_length (Some p) + x) (sym raster_long) ∙ sym bytes_long))

      pub done_buffer : (at n : ℕ) (d₁ d₂ : List ℕ) → at ≡ head_length (Some p) → d₁ ≡ head_for r.f black m r.bytes (Some p) ++ drop at buffer → n ≡ at + length raster
          → d₂ ≡ take at d₁ ++ (raster ++ drop n d₁) → d₂ ≡ pack_buffer b m buffer
      unfolding pack_buffer lent pack answer_at
      done_buffer at n d₁ d₂ x y u v =
          let head = head_for r.f black m r.bytes (Some p) in
          let k : length head ≡ at = ap length (sym (ap (λ (j : ℕ). head_for r.f black m j (Some p)) (sym raster_long)) ∙ some.is.head) ∙ some.is.long ∙ sym x in
          let a : take at d₁ ≡ head = rw y (take_at head (drop at buffer) at k) in
          let o : drop at d₁ ≡ drop at buffer = rw y (drop_at head (drop at buffer) at k) in
          let g : drop n d₁ ≡ drop n buffer = rw u (sym (drop-drop (length raster) at d₁) ∙ ap (drop (length raster)) o ∙ drop-drop (length raster) at buffer) in
          let i : length (bytes_of (packet chosen_packet)) ≡ n = bytes_long ∙ rw (u, x, ← raster_long) refl in
          v ∙ rw (a, g) (sym (rw (done_packed, i, bytes_are) (append_assoc head raster (drop n buffer))))
