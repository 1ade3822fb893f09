-- The round trip over the public calls (the letter's second demand): what `pack` writes, set alone in a font, is a font that `check` accepts with one character, and `draw` gives back
-- the measures and the pixels. Assumes nothing.
use Prim.Native.Nat.{ℕ, ◌≤◌, ◌<◌, ◌%◌}
use mathlib.Core.Path.{◌≡◌, refl, sym, ap, ◌∙◌, subst}
use mathlib.Core.List.{List, ◌++◌}
use mathlib.Core.Bool.{true}
use lib.IntN.{nat_abs}
use lib.ListN.{length, take, drop}
use Rattle.format.specs.Limits.{most, within_limits, is_code}
use Rattle.format.specs.Refusals.{gives, answers, lent, told}
use Rattle.format.specs.Numbers.{Bytes}
use Rattle.format.specs.Pieces.{Preamble, PreambleOk, Form, Packet, PacketOk, measures}
use Rattle.format.specs.Cut.{packets, Cut}
use Rattle.format.specs.Verdict.{check}
use Rattle.format.specs.Drawing.{draw, draw_answer, draw_buffer}
use Rattle.format.specs.Packing.{is_bitmap, choice_in, choice_bytes, pack_answer, pack_buffer, set_alone, PackedOf}
use Rattle.format.specs.Choice.{FirstHeld}
use Rattle.format.proofs.PackTheorems as T
use Rattle.format.proofs.PackTheorems.{alone_in, alone_cut, alone_drawn, alone_ends}
use Rattle.font.specs.Answer as C
use Rattle.std.specs.Prelude.{Ok}
use Rattle.std.specs.declared.result.Result.{Result}
use Rattle.refusals.specs.declared.Refused.{Refused}
use Rattle.refusals.specs.Answers.{numbers}
use Rattle.font.proofs.Promises.{accepted_exactly}
use Rattle.measures.specs.Said.{said}
use Rattle.measures.specs.declared.Measures.{Measures}
use Rattle.glyph.specs.Answer as G
use Rattle.draw.proofs.Promises.{one_number}
use Rattle.pack.specs.Answer as P
use Rattle.pack.proofs.Promises as Q
use Rattle.pack.proofs.Promises.{packed_says}

-- A bitmap b with measures m, packed into a buffer with the answer n, which then holds `after`.
module _ (b : List ℕ) (m : Measures) (buffer after : List ℕ) (n : ℕ) (answered : P.in_numbers (Ok n) ≡ told (pack_answer b (said m) buffer)) (left : after ≡ pack_buffer b (said m) buffer) where
  packed : PackedOf b (said m) (take n after)
  unfolding numbers
  packed = (packed_says b (said m) buffer (Ok n) after answered left n refl).0

  -- With every preamble there is an ending of at most three 246 that makes the font's length right.
  pub some_ending : (a : Preamble) → PreambleOk a → (pad : ℕ) × (pad < 4) × (length (set_alone a (take n after) pad) ≤ most) × (length (set_alone a (take n after) pad) % 4 ≡ 0)
  some_ending a fine = alone_ends b (said m) (take n after) packed a fine

  -- The bytes of the packet alone in a font s, behind any preamble and with any ending that makes its length right.
  module _ (a : Preamble) (fine : PreambleOk a) (pad : ℕ) (s : List ℕ) (comment : Bytes a.comment) (is : s ≡ set_alone a (take n after) pad) (small : length s ≤ most) (four : length s % 4 ≡ 0) where
    -- The checker accepts it, with one character.
    pub checked_one : (r : Result ℕ Refused) → C.in_numbers r ≡ told (check s) → r ≡ Ok 1
    unfolding packets
    checked_one r e =
        let cut = alone_cut b (said m) (take n after) packed a fine pad comment (subst (λ (x : List ℕ). length x ≤ most) is small) (subst (λ (x : List ℕ). length x % 4 ≡ 0) is four) in
        (accepted_exactly s (subst Bytes (sym is) cut.bytes) r e 1).1
        (alone_in a packed.packet pad, subst (λ (x : List ℕ). Cut x (alone_in a packed.packet pad)) (sym is) cut, refl)

    -- The drawer, with room for the pixels, gives back the measures, and the pixels in the first bytes of its buffer.
    pub drawn_back : (pixels out : List ℕ) (r : Result Measures Refused) → length b ≤ length pixels → G.in_numbers r ≡ told (draw_answer s (nat_abs m.code) pixels) → out ≡ draw_buffer s (nat_abs m.code) pixels
        → (r ≡ Ok m) × (out ≡ b ++ drop (length b) pixels)
    unfolding draw_answer draw_buffer told answers lent numbers
    drawn_back pixels out r l e o =
        let d : draw s (nat_abs m.code) (length pixels) ≡ gives (said m, b) =
        ap (λ (x : List ℕ). draw x (nat_abs m.code) (length pixels)) is
        ∙ alone_drawn b (said m) (take n after) packed a fine pad comment (subst (λ (x : List ℕ). length x ≤ most) is small) (subst (λ (x : List ℕ). length x % 4 ≡ 0) is four) (length pixels) l in
        (one_number r (Ok m) (e ∙ rw d refl), o ∙ rw d refl)

-- In one.

-- A packet's bytes come back as the bitmap b with the measures m: with every preamble there is an ending, and of that font s, for every answer that the calls' promises allow,
-- the checker accepts it with one character and the drawer, with room for the pixels, gives back the measures and the pixels.
pub record Back (b : List ℕ) (m : Measures) (bytes : List ℕ) (a : Preamble) : Type 0 where
  pub pad : ℕ
  pub most_three : pad < 4
  pub checked : (r : Result ℕ Refused) → C.in_numbers r ≡ told (check (set_alone a bytes pad)) → r ≡ Ok 1
  pub drawn : (pixels out : List ℕ) (r : Result Measures Refused) → length b ≤ length pixels → G.in_numbers r ≡ told (draw_answer (set_alone a bytes pad) (nat_abs m.code) pixels)
      → out ≡ draw_buffer (set_alone a bytes pad) (nat_abs m.code) pixels → (r ≡ Ok m) × (out ≡ b ++ drop (length b) pixels)

-- For every bitmap and code within the limits with measures that some packet of 01 says, and a buffer with room for the packet chosen, `pack` answers with a length, and that many bytes come back.
pub round_trip : (b : List ℕ) (m : Measures) (buffer after : List ℕ) (r : Result ℕ Refused) → within_limits (said m).w (said m).h ≡ true → is_bitmap b (said m) ≡ true → is_code (said m).code ≡ true
    → (p : Packet) → PacketOk p → measures p ≡ said m → ((k : Form) → FirstHeld (said m) (choice_in b (said m)) k → length (choice_bytes b (said m) k) ≤ length buffer)
    → P.in_numbers r ≡ told (pack_answer b (said m) buffer) → after ≡ pack_buffer b (said m) buffer
    → (n : ℕ) × (r ≡ Ok n) × ((a : Preamble) → PreambleOk a → Bytes a.comment → Back b m (take n after) a)
unfolding pack_answer answers told numbers
round_trip b m buffer after r l bitmap c p o told-by room e left =
    let k = T.round_trip b (said m) (length buffer) l bitmap c p o told-by room in
    let n = length k.0 in
    let is : P.in_numbers (Ok n) ≡ told (pack_answer b (said m) buffer) = rw k.1 refl in (
      n,
      Q.one_number r (Ok n) (e ∙ sym is),
      λ a fine comment.
          let x = some_ending b m buffer after n is left a fine in
          record {
            pad = x.0;
            most_three = x.1;
            checked = checked_one b m buffer after n is left a fine x.0 (set_alone a (take n after) x.0) comment refl x.2 x.3;
            drawn = drawn_back b m buffer after n is left a fine x.0 (set_alone a (take n after) x.0) comment refl x.2 x.3;
          },
    )
