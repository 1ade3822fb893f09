-- What the call's promise means (the letter's second and third demands): it answers in one of four ways, each exactly where it must; measures
-- and pixels are those that the cut says; no refusal writes; commands and the order of pieces change nothing; and any two answers that the
-- promise allows are equal. Assumes nothing.
use Prim.Native.Nat.{ℕ, ◌*◌, ◌%◌, ◌≤◌}
use mathlib.Core.Path.{◌≡◌, refl, sym, ap, ◌∙◌, subst}
use mathlib.Core.Logic.{⊎_elim}
use mathlib.Core.List.{List, ◌++◌}
use lib.ListN.{length, drop}
use Rattle.format.specs.Limits.{most}
use Rattle.format.specs.Refusals.{Refusal, no_such_code, no_room, Answer, gives, refused, answers, lent, says, refuses, told}
use Rattle.format.specs.Numbers.{Bytes}
use Rattle.format.specs.Measures as F
use Rattle.format.specs.Pieces.{Packet, Piece, PieceOk, measures}
use Rattle.format.specs.Rasters.{Draws}
use Rattle.format.specs.Cut.{Parts, join, Cut}
use Rattle.format.specs.Codes.{PacketOf, NoPacketOf, SaidOf, NoRoomFor}
use Rattle.format.specs.Faults.{Means}
use Rattle.format.specs.Drawing.{pixels_of, draw, draw_answer, draw_buffer}
use Rattle.format.proofs.DrawTheorems as T
use Rattle.format.proofs.DrawTheorems.{of_drawn, OneOfThree, saying, one_of_three, drawn_exactly, seventeen_exactly, sixteen_exactly, above_255, draw_refused}
use Rattle.format.proofs.PixelLaws.{draws_size}
use Rattle.format.proofs.CommandLaws.{Command, with_command, command_drawings}
use Rattle.format.proofs.OrderLaws.{Reordered, with_pieces, reordered_drawings}
use Rattle.format.proofs.FaultConverse.{means_refusal, row_or_cut}
use Rattle.measures.specs.Said as M
use Rattle.measures.proofs.SaidLaws.{one_measures}
use Rattle.glyph.specs.Answer.{in_numbers}
use Rattle.std.specs.declared.result.Result.{Result}
use Rattle.refusals.specs.declared.Refused.{Refused}
use Rattle.refusals.proofs.AnswerLaws.{one_numbers}
use Rattle.measures.specs.declared.Measures.{Measures}

-- One answer.

-- An answer is told by its numbers.
pub one_number : (r t : Result Measures Refused) → in_numbers r ≡ in_numbers t → r ≡ t
one_number r t e = one_numbers M.said one_measures r t e

-- Any two answers that the promise allows are equal, and so are the buffers that it allows.
pub one_answer : (s : List ℕ) (code : ℕ) (buffer : List ℕ) (r t : Result Measures Refused) (after after' : List ℕ)
    → in_numbers r ≡ told (draw_answer s code buffer) → after ≡ draw_buffer s code buffer → in_numbers t ≡ told (draw_answer s code buffer) → after' ≡ draw_buffer s code buffer → (r ≡ t) × (after ≡ after')
one_answer s code buffer r t after after' e o f q = (one_number r t (e ∙ sym f), o ∙ sym q)

-- What it says.

-- An answer r that the promise allows of a font s, a code and a lent buffer, and what the buffer holds afterwards.
module _ (s : List ℕ) (code : ℕ) (buffer : List ℕ) (r : Result Measures Refused) (after : List ℕ) (promised : in_numbers r ≡ told (draw_answer s code buffer)) (left : after ≡ draw_buffer s code buffer) where
  answer_of : (a : Answer (F.Measures × List ℕ)) → draw s code (length buffer) ≡ a → in_numbers r ≡ told (answers (λ t. t.0) a)
  unfolding draw_answer
  answer_of a e = promised ∙ rw e refl

  buffer_of : (a : Answer (F.Measures × List ℕ)) → draw s code (length buffer) ≡ a → after ≡ lent (λ t. t.1) a buffer
  unfolding draw_buffer
  buffer_of a e = left ∙ rw e refl

  -- No refusal writes.
  pub refused_untouched : (number place : ℕ) → in_numbers r ≡ refuses number place → after ≡ buffer
  unfolding told answers lent
  refused_untouched number place e = go (draw s code (length buffer)) refl
    where
      go : (a : Answer (F.Measures × List ℕ)) → draw s code (length buffer) ≡ a → after ≡ buffer
      go (gives t) q = let z = sym e ∙ answer_of (gives t) q in cc
      go (refused x at) q = buffer_of (refused x at) q

  -- A font at fault is refused as it is checked, whatever the code and the buffer.
  pub font_first : (x : Refusal) (place : ℕ) → Bytes s → Means s x place → (in_numbers r ≡ told {A = F.Measures} (refused x place)) × (after ≡ buffer)
  unfolding answers lent
  font_first x place b m =
      let q = draw_refused s x place code (length buffer) (means_refusal s x place b m) in
      (answer_of (refused x place) q, buffer_of (refused x place) q)

  -- Of a font with a cut:
  module _ (x : Parts) (c : Cut s x) where
    -- 16 where no packet of the cut has the code, as for every code above 255;
    pub sixteen : NoPacketOf x code → (in_numbers r ≡ refuses 16 0) × (after ≡ buffer)
    unfolding told answers lent
    sixteen t =
        let q = (sixteen_exactly s x c code (length buffer)).1 t in
        (answer_of (refused no_such_code 0) q, buffer_of (refused no_such_code 0) q)

    pub sixteen_above : 256 ≤ code → (in_numbers r ≡ refuses 16 0) × (after ≡ buffer)
    sixteen_above l = sixteen (above_255 s x c code l)

    -- 17 where the buffer is too short for the packet of the code;
    pub seventeen : NoRoomFor x code (length buffer) → (in_numbers r ≡ refuses 17 0) × (after ≡ buffer)
    unfolding told answers lent
    seventeen t =
        let q = (seventeen_exactly s x c code (length buffer)).1 t in
        (answer_of (refused no_room 0) q, buffer_of (refused no_room 0) q)

    -- else what the cut says: the measures, the pixels in the first bytes, the old ones beyond.
    pub drawn : (m : F.Measures) (pixels : List ℕ) → SaidOf x code (length buffer) m pixels → (in_numbers r ≡ says m) × (after ≡ pixels ++ drop (length pixels) buffer)
    unfolding told answers lent
    drawn m pixels t =
        let q = (drawn_exactly s x c code (length buffer) m pixels).1 t in
        (answer_of (gives (m, pixels)) q, buffer_of (gives (m, pixels)) q)

    -- The packet p of the code, wherever it stands, with room for it: its measures, and its pixels in the first w × h bytes.
    pub packet_drawn : (p : Packet) → PacketOf x code p → p.w * p.h ≤ length buffer
        → (in_numbers r ≡ says (measures p)) × ((pixels : List ℕ) × Draws p.f p.black p.w p.h p.raster pixels × (after ≡ pixels ++ drop (p.w * p.h) buffer))
    packet_drawn p o l =
        let d = of_drawn s x c code p o in
        let t = drawn (measures p) (pixels_of p) (record { packet = p; of = o; measures_are = refl; draws = d; fits = l }) in
        let n = draws_size p.f p.black p.w p.h p.raster (pixels_of p) d in
        (t.0, (pixels_of p, d, t.1 ∙ ap (λ (k : ℕ). pixels_of p ++ drop k buffer) n))

  -- The four ways in which it answers, and what each says.
  pub data Answered : Type 0 where
    at_fault : (x : Refusal) (place : ℕ) → Means s x place → in_numbers r ≡ told (refused x place) → after ≡ buffer → Answered
    absent : (x : Parts) → Cut s x → NoPacketOf x code → in_numbers r ≡ refuses 16 0 → after ≡ buffer → Answered
    too_short : (x : Parts) → Cut s x → NoRoomFor x code (length buffer) → in_numbers r ≡ refuses 17 0 → after ≡ buffer → Answered
    said : (x : Parts) → Cut s x → (m : F.Measures) (pixels : List ℕ) → SaidOf x code (length buffer) m pixels → in_numbers r ≡ says m → after ≡ pixels ++ drop (length pixels) buffer → Answered

  pub one_of_four : Bytes s → Answered
  one_of_four b =
      ⊎_elim
      (λ t. let a = font_first t.0 t.1 b t.2 in at_fault t.0 t.1 t.2 a.0 a.1)
      (λ t. go t.0 t.1 (one_of_three s t.0 t.1 code (length buffer)))
      (row_or_cut s b)
    where
      go : (x : Parts) (c : Cut s x) → OneOfThree s x c code (length buffer) → Answered
      go x c (saying m pixels t q) = let a = drawn x c m pixels t in said x c m pixels t a.0 a.1
      go x c (T.too_short t q) = let a = seventeen x c t in too_short x c t a.0 a.1
      go x c (T.absent t q) = let a = sixteen x c t in absent x c t a.0 a.1

-- What changes nothing.

-- Answers q and r that the promise allows of two fonts that draw alike are equal, and so are the buffers afterwards.
alike : (s t : List ℕ) (code : ℕ) (buffer : List ℕ) (q r : Result Measures Refused) → draw s code (length buffer) ≡ draw t code (length buffer)
    → in_numbers q ≡ told (draw_answer s code buffer) → in_numbers r ≡ told (draw_answer t code buffer) → (q ≡ r) × (draw_buffer s code buffer ≡ draw_buffer t code buffer)
unfolding draw_answer draw_buffer
alike s t code buffer q r d e f = (
  one_number q r (e ∙ ap (λ (a : Answer (F.Measures × List ℕ)). told (answers (λ u. u.0) a)) d ∙ sym f),
  ap (λ (a : Answer (F.Measures × List ℕ)). lent (λ u. u.1) a buffer) d,
)

-- A command more, anywhere among the pieces.
pub command_nothing : (x : Parts) (ps qs : List Piece) (c : Piece) (pad : ℕ) (is : x.pieces ≡ ps ++ qs) (command : Command c) (allowed : PieceOk c)
    (s t : List ℕ) → Cut s x → t ≡ join (with_command x ps qs c pad is command allowed) → Bytes t → length t ≤ most → length t % 4 ≡ 0
    → (code : ℕ) (buffer : List ℕ) (q r : Result Measures Refused) → in_numbers q ≡ told (draw_answer t code buffer) → in_numbers r ≡ told (draw_answer s code buffer)
    → (q ≡ r) × (draw_buffer t code buffer ≡ draw_buffer s code buffer)
command_nothing x ps qs c pad is command allowed s t k e b l f code buffer q r i j =
    alike t s code buffer q r
    (ap (λ (u : List ℕ). draw u code (length buffer)) e
    ∙ command_drawings x ps qs c pad is command allowed s k (subst Bytes e b) (subst (λ (u : List ℕ). length u ≤ most) e l) (subst (λ (u : List ℕ). length u % 4 ≡ 0) e f) code (length buffer))
    i j

-- The pieces in another order.
pub order_nothing : (x : Parts) (qs : List Piece) → Reordered x.pieces qs → Cut (join x) x
    → (code : ℕ) (buffer : List ℕ) (q r : Result Measures Refused) → in_numbers q ≡ told (draw_answer (join (with_pieces x qs)) code buffer) → in_numbers r ≡ told (draw_answer (join x) code buffer)
    → (q ≡ r) × (draw_buffer (join (with_pieces x qs)) code buffer ≡ draw_buffer (join x) code buffer)
order_nothing x qs o k code buffer q r i j = alike (join (with_pieces x qs)) (join x) code buffer q r (reordered_drawings x qs o k code (length buffer)) i j
