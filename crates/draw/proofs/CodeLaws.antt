-- Laws of the call, one for each answer: a refused font, a code that is absent, a packet that is drawn. Assumes nothing.
use Prim.Native.Nat.{ℕ}
use mathlib.Core.Path.{◌≡◌, refl, sym, ap, ◌∙◌}
use mathlib.Core.List.{List}
use lib.ListN.{length}
use Rattle.format.specs.Refusals.{no_such_code, Answer, gives, refused, answers, lent, fault, number_and_place, told, refuses, answer_at}
use Rattle.format.specs.Numbers.{Bytes}
use Rattle.format.specs.Measures as F
use Rattle.format.specs.Cut.{packets, Parts, chars, Cut}
use Rattle.format.specs.Verdict.{verdict, check}
use Rattle.format.specs.Drawing.{find, drawn, draw_from, draw, draw_answer, draw_buffer}
use Rattle.format.proofs.DrawTheorems.{from_found, from_none}
use Rattle.std.specs.Prelude.{Ok, Err}
use Rattle.std.specs.declared.result.Result.{Result}
use Rattle.refusals.specs.Names.{number_of}
use Rattle.refusals.specs.Answers.{refused_at, numbers}
use Rattle.refusals.specs.declared.Refused.{Refused}
use Rattle.refusals.proofs.AnswerLaws.{not_given}
use Rattle.measures.specs.declared.Measures.{Measures}
use Rattle.packet.specs.declared.Outline.{Outline}
use Rattle.font.specs.Answer as A
use Rattle.font.proofs.Promises.{accepted_exactly}
use Rattle.find.specs.Places.{Accepted}
use Rattle.find.proofs.FoundLaws.{Stood}
use Rattle.glyph.specs.Answer.{in_numbers}
use Rattle.glyph.specs.Packets.{IsDrawn, IsPixels}

-- An accepted font.

module _ (font : List ℕ) (x : Parts) (c : Cut font x) (code : ℕ) (buffer : List ℕ) where
  module _ (at : ℕ) (o : Outline) (t : Stood font code (packets x.pieces) at o) where
    is_drawn : draw font code (length buffer) ≡ answer_at 0 (drawn (length buffer) t.drawable.stands.packet)
    is_drawn = from_found font x c code (length buffer) t.drawable.stands.packet t.first

    -- The packet of the code is drawn.
    pub code_answer : (r : Result Measures Refused) → IsDrawn font at buffer r → in_numbers r ≡ told (draw_answer font code buffer)
    unfolding draw_answer
    code_answer r d = d t.drawable.stands.packet t.drawable.stands.rest t.drawable.stands.here ∙ sym (ap (λ (a : Answer (F.Measures × List ℕ)). told (answers (λ t. t.0) a)) is_drawn)

    pub code_pixels : (after : List ℕ) → IsPixels font at buffer after → after ≡ draw_buffer font code buffer
    unfolding draw_buffer
    code_pixels after d = d t.drawable.stands.packet t.drawable.stands.rest t.drawable.stands.here ∙ sym (ap (λ (a : Answer (F.Measures × List ℕ)). lent (λ t. t.1) a buffer) is_drawn)

  -- No packet has the code.
  pub absent_answer : find code (packets x.pieces) ≡ fault no_such_code → in_numbers (Err (refused_at no_such_code 0)) ≡ told (draw_answer font code buffer)
  unfolding numbers draw_answer told answers
  absent_answer e = rw (from_none font x c code (length buffer) e) refl

  pub absent_pixels : find code (packets x.pieces) ≡ fault no_such_code → buffer ≡ draw_buffer font code buffer
  unfolding draw_buffer lent
  absent_pixels e = rw (from_none font x c code (length buffer) e) refl

-- A font whose characters are told is accepted.
pub accepted : (font : List ℕ) → Bytes font → (a : Result ℕ Refused) (n : ℕ) → a ≡ Ok n → A.in_numbers a ≡ told (check font) → Accepted font
accepted font b a n e h = let t = (accepted_exactly font b a h n).0 e in (t.0, t.1)

-- A refused font.

refused_told : (v : Answer Parts) (code room number place : ℕ) → refuses number place ≡ told (answers chars v) → refuses number place ≡ told (answers (λ t. t.0) (draw_from code room v))
unfolding told answers draw_from
refused_told (gives x) code room number place e = cc
refused_told (refused y at) code room number place e =
    let i : number ≡ (number_and_place y at).0 = cc in
    let j : place ≡ (number_and_place y at).1 = cc in
    rw (i, j) refl

refused_lent : (v : Answer Parts) (code : ℕ) (buffer : List ℕ) (number place : ℕ) → refuses number place ≡ told (answers chars v) → buffer ≡ lent (λ t. t.1) (draw_from code (length buffer) v) buffer
unfolding told answers draw_from lent
refused_lent (gives x) code buffer number place e = cc
refused_lent (refused y at) code buffer number place e = refl

-- The font's own refusal is given, and the buffer stays.
module _ (font : List ℕ) (code : ℕ) (buffer : List ℕ) (a : Result ℕ Refused) (x : Refused) (e : a ≡ Err x) (h : A.in_numbers a ≡ told (check font)) where
  same : refuses (number_of x.refusal) x.place ≡ told (check font)
  same = not_given (λ (n : ℕ). n) a (told (check font)) h x e

  pub refused_answer : in_numbers (Err x) ≡ told (draw_answer font code buffer)
  unfolding numbers draw_answer draw check
  refused_answer = refused_told (verdict font) code (length buffer) (number_of x.refusal) x.place same

  pub refused_pixels : buffer ≡ draw_buffer font code buffer
  unfolding draw_buffer draw check
  refused_pixels = refused_lent (verdict font) code buffer (number_of x.refusal) x.place same
