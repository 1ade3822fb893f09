-- Laws of the packet at a place: the buffer is too short, or holds its pixels. Assumes nothing.
use Prim.Native.Nat.{ℕ, ◌-◌, ◌*◌, ◌≤◌, ◌<◌}
use mathlib.Core.Path.{◌≡◌, refl, sym, ap, ◌∙◌, subst}
use mathlib.Core.List.{List, ◌++◌}
use native.Mathlib.Omega.{arith}
use lib.ListN.{length, drop}
use borrow.Author.Tests.{le-leb, lt-leb}
use Rattle.format.specs.Refusals.{no_room, answers, lent, ok, fault, ◌>>=◌, need, answer_at, says, told}
use Rattle.format.specs.Numbers.{Bytes}
use Rattle.format.specs.Pieces.{Packet, packet, measures}
use Rattle.format.specs.Reading.{items}
use Rattle.format.specs.Verdict.{piece, step}
use Rattle.format.specs.Drawing.{raster_pixels, pixels_of, drawn}
use Rattle.format.proofs.OnwardLaws.{raster_bytes}
use Rattle.format.proofs.FieldLaws.{bytes_drop}
use Rattle.format.proofs.PixelLaws.{pixels_draw, draws_size}
use Rattle.std.specs.declared.result.Result.TheVariants.{Ok, Err}
use Rattle.refusals.specs.Answers.{refused_at, numbers}
use Rattle.packet.specs.Outlines.{outline_of}
use Rattle.packet.specs.Standing.{StandsAt, raster_of, Drawable}
use Rattle.packet.specs.declared.Outline.{Outline}
use Rattle.packet.proofs.StandingLaws.{stands_is, stands_raster}
use Rattle.measures.specs.Said.{said}
use Rattle.measures.specs.declared.Measures.{Measures}
use Rattle.glyph.specs.Answer.{in_numbers}

module _ (font : List ℕ) (b : Bytes font) (at : ℕ) (x : Outline) (t : Drawable font at x) (p : Packet) (rest : List ℕ) (e : step (drop at font) ≡ ok (piece (packet p) rest)) where
  -- It is the packet that stands there,
  outlined : x ≡ outline_of p (length font - length rest)
  outlined = let z = sym t.stands.here ∙ e in let i : t.stands.packet ≡ p = cc in let k : t.stands.rest ≡ rest = cc in t.stands.outline ∙ rw (i, k) refl

  abbrev here : StandsAt font at x
  here = record { packet = p; rest = rest; here = e; outline = outlined }

  raster_is : raster_of font x ≡ p.raster
  raster_is = stands_raster font b at x here

  -- of w × h pixels,
  size_is : x.w * x.h ≡ p.w * p.h
  size_is = ap (λ (o : Outline). o.w * o.h) outlined

  -- which are the raster's.
  pixels_are : raster_pixels x.f x.black x.w x.h (raster_of font x) ≡ pixels_of p
  unfolding pixels_of
  pixels_are =
      ap (raster_pixels x.f x.black x.w x.h) raster_is
      ∙ ap (λ (o : Outline). raster_pixels o.f o.black o.w o.h p.raster) outlined

  pixels_size : length (pixels_of p) ≡ p.w * p.h
  unfolding pixels_of
  pixels_size =
      let i = stands_is font b at x here in
      let k = raster_bytes p rest (subst Bytes i.whole (bytes_drop at font b)) in
      let q = ap (items x.f x.w x.h) (sym raster_is) ∙ t.whole.1 in
      let w = ap (λ (o : Outline). items o.f o.w o.h p.raster) (sym outlined) ∙ q in
      draws_size p.f p.black p.w p.h p.raster (raster_pixels p.f p.black p.w p.h p.raster)
      (pixels_draw p.f p.black p.w p.h p.raster t.whole.0 i.ok.f i.ok.limits k w)

  module _ (buffer : List ℕ) where
    short : length buffer < x.w * x.h → drawn (length buffer) p ≡ fault no_room
    unfolding drawn need ◌>>=◌
    short l = rw (lt-leb (p.w * p.h) (length buffer) (omega (arith, size_is))) refl

    fitting : x.w * x.h ≤ length buffer → drawn (length buffer) p ≡ ok (measures p, pixels_of p)
    unfolding drawn need ◌>>=◌
    fitting l = rw (le-leb (p.w * p.h) (length buffer) (omega (arith, size_is))) refl

    -- The buffer is too short.
    pub no_room_lem : length buffer < x.w * x.h → in_numbers (Err (refused_at no_room 0)) ≡ told (answers (λ a. a.0) (answer_at 0 (drawn (length buffer) p)))
    unfolding numbers told answers answer_at
    no_room_lem l = rw (short l) refl

    pub untouched : length buffer < x.w * x.h → buffer ≡ lent (λ a. a.1) (answer_at 0 (drawn (length buffer) p)) buffer
    unfolding lent answer_at
    untouched l = rw (short l) refl

    -- The measures, and the pixels.
    pub measured : (m : Measures) → x.w * x.h ≤ length buffer → said m ≡ measures p → in_numbers (Ok m) ≡ told (answers (λ a. a.0) (answer_at 0 (drawn (length buffer) p)))
    unfolding numbers told answers answer_at
    measured m l q = rw (fitting l) (ap says q)

    pub drawn_in : (after : List ℕ) → x.w * x.h ≤ length buffer → after ≡ raster_pixels x.f x.black x.w x.h (raster_of font x) ++ drop (x.w * x.h) buffer
        → after ≡ lent (λ a. a.1) (answer_at 0 (drawn (length buffer) p)) buffer
    unfolding lent answer_at
    drawn_in after l q = q ∙ sym (rw (fitting l, pixels_size, ← size_is, ← pixels_are) refl)
