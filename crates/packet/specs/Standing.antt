-- A packet that stands in a font. Assumes nothing: these are definitions.
use Rattle.std.specs.Prelude.{ℕ, ◌-◌, ◌≤◌, ◌<◌, ◌≡◌, true, List, length, take, drop}
use Rattle.format.specs.Limits.{in_limits}
use Rattle.format.specs.Refusals.{ok}
use Rattle.format.specs.Pieces as F
use Rattle.format.specs.Reading.{ReadWhole}
use Rattle.format.specs.Verdict.{piece, step}
use Rattle.packet.specs.Outlines.{outline_of}
use Rattle.packet.specs.declared.Outline.{Outline}

-- The packet of an outline stands at a place of the font.
pub record StandsAt (font : List ℕ) (at : ℕ) (x : Outline) : Type 0 where
  pub packet : F.Packet
  pub rest : List ℕ
  pub here : step (drop at font) ≡ ok (piece (F.packet packet) rest)
  pub outline : x ≡ outline_of packet (length font - length rest)

-- What is known of its outline.
pub record InFont (font : List ℕ) (x : Outline) : Type 0 where
  pub f : x.f ≤ 14
  pub code : x.code < 256
  pub limits : in_limits x.w x.h ≡ true
  pub begin : x.raster ≤ x.end
  pub end : x.end ≤ length font

-- Its raster bytes.
abbrev pub raster_of : List ℕ → Outline → List ℕ
raster_of font x = take (x.end - x.raster) (drop x.raster font)

-- It stands there, and its raster is read whole.
pub record Drawable (font : List ℕ) (at : ℕ) (x : Outline) : Type 0 where
  pub stands : StandsAt font at x
  pub whole : ReadWhole x.f x.w x.h (raster_of font x)
