-- What a cut says of a code (the letter's second and third demands): its packet, wherever it stands; its measures and pixels. No reader is mentioned.
-- Assumes nothing: these are definitions.
use Rattle.std.specs.Prelude.{ℕ, ◌*◌, ◌≤◌, ◌<◌, ◌≡◌, List, ◌∷◌, ◌++◌}
use Rattle.format.specs.Measures.{Measures}
use Rattle.format.specs.Pieces.{Packet, Piece, packet, measures}
use Rattle.format.specs.Rasters.{Draws}
use Rattle.format.specs.Cut.{Parts}

-- The packet p stands among the parts' pieces, and has the code.
pub record PacketOf (x : Parts) (code : ℕ) (p : Packet) : Type 0 where
  pub before : List Piece
  pub behind : List Piece
  pub stands : x.pieces ≡ before ++ packet p ∷ behind
  pub has : code ≡ p.code

-- No packet has the code.
abbrev pub NoPacketOf : Parts → ℕ → Type 0
NoPacketOf x code = (p : Packet) → PacketOf x code p → ⊥

-- The packet of the code says these measures, its raster draws these pixels, and the buffer has room for them.
pub record SaidOf (x : Parts) (code room : ℕ) (m : Measures) (pixels : List ℕ) : Type 0 where
  pub packet : Packet
  pub of : PacketOf x code packet
  pub measures_are : m ≡ measures packet
  pub draws : Draws packet.f packet.black packet.w packet.h packet.raster pixels
  pub fits : packet.w * packet.h ≤ room

-- The buffer is too short for the packet of the code.
pub record NoRoomFor (x : Parts) (code room : ℕ) : Type 0 where
  pub packet : Packet
  pub of : PacketOf x code packet
  pub over : room < packet.w * packet.h
