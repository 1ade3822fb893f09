-- The cut of a font's bytes into pieces (01, Pieces of a file; the letter's third demand). No reader is mentioned.
-- Assumes nothing: these are definitions.
use Rattle.std.specs.Prelude.{ℕ, ◌%◌, ◌≤◌, ◌<◌, ◌≡◌, List, [], ◌∷◌, ◌++◌, false, length, replicate}
use Rattle.format.specs.Limits.{most}
use Rattle.format.specs.Lists.{elem}
use Rattle.format.specs.Numbers.{Bytes}
use Rattle.format.specs.Pieces.{Preamble, preamble_bytes, PreambleOk, Packet, Piece, special, numeric, noop, packet, bytes_of, PieceOk}
use Rattle.format.specs.Rasters.{Draws}

-- The pieces' bytes, joined.
unfoldable pub flat : List Piece → List ℕ
flat [] = []
flat (p ∷ ps) = bytes_of p ++ flat ps

-- Each piece is one that 01 allows.
abbrev pub AllOk : List Piece → Type 0
AllOk [] = Unit {0}
AllOk (p ∷ ps) = PieceOk p × AllOk ps

-- The packets, in file order.
unfoldable pub packets : List Piece → List Packet
packets [] = []
packets (special k xs ∷ ps) = packets ps
packets (numeric xs ∷ ps) = packets ps
packets (noop ∷ ps) = packets ps
packets (packet p ∷ ps) = p ∷ packets ps

-- The raster of each fills its width times height pixels to the last one.
abbrev pub AllFilled : List Packet → Type 0
AllFilled [] = Unit {0}
AllFilled (p ∷ ps) = ((drawn : List ℕ) × Draws p.f p.black p.w p.h p.raster drawn) × AllFilled ps

-- Their codes.
unfoldable pub codes : List Packet → List ℕ
codes [] = []
codes (p ∷ ps) = p.code ∷ codes ps

-- None stands twice.
abbrev pub Distinct : List ℕ → Type 0
Distinct [] = Unit {0}
Distinct (c ∷ cs) = (elem c cs ≡ false) × Distinct cs

-- What a font is cut into: a preamble, pieces, and an ending with `pad` bytes 246.
pub record Parts : Type 0 where
  pub preamble : Preamble
  pub pieces : List Piece
  pub pad : ℕ

-- The number of characters of a font: that of its packets.
abbrev pub chars : Parts → ℕ
chars x = length (packets x.pieces)

-- The bytes are, joined, a preamble, pieces, and the ending: 245, then only 246, any number.
unfoldable pub join : Parts → List ℕ
join x = preamble_bytes x.preamble ++ (flat x.pieces ++ 245 ∷ replicate x.pad 246)

-- The bytes s, at most 65,536 and a multiple of four, are those of parts that 01 allows: each raster filled, no code twice, at least
-- one packet (the letter's third demand).
pub record Cut (s : List ℕ) (x : Parts) : Type 0 where
  pub bytes : Bytes s
  pub whole : s ≡ join x
  pub small : length s ≤ most
  pub four : length s % 4 ≡ 0
  pub preamble : PreambleOk x.preamble
  pub pieces : AllOk x.pieces
  pub filled : AllFilled (packets x.pieces)
  pub distinct : Distinct (codes (packets x.pieces))
  pub any : 0 < length (packets x.pieces)
