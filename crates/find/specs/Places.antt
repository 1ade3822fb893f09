-- What the finder answers, read off a font's cut. Assumes nothing: these are definitions.
use Rattle.std.specs.Prelude.{ℕ, ◌+◌, ◌≡◌, cond, Some, None, List, [], ◌∷◌, eqb, length}
use Rattle.std.specs.declared.option.Option.{Option}
use Rattle.format.specs.Pieces as F
use Rattle.format.specs.Pieces.{preamble_bytes, bytes_of}
use Rattle.format.specs.Cut.{packets, Parts, Cut}
use Rattle.packet.specs.Outlines.{outline_of}
use Rattle.packet.specs.declared.Outline.{Outline}

-- The font has a cut.
abbrev pub Accepted : List ℕ → Type 0
Accepted s = (x : Parts) × Cut s x

-- The place behind the preamble.
abbrev pub IsFirst : List ℕ → ℕ → Type 0
IsFirst s r = (x : Parts) → Cut s x → r ≡ length (preamble_bytes x.preamble)

-- The place of a packet's flag and its outline; or that no packet has the code.
abbrev pub Found : Type 0
Found = Option (ℕ × Outline)

-- The packet of a code among the packets of one piece, which stands from a place up to another; or else r.
unfoldable pub found_among : ℕ → ℕ → ℕ → List F.Packet → Found → Found
found_among code at end [] r = r
found_among code at end (p ∷ ps) r = cond (eqb code p.code) (Some (at, outline_of p end)) r

-- The packet of a code in pieces that stand from a place on.
unfoldable pub found_in : ℕ → ℕ → List F.Piece → Found
found_in code at [] = None
found_in code at (p ∷ ps) =
    let end = at + length (bytes_of p) in
    found_among code at end (packets (p ∷ [])) (found_in code end ps)

-- What is found in a font, by its cut.
abbrev pub IsFound : List ℕ → ℕ → Found → Type 0
IsFound s code r = (x : Parts) → Cut s x → r ≡ found_in code (length (preamble_bytes x.preamble)) x.pieces
