-- What is listed of a font (01, its listing program), read off its cut; the verdict stands in `heading_answer` alone.
-- Assumes nothing: these are definitions.
use Rattle.std.specs.Prelude.{ℕ, ◌+◌, List, [], ◌∷◌, Bool, ℤ, length}
use Rattle.format.specs.Refusals.{Answer, answers}
use Rattle.format.specs.Measures.{Measures}
use Rattle.format.specs.Pieces.{preamble_bytes, Form, Packet, Piece, special, numeric, noop, packet, measures, bytes_of}
use Rattle.format.specs.Cut.{Parts, chars}
use Rattle.format.specs.Verdict.{verdict}

-- The first six lines: the file's length, the preamble's numbers, the number of packets.
pub record Heading : Type 0 where
  pub bytes : ℕ
  pub ds : ℤ
  pub cs : ℤ
  pub hppp : ℤ
  pub vppp : ℤ
  pub chars : ℕ

-- Those of the bytes s, cut into parts.
abbrev pub heading_of : List ℕ → Parts → Heading
heading_of s x =
    record {
      bytes = length s;
      ds = x.preamble.ds;
      cs = x.preamble.cs;
      hppp = x.preamble.hppp;
      vppp = x.preamble.vppp;
      chars = chars x;
    }

-- The twelve lines of a packet: the place of its flag, its form, f and black bit, and its measures, the code among them.
pub record Entry : Type 0 where
  pub at : ℕ
  pub form : Form
  pub f : ℕ
  pub black : Bool
  pub measures : Measures

-- Those of a packet whose flag stands at a place.
abbrev pub entry_of : ℕ → Packet → Entry
entry_of at p = record { at = at; form = p.form; f = p.f; black = p.black; measures = measures p }

-- The entries of the packets among pieces that stand from a place on, in file order.
unfoldable pub entries : ℕ → List Piece → List Entry
entries at [] = []
entries at (special k xs ∷ ps) = entries (at + length (bytes_of (special k xs))) ps
entries at (numeric xs ∷ ps) = entries (at + length (bytes_of (numeric xs))) ps
entries at (noop ∷ ps) = entries (at + length (bytes_of noop)) ps
entries at (packet p ∷ ps) = entry_of at p ∷ entries (at + length (bytes_of (packet p))) ps

-- Those of parts: the first piece stands behind the preamble.
abbrev pub entries_of : Parts → List Entry
entries_of x = entries (length (preamble_bytes x.preamble)) x.pieces

-- The heading of a font, or its refusal.
unfoldable pub heading_answer : List ℕ → Answer Heading
heading_answer s = answers (heading_of s) (verdict s)
