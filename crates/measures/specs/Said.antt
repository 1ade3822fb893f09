-- What the functions of this crate answer, as the definitions say it. Assumes nothing: these are definitions.
use Rattle.std.specs.Prelude.{ℕ, ◌≤◌, ◌<◌, ◌≡◌, List, pos, drop}
use Rattle.format.specs.Refusals.{ok}
use Rattle.format.specs.Measures as F
use Rattle.format.specs.Pieces.{Form, kinds, Packet, packet, dx_of, dy_of, measures}
use Rattle.format.specs.Decoding.{read_fields}
use Rattle.format.specs.Verdict.{piece, Header, header, step}
use Rattle.escapement.specs.Count.{scaled_of}
use Rattle.packet.specs.declared.Outline.{Outline}
use Rattle.measures.specs.declared.Measures.{Measures}

-- The code's measures as the definitions'.
abbrev pub said : Measures → F.Measures
said m =
    record {
      code = m.code;
      w = m.w;
      h = m.h;
      tfm = m.tfm;
      dx = scaled_of m.dx;
      dy = scaled_of m.dy;
      hoff = m.hoff;
      voff = m.voff;
    }

-- What an outline and a header say together.
abbrev pub said_of : Outline → Header → F.Measures
said_of x t =
    record {
      code = pos x.code;
      w = pos x.w;
      h = pos x.h;
      tfm = t.tfm;
      dx = dx_of t.form t.escapement;
      dy = dy_of t.form t.escapement;
      hoff = t.hoff;
      voff = t.voff;
    }

-- The same with the fields of a form that stand in the first bytes. A header's length, which depends on the flag, is not among them.
unfoldable pub said_by : Form → Outline → List ℕ → F.Measures
said_by k x s = said_of x (header k 0 (read_fields (kinds k) s))

-- Code, width and height of an outline are small, each by itself.
pub record Small (x : Outline) : Type 0 where
  pub code : x.code < 256
  pub wide : x.w ≤ 65536
  pub high : x.h ≤ 65536

-- The measures of the packet at a place of the font.
abbrev pub IsSaid : List ℕ → ℕ → Measures → Type 0
IsSaid font at r = (p : Packet) (rest : List ℕ) → step (drop at font) ≡ ok (piece (packet p) rest) → said r ≡ measures p
