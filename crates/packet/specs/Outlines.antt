-- What the functions of this crate answer, in the terms of the verdict. Assumes nothing: these are definitions.
use Rattle.std.specs.Prelude.{ℕ, ◌+◌, ◌-◌, ◌/◌, ◌%◌, cond, Ok, Err, List, ltb, leb, eqb, length, drop}
use Rattle.format.specs.Limits.{in_limits}
use Rattle.std.specs.declared.result.Result.{Result}
use Rattle.format.specs.Refusals as R
use Rattle.format.specs.Refusals.{file_ends, bad_length, outside_limits, bad_code, ok, fault}
use Rattle.format.specs.Numbers.{twos}
use Rattle.format.specs.Pieces as F
use Rattle.format.specs.Pieces.{Form, short, extended, long, kinds}
use Rattle.format.specs.Decoding.{read_fields}
use Rattle.format.specs.Verdict.{Front, piece, last, Header, header, packet_at}
use Rattle.refusals.specs.Names.{coded}
use Rattle.refusals.specs.declared.Refusal.{Refusal}
use Rattle.packet.specs.declared.Form as D
use Rattle.packet.specs.declared.Form.TheVariants.{Short, Extended, Long}
use Rattle.packet.specs.declared.Outline.{Outline}
use Rattle.packet.specs.declared.Fields.{Fields}
use Rattle.packet.specs.declared.Piece.{Piece}
use Rattle.packet.specs.declared.Piece.TheVariants.{Packet, Command, Last}

-- The code's form as the definitions'.
abbrev pub form_is : D.Form → Form
form_is Short = short
form_is Extended = extended
form_is Long = long

-- A piece.

-- A packet that ends at a place, without its measures.
abbrev pub outline_of : F.Packet → ℕ → Outline
outline_of p end =
    record {
      f = p.f;
      black = p.black;
      code = p.code;
      w = p.w;
      h = p.h;
      raster = end - length p.raster;
      end = end;
    }

-- What stands at the front of bytes that reach to the end n of the file, with the place behind it.
unfoldable pub piece_of : ℕ → R.Result Front → Result Piece Refusal
piece_of n (ok (piece (F.special k xs) r)) = Ok (Command (n - length r))
piece_of n (ok (piece (F.numeric xs) r)) = Ok (Command (n - length r))
piece_of n (ok (piece F.noop r)) = Ok (Command (n - length r))
piece_of n (ok (piece (F.packet p) r)) = Ok (Packet (outline_of p (n - length r)))
piece_of n (ok (last r)) = Ok Last
piece_of n (fault x) = Err (coded x)

-- The packet of a form with the flag b, whose fields stand at a place of the font s.
unfoldable pub outlined : Form → ℕ → ℕ → List ℕ → Result Piece Refusal
outlined k b at s = piece_of (length s) (packet_at b k (header k b (read_fields (kinds k) (drop at s))) (drop at s))

-- Its fields.

-- Those of a header that are judged, as the numbers that four bytes are.
abbrev pub fields_of : Header → Fields
fields_of x = record { length = twos 4 x.length; code = twos 4 x.code; w = twos 4 x.w; h = twos 4 x.h }

-- Those that stand in the first bytes, behind the flag b.
unfoldable pub fields_at : Form → ℕ → List ℕ → Fields
fields_at k b s = fields_of (header k b (read_fields (kinds k) s))

-- The form whose fields have m bytes, for m of 1 and 2.
abbrev pub narrow_form : ℕ → Form
narrow_form m = cond (eqb m 1) short extended

-- The outline that fields make.
abbrev pub outline_as : ℕ → Fields → ℕ → ℕ → Outline
outline_as b x fixed place =
    record {
      f = b / 16;
      black = eqb (b / 8 % 2) 1;
      code = x.code;
      w = x.w;
      h = x.h;
      raster = place;
      end = place + (x.length - fixed);
    }

-- The checks 6, 4, 7, 8 on fields as the numbers that their bytes are, with `room` bytes from a place on.
unfoldable pub judged_as : ℕ → Fields → ℕ → ℕ → ℕ → Result Piece Refusal
judged_as b x fixed place room =
    cond (ltb x.length fixed) (Err (coded bad_length))
    (cond (leb 2147483648 x.length) (Err (coded bad_length))
    (cond (ltb room (x.length - fixed)) (Err (coded file_ends))
    (cond (in_limits x.w x.h) (cond (ltb x.code 256) (Ok (Packet (outline_as b x fixed place))) (Err (coded bad_code))) (Err (coded outside_limits)))))
