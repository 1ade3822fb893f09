-- The verdict on any list of bytes (01, Numbers given back): the font's parts, or the first fault met, in 01's order of checks.
-- Assumes nothing: these are definitions.
use Rattle.std.specs.Prelude.{ℕ, zero, suc, ◌+◌, ◌-◌, ◌*◌, ◌/◌, ◌%◌, List, [], ◌∷◌, ◌++◌, Bool, true, false, cond, not, ◌&&◌, ltb, leb, eqb, ℤ, pos, negsuc, nat_abs, length, take, drop}
use Rattle.format.specs.Limits.{most, within_limits, is_code}
use Rattle.format.specs.Lists.{all, elem}
use Rattle.format.specs.Refusals.{too_long, no_preamble, wrong_id, file_ends, no_piece, bad_length, outside_limits, bad_code, code_twice, bad_ending, no_packet, Answer, gives, refused, answers, Result, ok, fault, ◌>>=◌, need}
use Rattle.format.specs.Numbers.{Values, size}
use Rattle.format.specs.Decoding.{number, value_of, read_fields}
use Rattle.format.specs.Measures.{pixels, scaled}
use Rattle.format.specs.Pieces.{Preamble, preamble_kinds, Form, short, extended, long, Escapement, kinds, fixed, Packet, Piece, special, numeric, noop, packet, length_kind, bytes_of}
use Rattle.format.specs.Rasters.{Item}
use Rattle.format.specs.Cut.{packets, codes, Parts, chars}
use Rattle.format.specs.Reading.{items}

-- What stands at the front of bytes: a piece and the rest, or 245 and the rest.
pub data Front : Type 0 where
  piece : Piece → List ℕ → Front
  last : List ℕ → Front

-- z is at least m.
unfoldable pub at_least : ℕ → ℤ → Bool
at_least m (pos n) = leb m n
at_least m (negsuc n) = false

-- A packet.

-- flag mod 8 picks the form: 0 to 3 short, 4 to 6 extended, 7 long.
unfoldable pub form_of : ℕ → Form
form_of b = cond (ltb (b % 8) 4) short (cond (ltb (b % 8) 7) extended long)

-- What the fixed fields of a packet say, before they are judged.
pub record Header : Type 0 where
  pub length : ℤ
  pub code : ℤ
  pub tfm : ℤ
  pub form : Form
  pub escapement : Escapement form
  pub w : ℤ
  pub h : ℤ
  pub hoff : ℤ
  pub voff : ℤ

-- The length is (flag mod 4) × 256 plus its byte, (flag mod 4) × 65,536 plus its field, or its field.
abbrev pub header : (k : Form) → ℕ → Values (kinds k) → Header
header short b (n, (c, (t, (dm, (w, (h, (x, (y, u)))))))) =
    record { length = pos (b % 4 * 256 + nat_abs n); code = c; tfm = t; form = short; escapement = pixels (nat_abs dm); w = w; h = h; hoff = x; voff = y }
header extended b (n, (c, (t, (dm, (w, (h, (x, (y, u)))))))) =
    record { length = pos (b % 4 * 65536 + nat_abs n); code = c; tfm = t; form = extended; escapement = pixels (nat_abs dm); w = w; h = h; hoff = x; voff = y }
header long b (n, (c, (t, (dx, (dy, (w, (h, (x, (y, u))))))))) =
    record { length = n; code = c; tfm = t; form = long; escapement = (scaled dx, scaled dy); w = w; h = h; hoff = x; voff = y }

-- The packet of a flag, a header and raster bytes.
abbrev pub packet_of : ℕ → Header → List ℕ → Packet
packet_of b x raster =
    record {
      f = b / 16;
      black = eqb (b / 8 % 2) 1;
      form = x.form;
      code = nat_abs x.code;
      tfm = x.tfm;
      escapement = x.escapement;
      w = nat_abs x.w;
      h = nat_abs x.h;
      hoff = x.hoff;
      voff = x.voff;
      raster = raster;
    }

-- n raster bytes and the rest, behind the fixed part: packet inside the file (4), then 7, 8.
unfoldable pub raster_at : ℕ → Header → ℕ → List ℕ → Result Front
raster_at b x n s = do
  _ ← need (leb n (length s)) file_ends
  _ ← need (within_limits x.w x.h) outside_limits
  _ ← need (is_code x.code) bad_code
  ok (piece (packet (packet_of b x (take n s))) (drop n s))

-- The packet behind a flag b: fixed part whole (4), length (6), and its raster.
unfoldable pub packet_at : ℕ → Form → Header → List ℕ → Result Front
packet_at b k x s = do
  _ ← need (leb (size (kinds k)) (length s)) file_ends
  _ ← need (at_least (fixed k) x.length) bad_length
  raster_at b x (nat_abs x.length - fixed k) (drop (size (kinds k)) s)

-- A command.

-- 240 to 243, behind that byte, where the k bytes of its length say z: length field whole (4), length not negative (6), body whole (4).
unfoldable pub special_at : ℕ → ℤ → List ℕ → Result Front
special_at k z s = do
  _ ← need (leb k (length s)) file_ends
  _ ← need (at_least 0 z) bad_length
  _ ← need (leb (nat_abs z) (length (drop k s))) file_ends
  ok (piece (special k (take (nat_abs z) (drop k s))) (drop (nat_abs z) (drop k s)))

-- 244: four bytes whole (4).
unfoldable pub numeric_at : List ℕ → Result Front
numeric_at s = do
  _ ← need (leb 4 (length s)) file_ends
  ok (piece (numeric (take 4 s)) (drop 4 s))

-- A piece.

-- 4 where the file ends and a piece must begin, and 5 for 247 to 255.
unfoldable pub step : List ℕ → Result Front
step [] = fault file_ends
step (b ∷ s) =
    cond (ltb b 240) (packet_at b (form_of b) (header (form_of b) b (read_fields (kinds (form_of b)) s)) s)
    (cond (ltb b 244) (special_at (b - 239) (value_of (length_kind (b - 239)) (number (b - 239) s)) s)
    (cond (eqb b 244) (numeric_at s)
    (cond (eqb b 245) (ok (last s)) (cond (eqb b 246) (ok (piece noop s)) (fault no_piece)))))

-- The packet of a piece, which has at most one, behind others with the codes seen: 9, then the raster's faults.
unfoldable pub checked : List ℕ → List Packet → Result (List Item)
checked seen [] = ok []
checked seen (p ∷ ps) = do
  _ ← need (not (elem p.code seen)) code_twice
  items p.f p.w p.h p.raster

-- A font.

-- A fault at a place, or else x.
unfoldable pub or_else : {A : Type 0} → ℕ → Result A → Answer Parts → Answer Parts
or_else place (ok a) x = x
or_else place (fault r) x = refused r place

-- A piece in front of the others.
unfoldable pub prepend : Piece → Parts → Parts
prepend p x = record { preamble = x.preamble; pieces = p ∷ x.pieces; pad = x.pad }

-- No code was seen.
unfoldable pub is_nil : List ℕ → Bool
is_nil [] = true
is_nil (x ∷ xs) = false

-- At the 245, with r behind it: 15 before 14.
unfoldable pub ending : Preamble → ℕ → List ℕ → List ℕ → Answer Parts
ending a place seen r =
    cond (is_nil seen) (refused no_packet place)
    (cond (all 246 r && eqb ((place + 1 + length r) % 4) 0) (gives (record { preamble = a; pieces = []; pad = length r })) (refused bad_ending place))

-- What stands at a place, and `go` for what follows a piece.
unfoldable pub next : Preamble → (ℕ → List ℕ → List ℕ → Answer Parts) → ℕ → List ℕ → Result Front → Answer Parts
next a go place seen (ok (piece p r)) =
    or_else place (checked seen (packets (p ∷ [])))
    (answers (prepend p) (go (place + length (bytes_of p)) (codes (packets (p ∷ [])) ++ seen) r))
next a go place seen (ok (last r)) = ending a place seen r
next a go place seen (fault x) = refused x place

-- The pieces from s on, which stands at a place, behind packets with the codes seen. g bounds the depth.
unfoldable pub onward_f : Preamble → ℕ → ℕ → List ℕ → List ℕ → Answer Parts
onward_f a zero place seen s = refused file_ends place
onward_f a (suc g) place seen s = next a (onward_f a g) place seen (step s)

-- The same, with a bound that is enough.
unfoldable pub onward : Preamble → ℕ → List ℕ → List ℕ → Answer Parts
onward a place seen s = onward_f a (suc (length s)) place seen s

-- The preamble of a comment and its four numbers.
abbrev pub preamble_of : List ℕ → Values preamble_kinds → Preamble
preamble_of xs (d, (c, (x, (y, u)))) = record { comment = xs; ds = d; cs = c; hppp = x; vppp = y }

-- Behind 247 and 89.
unfoldable pub preamble_at : List ℕ → Answer Parts
preamble_at [] = refused file_ends 0
preamble_at (k ∷ s) =
    cond (ltb (length s) (k + 16)) (refused file_ends 0)
    (onward (preamble_of (take k s) (read_fields preamble_kinds (drop k s))) (k + 19) [] (drop (k + 16) s))

-- 2, then 3.
unfoldable pub begin : List ℕ → Answer Parts
begin [] = refused no_preamble 0
begin (a ∷ []) = cond (eqb a 247) (refused file_ends 0) (refused no_preamble 0)
begin (a ∷ b ∷ s) = cond (eqb a 247) (cond (eqb b 89) (preamble_at s) (refused wrong_id 0)) (refused no_preamble 0)

-- 1 comes first.
unfoldable pub verdict : List ℕ → Answer Parts
verdict s = cond (ltb most (length s)) (refused too_long 0) (begin s)

-- A checked font answers with its number of characters.
unfoldable pub check : List ℕ → Answer ℕ
check s = answers chars (verdict s)
