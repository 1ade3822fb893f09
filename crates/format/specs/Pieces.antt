-- The pieces of a file as the bytes that they are (01, Pieces of a file; Flags and the three forms). No reader is mentioned.
-- Assumes nothing: these are definitions.
use Rattle.std.specs.Prelude.{ℕ, ◌+◌, ◌*◌, ◌/◌, ◌%◌, ◌≤◌, ◌<◌, ◌≡◌, List, [], ◌∷◌, ◌++◌, Bool, true, false, cond, ◌&&◌, eqb, ltb, ℤ, pos, length}
use Rattle.format.specs.Limits.{in_limits, is_code}
use Rattle.format.specs.Numbers.{bytes, Kind, unsigned, signed, held, Values, all_held, field_bytes}
use Rattle.format.specs.Measures.{Pixels, pixels, Scaled, scaled, to_scaled, Measures}

-- Preamble.

-- A comment and four numbers.
pub record Preamble : Type 0 where
  pub comment : List ℕ
  pub ds : ℤ
  pub cs : ℤ
  pub hppp : ℤ
  pub vppp : ℤ

-- ds, cs, hppp, vppp of four bytes each
abbrev pub preamble_kinds : List Kind
preamble_kinds = signed 4 ∷ signed 4 ∷ signed 4 ∷ signed 4 ∷ []

-- Their values.
abbrev pub preamble_values : Preamble → Values preamble_kinds
preamble_values a = (a.ds, (a.cs, (a.hppp, (a.vppp, tt))))

-- 247, 89, k in one byte, k comment bytes, then the four numbers.
unfoldable pub preamble_bytes : Preamble → List ℕ
preamble_bytes a = 247 ∷ 89 ∷ length a.comment ∷ (a.comment ++ field_bytes preamble_kinds (preamble_values a))

-- Its comment's length is a byte, and its fields hold their values.
pub record PreambleOk (a : Preamble) : Type 0 where
  pub comment : length a.comment < 256
  pub fields : all_held preamble_kinds (preamble_values a) ≡ true

-- The three forms.

-- flag mod 8 picks the form.
pub data Form : Type 0 where
  short : Form
  extended : Form
  long : Form

-- What a form says of the escapement: dm in whole pixels, or dx and dy in pixels times 65,536.
abbrev pub Escapement : Form → Type 0
Escapement short = Pixels
Escapement extended = Pixels
Escapement long = Scaled × Scaled

-- length, code, tfm, dm, w, h, hoff, voff; in the long form dx, dy for dm.
abbrev pub kinds : Form → List Kind
kinds short =
    unsigned 1 ∷ unsigned 1 ∷ unsigned 3 ∷ unsigned 1 ∷ unsigned 1 ∷ unsigned 1 ∷ signed 1 ∷ signed 1 ∷ []
kinds extended =
    unsigned 2 ∷ unsigned 1 ∷ unsigned 3 ∷ unsigned 2 ∷ unsigned 2 ∷ unsigned 2 ∷ signed 2 ∷ signed 2 ∷ []
kinds long =
    signed 4 ∷ signed 4 ∷ signed 4 ∷ signed 4 ∷ signed 4 ∷ signed 4 ∷ signed 4 ∷ signed 4 ∷ signed 4 ∷ []

-- The fixed bytes that the packet length counts, from the first tfm byte on.
abbrev pub fixed : Form → ℕ
fixed short = 8
fixed extended = 13
fixed long = 28

-- flag mod 8 for a packet length n: 0 to 3 short, 4 to 6 extended, 7 long, with the upper part of n in flag mod 4.
abbrev pub form_bits : Form → ℕ → ℕ
form_bits short n = n / 256
form_bits extended n = 4 + n / 65536
form_bits long n = 7

-- The part of a packet length that stands in its field.
abbrev pub length_field : Form → ℕ → ℕ
length_field short n = n % 256
length_field extended n = n % 65536
length_field long n = n

-- The packet lengths of a form are below this.
abbrev pub length_top : Form → ℕ
length_top short = 4 * 256
length_top extended = 3 * 65536
length_top long = 2147483648

-- Packets.

-- What a packet says: f, the black bit, the form, the fixed fields, and the raster bytes.
pub record Packet : Type 0 where
  pub f : ℕ
  pub black : Bool
  pub form : Form
  pub code : ℕ
  pub tfm : ℤ
  pub escapement : Escapement form
  pub w : ℕ
  pub h : ℕ
  pub hoff : ℤ
  pub voff : ℤ
  pub raster : List ℕ

-- The packet length counts from the first tfm byte.
abbrev pub packet_length : Packet → ℕ
packet_length p = fixed p.form + length p.raster

-- The values of the fields after the flag, for a packet length n.
abbrev pub values : (k : Form) → Escapement k → Packet → ℕ → Values (kinds k)
values short (pixels dm) p n =
    (pos (length_field short n), (pos p.code, (p.tfm, (pos dm, (pos p.w, (pos p.h, (p.hoff, (p.voff, tt))))))))
values extended (pixels dm) p n =
    (pos (length_field extended n), (pos p.code, (p.tfm, (pos dm, (pos p.w, (pos p.h, (p.hoff, (p.voff, tt))))))))
values long (scaled dx, scaled dy) p n =
    (pos (length_field long n), (pos p.code, (p.tfm, (dx, (dy, (pos p.w, (pos p.h, (p.hoff, (p.voff, tt)))))))))

-- The values of its own fields.
abbrev pub fields : (p : Packet) → Values (kinds p.form)
fields p = values p.form p.escapement p (packet_length p)

-- The bit worth 8 says that the first run is black; it has no meaning when f is 14.
abbrev pub black_bit : Bool → ℕ
black_bit true = 8
black_bit false = 0

-- f is flag div 16, then the bit worth 8, then flag mod 8.
unfoldable pub flag : Packet → ℕ
flag p = 16 * p.f + black_bit p.black + form_bits p.form (packet_length p)

-- Its form holds the length and every field.
unfoldable pub fits : Packet → Bool
fits p = ltb (packet_length p) (length_top p.form) && all_held (kinds p.form) (fields p)

-- f is from 0 to 14, the form holds all, and w, h and the code are within 01's limits.
pub record PacketOk (p : Packet) : Type 0 where
  pub f : p.f ≤ 14
  pub fits : fits p ≡ true
  pub limits : in_limits p.w p.h ≡ true
  pub code : is_code (pos p.code) ≡ true

-- dx is dm × 65,536 in the first two forms.
abbrev pub dx_of : (k : Form) → Escapement k → Scaled
dx_of short dm = to_scaled dm
dx_of extended dm = to_scaled dm
dx_of long e = e.0

-- dy is 0 in the first two forms.
abbrev pub dy_of : (k : Form) → Escapement k → Scaled
dy_of short dm = to_scaled (pixels 0)
dy_of extended dm = to_scaled (pixels 0)
dy_of long e = e.1

-- What a packet says of its character.
unfoldable pub measures : Packet → Measures
measures p =
    record {
      code = pos p.code;
      w = pos p.w;
      h = pos p.h;
      tfm = p.tfm;
      dx = dx_of p.form p.escapement;
      dy = dy_of p.form p.escapement;
      hoff = p.hoff;
      voff = p.voff;
    }

-- Pieces.

pub data Piece : Type 0 where
  -- 240 to 243: a length in k = 1 to 4 bytes, then that many bytes
  special : ℕ → List ℕ → Piece
  -- 244: four bytes
  numeric : List ℕ → Piece
  -- 246: nothing
  noop : Piece
  -- a byte of 0 to 239 is a flag and begins a packet
  packet : Packet → Piece

-- A command's length in k bytes; four-byte numbers are signed.
abbrev pub length_kind : ℕ → Kind
length_kind k = cond (eqb k 4) (signed k) (unsigned k)

-- A piece's bytes.
unfoldable pub bytes_of : Piece → List ℕ
bytes_of (special k xs) = (239 + k) ∷ (bytes k (length xs) ++ xs)
bytes_of (numeric xs) = 244 ∷ xs
bytes_of noop = 246 ∷ []
bytes_of (packet p) = flag p ∷ (field_bytes (kinds p.form) (fields p) ++ p.raster)

-- A length n in 1 to 4 bytes that hold it.
pub record SpecialOk (k n : ℕ) : Type 0 where
  pub least : 1 ≤ k
  pub most : k ≤ 4
  pub held : held (length_kind k) (pos n) ≡ true

-- A piece that 01 allows.
abbrev pub PieceOk : Piece → Type 0
PieceOk (special k xs) = SpecialOk k (length xs)
PieceOk (numeric xs) = length xs ≡ 4
PieceOk noop = Unit {0}
PieceOk (packet p) = PacketOk p
