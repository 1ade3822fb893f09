-- What packing chooses (01, What packing chooses): the raster with its f and black bit, and the form.
-- Assumes nothing: these are definitions.
use Rattle.std.specs.Prelude.{ℕ, zero, suc, ◌+◌, ◌*◌, ◌/◌, ◌≤◌, ◌<◌, ◌≡◌, List, [], ◌∷◌, Bool, true, false, cond, ◌&&◌, eqb, leb, ltb, nat_abs, length, drop, get_or}
use Rattle.format.specs.Refusals.{no_form, Result, ok, fault}
use Rattle.format.specs.Measures.{whole_pixels, same_scaled, Measures}
use Rattle.format.specs.Pieces.{Form, short, extended, long, Escapement, Packet, fits, measures}
use Rattle.format.specs.Rasters.{Item, writings, bytes_of_bits}

-- f.

-- The nybbles over a count list, for f.
unfoldable pub nybble_count : List Item → ℕ → ℕ
nybble_count is f = length (writings f is)

-- Of 0 to k the place where g is least; of equal ones, the largest.
unfoldable pub least_of : (ℕ → ℕ) → ℕ → ℕ
least_of g zero = 0
least_of g (suc k) = let b = least_of g k in cond (leb (g (suc k)) (g b)) (suc k) b

-- b is the place from 0 to k where g is least, the largest of equal ones.
pub record Least (g : ℕ → ℕ) (k b : ℕ) : Type 0 where
  pub inside : b ≤ k
  pub least : (i : ℕ) → i ≤ k → g b ≤ g i
  pub largest : (i : ℕ) → b < i → i ≤ k → g b < g i

-- Of f = 0 to 13 the one with fewest nybbles; of equal ones, the largest.
unfoldable pub fewest : List Item → ℕ
fewest is = least_of (nybble_count is) 13

-- f = 14 if its bytes are strictly fewer, and always for w = h = 0.
unfoldable pub chosen : ℕ → ℕ → List Item → ℕ
chosen w h is =
    cond (eqb w 0) 14
    (cond (ltb (bytes_of_bits (w * h)) ((nybble_count is (fewest is) + 1) / 2)) 14 (fewest is))

-- The raster.

-- The bytes of nybbles, high half first, a spare half zero.
unfoldable pub halves : List ℕ → List ℕ
halves [] = []
halves (a ∷ []) = (a * 16) ∷ []
halves (a ∷ b ∷ xs) = (a * 16 + b) ∷ halves xs

-- The byte of the next k pixels after those that came to v, most significant first; pixels that are missing are zero bits.
unfoldable pub byte_of : ℕ → ℕ → List ℕ → ℕ
byte_of v zero xs = v
byte_of v (suc k) [] = byte_of (2 * v) k []
byte_of v (suc k) (x ∷ xs) = byte_of (2 * v + x) k xs

-- The n bytes of pixels, eight to each.
unfoldable pub bit_bytes : ℕ → List ℕ → List ℕ
bit_bytes zero xs = []
bit_bytes (suc n) xs = byte_of 0 8 xs ∷ bit_bytes n (drop 8 xs)

-- The raster bytes for f, of a bitmap b with the count list is.
unfoldable pub raster_of : ℕ → List Item → List ℕ → List ℕ
raster_of f is b = cond (eqb f 14) (bit_bytes (bytes_of_bits (length b)) b) (halves (writings f is))

-- The first run's colour; for f = 14 the black bit is 0.
unfoldable pub first_black : ℕ → List ℕ → Bool
first_black f b = cond (eqb f 14) false (eqb (get_or b 0 0) 1)

-- The form.

-- The escapement as the form k would say it.
abbrev pub escapement_in : (k : Form) → Measures → Escapement k
escapement_in short m = whole_pixels m.dx
escapement_in extended m = whole_pixels m.dx
escapement_in long m = (m.dx, m.dy)

-- The packet with these measures and this raster in the form k.
unfoldable pub in_form : ℕ → Bool → Measures → List ℕ → Form → Packet
in_form f black m raster k =
    record {
      f = f;
      black = black;
      form = k;
      code = nat_abs m.code;
      tfm = m.tfm;
      escapement = escapement_in k m;
      w = nat_abs m.w;
      h = nat_abs m.h;
      hoff = m.hoff;
      voff = m.voff;
      raster = raster;
    }

-- The packet says that escapement, and its form holds every field and the length.
unfoldable pub holds : Measures → Packet → Bool
holds m p = (same_scaled (measures p).dx m.dx && same_scaled (measures p).dy m.dy) && fits p

-- The first of short, extended, long whose packet does; 20 if none does.
unfoldable pub first_form : Measures → (Form → Packet) → Result Packet
first_form m p =
    cond (holds m (p short)) (ok (p short))
    (cond (holds m (p extended)) (ok (p extended)) (cond (holds m (p long)) (ok (p long)) (fault no_form)))

-- Short, extended, long.
abbrev pub order : Form → ℕ
order short = 0
order extended = 1
order long = 2

-- k is the first form whose packet holds.
pub record FirstHeld (m : Measures) (p : Form → Packet) (k : Form) : Type 0 where
  pub held : holds m (p k) ≡ true
  pub earlier : (j : Form) → order j < order k → holds m (p j) ≡ false
