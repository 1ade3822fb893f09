-- Numbers read back: many-byte numbers and fields from bytes (01, Pieces of a file), packed numbers from nybbles (01, Rasters).
-- Assumes nothing: these are definitions.
use Rattle.std.specs.Prelude.{ℕ, zero, suc, ◌+◌, ◌-◌, ◌*◌, ◌^◌, List, [], ◌∷◌, cond, leb, ltb, ℤ, pos, negsuc, drop}
use Rattle.format.specs.Numbers.{Kind, unsigned, signed, width, Values}
use Rattle.format.specs.Packed.{limit}

-- Many-byte numbers.

-- The number that the first k bytes are.
unfoldable pub number : ℕ → List ℕ → ℕ
number zero s = 0
number (suc k) [] = 0
number (suc k) (b ∷ s) = b * 256 ^ k + number k s

-- The value of a field whose bytes are the number n.
unfoldable pub value_of : Kind → ℕ → ℤ
value_of (unsigned k) n = pos n
value_of (signed k) n = cond (ltb (2 * n) (256 ^ k)) (pos n) (negsuc (256 ^ k - suc n))

-- The values that stand in the first bytes.
unfoldable pub read_fields : (ks : List Kind) → List ℕ → Values ks
read_fields [] s = tt
read_fields (k ∷ ks) s = (value_of k (number (width k) s), read_fields ks (drop (width k) s))

-- Packed numbers.

-- A number and the nybbles after it; that the nybbles end inside it; a 14 or 15 where it must begin.
pub data Got : Type 0 where
  value : ℕ → List ℕ → Got
  ends : Got
  mark : Got

-- n digits more, after those that came to k
unfoldable pub digits : ℕ → ℕ → List ℕ → Got
digits zero k xs = value k xs
digits (suc n) k [] = ends
digits (suc n) k (x ∷ xs) = digits n (k * 16 + x) xs

-- after z zeros: a zero more, or the first digit and z more
unfoldable pub zeros : ℕ → List ℕ → Got
zeros z [] = ends
zeros z (zero ∷ xs) = zeros (suc z) xs
zeros z (suc x ∷ xs) = digits z (suc x) xs

-- that number − 15 + M
unfoldable pub shift : ℕ → Got → Got
shift m (value k xs) = value (k - 15 + m) xs
shift m ends = ends
shift m mark = mark

-- after a nybble a from f + 1 to 13: (a − f − 1) × 16 + b + f + 1
unfoldable pub second : ℕ → ℕ → List ℕ → Got
second f a [] = ends
second f a (b ∷ xs) = value ((a - f - 1) * 16 + b + f + 1) xs

-- The packed number at the front.
unfoldable pub decode : ℕ → List ℕ → Got
decode f [] = ends
decode f (zero ∷ xs) = shift (limit f) (zeros 1 xs)
decode f (suc a ∷ xs) = cond (leb (suc a) f) (value (suc a) xs) (cond (leb (suc a) 13) (second f (suc a) xs) mark)
