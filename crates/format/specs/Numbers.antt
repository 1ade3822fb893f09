-- Many-byte numbers (01, Pieces of a file): the first byte is most significant; four-byte ones are signed, two's complement. No
-- reader is mentioned.
-- Assumes nothing: these are definitions.
use Rattle.std.specs.Prelude.{ℕ, zero, suc, ◌+◌, ◌-◌, ◌*◌, ◌/◌, ◌%◌, ◌^◌, ◌<◌, List, [], ◌∷◌, ◌++◌, Bool, true, false, ◌&&◌, leb, ltb, ℤ, pos, negsuc}

-- Each is a byte.
abbrev pub Bytes : List ℕ → Type 0
Bytes [] = Unit {0}
Bytes (b ∷ s) = (b < 256) × Bytes s

-- n in k bytes.
unfoldable pub bytes : ℕ → ℕ → List ℕ
bytes zero n = []
bytes (suc k) n = n / 256 ^ k ∷ bytes k (n % 256 ^ k)

-- Fields.

-- A field of k bytes: unsigned, 01's name[k], or signed, 01's name[+k] and every name[4].
pub data Kind : Type 0 where
  unsigned : ℕ → Kind
  signed : ℕ → Kind

-- How many bytes it has.
abbrev pub width : Kind → ℕ
width (unsigned k) = k
width (signed k) = k

-- The values that a field holds; negsuc n is −(n + 1).
unfoldable pub held : Kind → ℤ → Bool
held (unsigned k) (pos n) = ltb n (256 ^ k)
held (unsigned k) (negsuc n) = false
held (signed k) (pos n) = ltb (2 * n) (256 ^ k)
held (signed k) (negsuc n) = leb (2 * suc n) (256 ^ k)

-- A value as the number that its k bytes are: two's complement.
unfoldable pub twos : ℕ → ℤ → ℕ
twos k (pos n) = n
twos k (negsuc n) = 256 ^ k - suc n

-- Fields in a row.

-- A value for each field.
abbrev pub Values : List Kind → Type 0
Values [] = Unit {0}
Values (k ∷ ks) = ℤ × Values ks

-- Each field holds its value.
unfoldable pub all_held : (ks : List Kind) → Values ks → Bool
all_held [] v = true
all_held (k ∷ ks) v = held k v.0 && all_held ks v.1

-- How many bytes they have.
abbrev pub size : List Kind → ℕ
size [] = 0
size (k ∷ ks) = width k + size ks

-- The fields' bytes.
unfoldable pub field_bytes : (ks : List Kind) → Values ks → List ℕ
field_bytes [] v = []
field_bytes (k ∷ ks) v = bytes (width k) (twos (width k) v.0) ++ field_bytes ks v.1
