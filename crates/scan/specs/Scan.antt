-- What a scan of bytes answers. Assumes nothing: these are definitions.
use Rattle.std.specs.Prelude.{◌≡◌, ℕ, zero, suc, ◌+◌, ◌*◌, ◌/◌, ◌%◌, ◌<◌, ◌≤◌, List, slice_index, slice_index_or}

-- k is the first place below n of which P does not hold, or n.
pub record First (P : ℕ → Type 0) (n k : ℕ) : Type 0 where
  pub most : k ≤ n
  pub below : (i : ℕ) → i < k → P i
  pub stop : k < n → P k → ⊥

-- The byte i behind a place is x.
pub record IsByte (b : List ℕ) (at x i : ℕ) : Type 0 where
  pub is : slice_index_or b (at + i) 0 ≡ x

-- The bytes i behind two places are equal.
pub record AreEqual (b : List ℕ) (x y i : ℕ) : Type 0 where
  pub is : slice_index_or b (x + i) 0 ≡ slice_index b (y + i)

-- k of the n bytes from a place on are x before the first other one.
abbrev pub FirstOther : List ℕ → ℕ → ℕ → ℕ → ℕ → Type 0
FirstOther b at n x k = First (IsByte b at x) n k

-- k of the n bytes from x on and from y on are equal before the first that differ.
abbrev pub FirstDifference : List ℕ → ℕ → ℕ → ℕ → ℕ → Type 0
FirstDifference b x y n k = First (AreEqual b x y) n k

-- The inner functions.

-- The byte i of a number, the least first.
unfoldable pub byte_of : ℕ → ℕ → ℕ
byte_of zero x = x % 256
byte_of (suc i) x = byte_of i (x / 256)

-- Two functions give the same byte at a place.
pub record AreSame (f g : ℕ → ℕ) (i : ℕ) : Type 0 where
  pub is : f i ≡ g i

-- The first eight bytes that f gives as one number, the first least.
abbrev pub eight_of : (ℕ → ℕ) → ℕ
eight_of f = f 0 + f 1 * 256 + f 2 * 65536 + f 3 * 16777216 + f 4 * 4294967296 + f 5 * 1099511627776 + f 6 * 281474976710656 + f 7 * 72057594037927936

-- r is that number, of bytes.
pub record Eight (f : ℕ → ℕ) (r : ℕ) : Type 0 where
  pub is : r ≡ eight_of f
  pub bytes : (i : ℕ) → i < 8 → f i < 256

-- k of the eight bytes of x and y are equal before the first that differ.
abbrev pub Alike : ℕ → ℕ → ℕ → Type 0
Alike x y k = First (λ (i : ℕ). byte_of i x ≡ byte_of i y) 8 k
