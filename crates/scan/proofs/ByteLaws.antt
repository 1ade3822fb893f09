-- The bytes of a number, the least first. Assumes nothing.
use Rattle.std.proofs.Common.{◌≡◌, ℕ, zero, suc, ◌+◌, ◌*◌, ◌/◌, ◌<◌, List, [], ◌∷◌, length, get_or, refl, ap, ◌∙◌, arith}
use Rattle.scan.specs.Scan.{byte_of, Eight}

-- The number of some bytes, and that they are bytes.
abbrev number : List ℕ → ℕ
number [] = 0
number (x ∷ xs) = x + number xs * 256

abbrev Bytes : List ℕ → Type 0
Bytes [] = Unit {0}
Bytes (x ∷ xs) = (x < 256) × Bytes xs

-- Its bytes are these.
byte_number : (xs : List ℕ) → Bytes xs → (i : ℕ) → i < length xs → byte_of i (number xs) ≡ get_or xs i 0
unfolding byte_of
byte_number [] h i l = absurd (omega arith)
byte_number (x ∷ xs) h zero l = omega arith
byte_number (x ∷ xs) h (suc i) l =
    let e : (x + number xs * 256) / 256 ≡ number xs = omega arith in
    ap (byte_of i) e ∙ byte_number xs h.1 i (omega arith)

-- Eight bytes read at once.
places : (f : ℕ → ℕ) (i : ℕ) → i < 8 → get_or (f 0 ∷ f 1 ∷ f 2 ∷ f 3 ∷ f 4 ∷ f 5 ∷ f 6 ∷ f 7 ∷ []) i 0 ≡ f i
places f zero h = refl
places f (suc zero) h = refl
places f (suc (suc zero)) h = refl
places f (suc (suc (suc zero))) h = refl
places f (suc (suc (suc (suc zero)))) h = refl
places f (suc (suc (suc (suc (suc zero))))) h = refl
places f (suc (suc (suc (suc (suc (suc zero)))))) h = refl
places f (suc (suc (suc (suc (suc (suc (suc zero))))))) h = refl
places f (suc (suc (suc (suc (suc (suc (suc (suc i)))))))) h = absurd (omega arith)

pub eight_byte : (f : ℕ → ℕ) (r i : ℕ) → Eight f r → i < 8 → byte_of i r ≡ f i
eight_byte f r i e h =
    let l = f 0 ∷ f 1 ∷ f 2 ∷ f 3 ∷ f 4 ∷ f 5 ∷ f 6 ∷ f 7 ∷ [] in
    let q : r ≡ number l = omega (arith, e.is) in
    let s : (j : ℕ) → j < 8 → f j < 256 = e.bytes in
    ap (byte_of i) q
    ∙ byte_number l (s 0 (omega arith), (s 1 (omega arith), (s 2 (omega arith), (s 3 (omega arith), (s 4 (omega arith), (s 5 (omega arith), (s 6 (omega arith), (s 7 (omega arith), tt)))))))) i h
    ∙ places f i h
