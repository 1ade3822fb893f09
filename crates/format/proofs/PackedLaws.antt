-- Laws of packed numbers, for every f at once: what is written is read back, whatever follows; whatever is read was so written;
-- so no two numbers share a writing and none begins another. The lengths are 1, 2 and 2z + 1. Assumes nothing.
use Prim.Native.Nat.{ℕ, zero, suc, ◌+◌, ◌-◌, ◌*◌, ◌/◌, ◌%◌, ◌^◌, ◌≤◌, ◌<◌}
use mathlib.Core.Path.{◌≡◌, refl, sym, ap, ◌∙◌}
use mathlib.Core.List.{List, [], ◌∷◌, ◌++◌, append_assoc}
use mathlib.Core.Bool.{cond}
use native.Mathlib.Nat.{div-add-mod', pow-suc}
use native.Mathlib.Omega.{arith}
use lib.Dec.{leb}
use lib.ListN.{length, replicate, length-append, length-replicate}
use borrow.Author.Tests.{le-ltb, lt-ltb, le-leb, lt-leb}
use Rattle.format.specs.Numbers.{Bytes}
use Rattle.format.specs.Packed.{nybbles, limit, hex, zeros_f, zeros_of, large, encode}
use Rattle.format.specs.Decoding.{Got, value, ends, mark, digits, zeros, shift, second, decode}
use Rattle.format.proofs.Tests.{split}

-- Nybbles of bytes.

-- Each is a nybble.
abbrev pub Nybbles : List ℕ → Type 0
Nybbles [] = Unit {0}
Nybbles (x ∷ xs) = (x < 16) × Nybbles xs

-- There are two nybbles for each byte.
pub length-nybbles : (s : List ℕ) → length (nybbles s) ≡ 2 * length s
unfolding nybbles
length-nybbles [] = refl
length-nybbles (b ∷ s) = omega (arith, length-nybbles s)

-- The halves of bytes are nybbles.
pub bytes_nybbles : (s : List ℕ) → Bytes s → Nybbles (nybbles s)
unfolding nybbles
bytes_nybbles [] h = tt
bytes_nybbles (b ∷ s) h = let l = h.0 in (omega arith, (omega arith, bytes_nybbles s h.1))

-- The equations of `large`.

-- Any bound from k on gives the same.
enough : (g h k : ℕ) → k ≤ g → k ≤ h → zeros_f g k ≡ zeros_f h k
unfolding zeros_f
enough zero zero k p q = refl
enough zero (suc h) k p q = rw (lt-ltb k 16 (omega arith)) refl
enough (suc g) zero k p q = rw (lt-ltb k 16 (omega arith)) refl
enough (suc g) (suc h) k p q =
    split 16 k (λ t. rw (le-ltb k 16 t, enough g h (k / 16) (omega arith) (omega arith)) refl) (λ t. rw (lt-ltb k 16 t) refl)

zeros_none : (k : ℕ) → k < 16 → zeros_of k ≡ 0
unfolding zeros_of zeros_f
zeros_none zero h = refl
zeros_none (suc k) h = rw (lt-ltb (suc k) 16 h) refl

zeros_more : (k : ℕ) → 16 ≤ k → zeros_of k ≡ suc (zeros_of (k / 16))
unfolding zeros_of zeros_f
zeros_more zero h = absurd (omega arith)
zeros_more (suc k) h = rw (le-ltb (suc k) 16 h, enough k (suc k / 16) (suc k / 16) (omega arith) (omega arith)) refl

pub large_one : (k : ℕ) → k < 16 → large k ≡ k ∷ []
unfolding large hex
large_one k h = let e : k % 16 ≡ k = omega arith in rw (zeros_none k h, e) refl

pub large_more : (k : ℕ) → 16 ≤ k → large k ≡ 0 ∷ (large (k / 16) ++ (k % 16 ∷ []))
unfolding large hex
large_more k h =
    let z = zeros_of (k / 16) in
    rw (zeros_more k h, append_assoc (replicate z 0) (hex (suc z) (k / 16)) (k % 16 ∷ [])) refl

-- What is written is read back.

pub zeros_first : (z k : ℕ) (xs : List ℕ) → 0 < k → zeros z (k ∷ xs) ≡ digits z k xs
unfolding zeros
zeros_first z zero xs h = absurd (omega arith)
zeros_first z (suc k) xs h = refl

-- After z zeros, reading `large k` comes to where z digits more are wanted after k. g bounds k.
zeros_large : (g z k : ℕ) (rest : List ℕ) → 0 < k → k ≤ g → zeros z (large k ++ rest) ≡ digits z k rest
unfolding zeros digits
zeros_large zero z k rest p q = absurd (omega arith)
zeros_large (suc g) z k rest p q =
    split 16 k
    (λ t. rw (large_more k t, append_assoc, zeros_large g (suc z) (k / 16) (k % 16 ∷ rest) (omega arith) (omega arith), div-add-mod' k 16) refl)
    (λ t. rw (large_one k t, zeros_first z k rest p) refl)

pub decode_first : (f a : ℕ) (xs : List ℕ) → 0 < a → decode f (a ∷ xs) ≡ cond (leb a f) (value a xs) (cond (leb a 13) (second f a xs) mark)
unfolding decode
decode_first f zero xs h = absurd (omega arith)
decode_first f (suc a) xs h = refl

decode_large : (f k : ℕ) (rest : List ℕ) → 16 ≤ k → decode f (large k ++ rest) ≡ value (k - 15 + limit f) rest
unfolding decode zeros digits shift
decode_large f k rest h =
    rw (large_more k h, append_assoc, zeros_large (k / 16) 1 (k / 16) (k % 16 ∷ rest) (omega arith) (omega arith), div-add-mod' k 16) refl

-- What is written is read back, whatever follows, for every f.
pub decode-encode : (f n : ℕ) (rest : List ℕ) → f ≤ 13 → 0 < n → decode f (encode f n ++ rest) ≡ value n rest
unfolding encode second
decode-encode f n rest hf h =
    split n f
    (λ t. rw (le-leb n f t, decode_first f n rest h, le-leb n f t) refl)
    (λ t. split n (limit f)
    (λ u. rw (lt-leb n f t, le-leb n (limit f) u, decode_first f ((n - f - 1) / 16 + f + 1) ((n - f - 1) % 16 ∷ rest) (omega arith), lt-leb ((n - f - 1) / 16 + f + 1) f (omega arith), le-leb ((n - f - 1) / 16 + f + 1) 13 (omega arith)) (ap (λ (m : ℕ). value m rest) (omega arith)))
    (λ u. rw (lt-leb n f t, lt-leb n (limit f) u, decode_large f (n - limit f + 15) rest (omega arith)) (ap (λ (m : ℕ). value m rest) (omega arith))))

-- No two numbers share a writing, and none begins another.
pub prefix_free : (f n m : ℕ) (x y : List ℕ) → f ≤ 13 → 0 < n → 0 < m → encode f n ++ x ≡ encode f m ++ y → (n ≡ m) × (x ≡ y)
prefix_free f n m x y hf hn hm e =
    let p : value n x ≡ value m y = sym (decode-encode f n x hf hn) ∙ ap (decode f) e ∙ decode-encode f m y hf hm in
    (cc, cc)

-- Whatever is read was so written.

ends≢ : {n : ℕ} {xs : List ℕ} → ends ≡ value n xs → ⊥
ends≢ e = let z : ◌≡◌ {A = ℕ} 0 1 = cc in omega arith

mark≢ : {n : ℕ} {xs : List ℕ} → mark ≡ value n xs → ⊥
mark≢ e = let z : ◌≡◌ {A = ℕ} 0 1 = cc in omega arith

-- The nybbles xs, read after z zeros as v, are `large k` and then the z digits that bring k to v.
record Led (z : ℕ) (xs : List ℕ) (v : ℕ) (rest : List ℕ) : Type 0 where
  k : ℕ
  y : List ℕ
  pos : 0 < k
  cut : xs ≡ large k ++ y
  left : digits z k y ≡ value v rest
  nybs : Nybbles y

led_more : (z : ℕ) (xs : List ℕ) (v : ℕ) (rest : List ℕ) (k : ℕ) (y : List ℕ) → 0 < k → xs ≡ large k ++ y → digits (suc z) k y ≡ value v rest → Nybbles y → Led z (0 ∷ xs) v rest
unfolding digits
led_more z xs v rest k [] p e d s = absurd (ends≢ d)
led_more z xs v rest k (b ∷ y) p e d s =
    let lt : b < 16 = s.0 in
    let q : (k * 16 + b) / 16 ≡ k = omega arith in
    let r : (k * 16 + b) % 16 ≡ b = omega arith in
    record { k = k * 16 + b; y = y; pos = omega arith; cut = rw (e, large_more (k * 16 + b) (omega arith), append_assoc, q, r) refl; left = d; nybs = s.1 }

zeros_led : (xs : List ℕ) (z v : ℕ) (rest : List ℕ) → Nybbles xs → zeros z xs ≡ value v rest → Led z xs v rest
unfolding zeros
zeros_led [] z v rest s e = absurd (ends≢ e)
zeros_led (zero ∷ xs) z v rest s e =
    let w = zeros_led xs (suc z) v rest s.1 e in
    led_more z xs v rest w.k w.y w.pos w.cut w.left w.nybs
zeros_led (suc x ∷ xs) z v rest s e =
    record { k = suc x; y = xs; pos = omega arith; cut = rw (large_one (suc x) s.0) refl; left = e; nybs = s.1 }

-- The nybbles xs are a number's writing and the rest.
pub record Written (f : ℕ) (xs : List ℕ) (n : ℕ) (rest : List ℕ) : Type 0 where
  pub positive : 0 < n
  pub cut : xs ≡ encode f n ++ rest

written_large : (f : ℕ) (xs : List ℕ) (n : ℕ) (rest : List ℕ) → f ≤ 13 → Nybbles xs → shift (limit f) (zeros 1 xs) ≡ value n rest → Written f (0 ∷ xs) n rest
unfolding shift zeros digits encode
written_large f xs n rest hf s e = go (zeros 1 xs) refl e
  where
    at_least_lem : (k : ℕ) (y : List ℕ) → 0 < k → 0 ∷ xs ≡ large k ++ y → 16 ≤ k
    at_least_lem k y p q =
        split 16 k (λ t. t) (λ t. let r : 0 ∷ xs ≡ k ∷ y = q ∙ rw (large_one k t) refl in let z : 0 ≡ k = cc in absurd (omega arith))

    go : (g : Got) → zeros 1 xs ≡ g → shift (limit f) g ≡ value n rest → Written f (0 ∷ xs) n rest
    go ends p q = absurd (ends≢ q)
    go mark p q = absurd (mark≢ q)
    go (value v y) p q =
        let w = zeros_led (0 ∷ xs) 0 v y (omega arith, s) p in
        let e1 : value w.k w.y ≡ value v y = w.left in
        let a : w.k ≡ v = cc in
        let b : w.y ≡ rest = cc in
        let c : n ≡ v - 15 + limit f = cc in
        let d = at_least_lem w.k w.y w.pos w.cut in
        let m : n - limit f + 15 ≡ w.k = omega arith in
        record { positive = omega arith; cut = w.cut ∙ rw (lt-leb n f (omega arith), lt-leb n (limit f) (omega arith), m, b) refl }

-- Whatever is read was so written, for every f.
pub decode_written : (f : ℕ) (xs : List ℕ) (n : ℕ) (rest : List ℕ) → f ≤ 13 → Nybbles xs → decode f xs ≡ value n rest → Written f xs n rest
unfolding decode second encode
decode_written f [] n rest hf s e = absurd (ends≢ e)
decode_written f (zero ∷ xs) n rest hf s e = written_large f xs n rest hf s.1 e
decode_written f (suc x ∷ xs) n rest hf s e =
    split (suc x) f
    (λ t. let e1 : value (suc x) xs ≡ value n rest = rw (le-leb (suc x) f t) at e in
    let a : suc x ≡ n = cc in
    let b : xs ≡ rest = cc in
    record { positive = omega arith; cut = rw (le-leb n f (omega arith), a, b) refl })
    (λ t. split (suc x) 13
    (λ u. two xs s.1 t u (rw (lt-leb (suc x) f t, le-leb (suc x) 13 u) at e))
    (λ u. absurd (mark≢ (rw (lt-leb (suc x) f t, lt-leb (suc x) 13 u) at e))))
  where
    two : (ys : List ℕ) → Nybbles ys → f < suc x → suc x ≤ 13 → second f (suc x) ys ≡ value n rest → Written f (suc x ∷ ys) n rest
    two [] r t u q = absurd (ends≢ q)
    two (b ∷ ys) r t u q =
        let l : b < 16 = r.0 in
        let a : (suc x - f - 1) * 16 + b + f + 1 ≡ n = cc in
        let c : ys ≡ rest = cc in
        let d : (n - f - 1) / 16 + f + 1 ≡ suc x = omega arith in
        let g : (n - f - 1) % 16 ≡ b = omega arith in
        record { positive = omega arith; cut = rw (lt-leb n f (omega arith), le-leb n (limit f) (omega arith), d, g, c) refl }

-- Lengths.

length-hex : (n k : ℕ) → length (hex n k) ≡ n
unfolding hex
length-hex zero k = refl
length-hex (suc n) k = length-append (hex n (k / 16)) (k % 16 ∷ []) ∙ omega (arith, length-hex n (k / 16))

-- One nybble up to f, two up to M, and z zeros with z + 1 digits above it.
pub length_one : (f n : ℕ) → n ≤ f → length (encode f n) ≡ 1
unfolding encode
length_one f n h = rw (le-leb n f h) refl

pub length_two : (f n : ℕ) → f < n → n ≤ limit f → length (encode f n) ≡ 2
unfolding encode
length_two f n h l = rw (lt-leb n f h, le-leb n (limit f) l) refl

pub length-large : (f n : ℕ) → f ≤ 13 → limit f < n → length (encode f n) ≡ 2 * zeros_of (n - limit f + 15) + 1
unfolding encode large
length-large f n hf h =
    let k = n - limit f + 15 in
    let z = zeros_of k in
    rw (lt-leb n f (omega arith), lt-leb n (limit f) h)
    (length-append (replicate z 0) (hex (suc z) k) ∙ omega (arith, length-replicate {A = ℕ} z 0, length-hex (suc z) k))

-- z is the number of hexadecimal digits behind the first: 16 ^ z is at most k, and 16 ^ (z + 1) is above it. g bounds k.
digits_behind : (g k : ℕ) → 0 < k → k ≤ g → (16 ^ zeros_of k ≤ k) × (k < 16 ^ suc (zeros_of k))
digits_behind zero k p q = absurd (omega arith)
digits_behind (suc g) k p q =
    split 16 k
    (λ t. let i = digits_behind g (k / 16) (omega arith) (omega arith) in
    let z = zeros_of (k / 16) in
    let a = pow-suc 16 z in
    let b = pow-suc 16 (suc z) in
    rw (zeros_more k t) (omega (arith, i.0), omega (arith, i.1)))
    (λ t. rw (zeros_none k t) (omega arith, omega arith))

pub zeros_are : (k : ℕ) → 0 < k → (16 ^ zeros_of k ≤ k) × (k < 16 ^ suc (zeros_of k))
zeros_are k p = digits_behind k k p (omega arith)

-- What is written are nybbles.

pub nybbles-join : (xs ys : List ℕ) → Nybbles xs → Nybbles ys → Nybbles (xs ++ ys)
nybbles-join [] ys h k = k
nybbles-join (x ∷ xs) ys h k = (h.0, nybbles-join xs ys h.1 k)

pub nybbles_zero : (n : ℕ) → Nybbles (replicate n 0)
nybbles_zero zero = tt
nybbles_zero (suc n) = (omega arith, nybbles_zero n)

nybbles-hex : (n k : ℕ) → Nybbles (hex n k)
unfolding hex
nybbles-hex zero k = tt
nybbles-hex (suc n) k = nybbles-join (hex n (k / 16)) (k % 16 ∷ []) (nybbles-hex n (k / 16)) (omega arith, tt)

-- A number's writing is nybbles, for every f.
pub encode-nybbles : (f n : ℕ) → f ≤ 13 → Nybbles (encode f n)
unfolding encode large
encode-nybbles f n hf =
    split n f (λ t. rw (le-leb n f t) (omega arith, tt))
    (λ t. split n (limit f)
    (λ u. rw (lt-leb n f t, le-leb n (limit f) u) (omega arith, (omega arith, tt)))
    (λ u. let k = n - limit f + 15 in
    rw (lt-leb n f t, lt-leb n (limit f) u) (nybbles-join (replicate (zeros_of k) 0) (hex (suc (zeros_of k)) k) (nybbles_zero (zeros_of k)) (nybbles-hex (suc (zeros_of k)) k))))
