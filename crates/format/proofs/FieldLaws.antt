-- Numbers and fields, for every width at once: what is written is read back, and what is read was so written. Assumes nothing.
use Prim.Native.Nat.{ℕ, zero, suc, ◌+◌, ◌-◌, ◌*◌, ◌/◌, ◌%◌, ◌^◌, ◌<◌, ◌≤◌}
use mathlib.Core.Path.{◌≡◌, refl, ap, ◌∙◌, subst}
use mathlib.Core.List.{List, [], ◌∷◌, ◌++◌, append_assoc}
use mathlib.Core.Bool.{Bool, true, false, cond}
use native.Mathlib.Nat.{div-lt_iff_lt-mul, pow-succ', one-le-pow, mod-lt, div-add-mod', div-eq_of_lt, mod-eq_of_lt, mul-add-div_right, mul-add-mod_self_right, mul-le-mul_right}
use native.Mathlib.Omega.{arith}
use lib.Dec.{ltb}
use lib.IntN.{ℤ, pos, negsuc}
use lib.ListN.{length, get_or, take, drop, length-append, length-drop}
use lib.Seq.{drop_at, take-add}
use borrow.Author.Tests.{ltb-true, ltb-false, leb-true, lt-ltb, le-ltb, le-leb}
use Rattle.format.specs.Numbers.{Bytes, bytes, Kind, unsigned, signed, width, held, twos, Values, all_held, size, field_bytes}
use Rattle.format.specs.Decoding.{number, value_of, read_fields}
use Rattle.format.proofs.Tests.{and_true, true_and}

pow_pos : (k : ℕ) → 0 < 256 ^ k
pow_pos k = one-le-pow k 256 (omega arith)

pub bytes_drop : (n : ℕ) (s : List ℕ) → Bytes s → Bytes (drop n s)
bytes_drop zero s h = h
bytes_drop (suc n) [] h = tt
bytes_drop (suc n) (b ∷ s) h = bytes_drop n s h.1

-- The entries of a slice are bytes.
pub bytes_of_lem : (s : List ℕ) → ((i : ℕ) → get_or s i 0 < 256) → Bytes s
bytes_of_lem [] l = tt
bytes_of_lem (b ∷ s) l = (l 0, bytes_of_lem s (λ i. l (suc i)))

-- Numbers.

pub length-bytes : (k n : ℕ) → length (bytes k n) ≡ k
unfolding bytes
length-bytes zero n = refl
length-bytes (suc k) n = ap suc (length-bytes k (n % 256 ^ k))

-- A number's bytes are read back, whatever follows.
pub number_bytes : (k n : ℕ) (r : List ℕ) → n < 256 ^ k → number k (bytes k n ++ r) ≡ n
unfolding number bytes
number_bytes zero n r h = omega arith
number_bytes (suc k) n r h = rw (number_bytes k (n % 256 ^ k) r (mod-lt n (pow_pos k))) (div-add-mod' n (256 ^ k))

pub number_bound : (k : ℕ) (s : List ℕ) → Bytes s → number k s < 256 ^ k
unfolding number
number_bound zero s h = omega arith
number_bound (suc k) [] h = pow_pos (suc k)
number_bound (suc k) (b ∷ s) h =
    let m = mul-le-mul_right {m = b} {n = 255} (256 ^ k) (omega arith) in
    let i = number_bound k s h.1 in
    omega arith

-- They are bytes.
pub bytes_are : (k n : ℕ) → n < 256 ^ k → Bytes (bytes k n)
unfolding bytes
bytes_are zero n h = tt
bytes_are (suc k) n h =
    let e : n < 256 * 256 ^ k = subst (λ (m : ℕ). n < m) (pow-succ' 256 k) h in
    ((div-lt_iff_lt-mul (pow_pos k)).1 e, bytes_are k (n % 256 ^ k) (mod-lt n (pow_pos k)))

-- The bytes that are read are the number's.
pub bytes_number : (k : ℕ) (s : List ℕ) → Bytes s → k ≤ length s → bytes k (number k s) ≡ take k s
unfolding number bytes
bytes_number zero s h l = refl
bytes_number (suc k) [] h l = absurd (omega arith)
bytes_number (suc k) (b ∷ s) h l =
    let i = number_bound k s h.1 in
    let q : (b * 256 ^ k + number k s) / 256 ^ k ≡ b =
    mul-add-div_right (pow_pos k) b (number k s) ∙ ap (λ (x : ℕ). b + x) (div-eq_of_lt i) ∙ (omega arith) in
    let m : (b * 256 ^ k + number k s) % 256 ^ k ≡ number k s = mul-add-mod_self_right b (256 ^ k) (number k s) ∙ mod-eq_of_lt i in
    rw (q, m, bytes_number k s h.1 (omega arith))

-- One field.

-- What it is for a field to hold a value, as an order of numbers.
abbrev pub Held : Kind → ℤ → Type 0
Held (unsigned k) (pos n) = n < 256 ^ k
Held (unsigned k) (negsuc n) = ⊥
Held (signed k) (pos n) = 2 * n < 256 ^ k
Held (signed k) (negsuc n) = 2 * suc n ≤ 256 ^ k

pub held_is : (k : Kind) (z : ℤ) → held k z ≡ true → Held k z
unfolding held
held_is (unsigned k) (pos n) e = ltb-true n (256 ^ k) e
held_is (unsigned k) (negsuc n) e = let y : ◌≡◌ {A = ℕ} 0 1 = cc in omega arith
held_is (signed k) (pos n) e = ltb-true (2 * n) (256 ^ k) e
held_is (signed k) (negsuc n) e = leb-true (2 * suc n) (256 ^ k) e

pub is_held : (k : Kind) (z : ℤ) → Held k z → held k z ≡ true
unfolding held
is_held (unsigned k) (pos n) h = lt-ltb n (256 ^ k) h
is_held (unsigned k) (negsuc n) h = absurd h
is_held (signed k) (pos n) h = lt-ltb (2 * n) (256 ^ k) h
is_held (signed k) (negsuc n) h = le-leb (2 * suc n) (256 ^ k) h

-- A value that a field holds is that of its number, which the field's bytes can be;
pub value_twos : (k : Kind) (z : ℤ) → held k z ≡ true → (value_of k (twos (width k) z) ≡ z) × (twos (width k) z < 256 ^ width k)
unfolding value_of twos
value_twos k z e = go k z (held_is k z e)
  where
    go : (k : Kind) (z : ℤ) → Held k z → (value_of k (twos (width k) z) ≡ z) × (twos (width k) z < 256 ^ width k)
    go (unsigned k) (pos n) h = (refl, h)
    go (unsigned k) (negsuc n) h = absurd h
    go (signed k) (pos n) h = (rw (lt-ltb (2 * n) (256 ^ k) h), omega arith)
    go (signed k) (negsuc n) h =
        let e : 256 ^ k - suc (256 ^ k - suc n) ≡ n = omega arith in
        (rw (le-ltb (2 * (256 ^ k - suc n)) (256 ^ k) (omega arith), e), omega arith)

-- and the value of a number that the bytes can be has that number, and the field holds it.
pub twos_value : (k : Kind) (n : ℕ) → n < 256 ^ width k → (twos (width k) (value_of k n) ≡ n) × (held k (value_of k n) ≡ true)
unfolding value_of twos
twos_value (unsigned k) n h = (refl, is_held (unsigned k) (pos n) h)
twos_value (signed k) n h = go (ltb (2 * n) (256 ^ k)) refl
  where
    go : (b : Bool) → ltb (2 * n) (256 ^ k) ≡ b
        → (twos k (cond b (pos n) (negsuc (256 ^ k - suc n))) ≡ n) × (held (signed k) (cond b (pos n) (negsuc (256 ^ k - suc n))) ≡ true)
    go true e = (refl, is_held (signed k) (pos n) (ltb-true (2 * n) (256 ^ k) e))
    go false e = let l = ltb-false (2 * n) (256 ^ k) e in (omega arith, is_held (signed k) (negsuc (256 ^ k - suc n)) (omega arith))

-- Fields in a row.

pub length_fields : (ks : List Kind) (v : Values ks) → length (field_bytes ks v) ≡ size ks
unfolding field_bytes
length_fields [] v = refl
length_fields (k ∷ ks) v = rw (length-append, length-bytes, length_fields ks v.1)

-- What is written is read back, whatever follows.
pub read_fields_lem : (ks : List Kind) (v : Values ks) (r : List ℕ) → all_held ks v ≡ true → read_fields ks (field_bytes ks v ++ r) ≡ v
unfolding read_fields field_bytes all_held
read_fields_lem [] v r h = refl
read_fields_lem (k ∷ ks) v r h =
    let hs = and_true (held k v.0) (all_held ks v.1) h in
    let e = value_twos k v.0 hs.0 in
    let b = bytes (width k) (twos (width k) v.0) in
    let t = field_bytes ks v.1 in
    rw (
      append_assoc b t r,
      number_bytes (width k) (twos (width k) v.0) (t ++ r) e.1,
      e.0,
      drop_at b (t ++ r) (width k) (length-bytes (width k) (twos (width k) v.0)),
      read_fields_lem ks v.1 r hs.1,
    )

-- What is read was so written.
pub record Wrote (ks : List Kind) (s : List ℕ) (v : Values ks) : Type 0 where
  pub whole : field_bytes ks v ≡ take (size ks) s
  pub held : all_held ks v ≡ true

pub fields_read : (ks : List Kind) (s : List ℕ) → Bytes s → size ks ≤ length s → Wrote ks s (read_fields ks s)
unfolding read_fields field_bytes all_held
fields_read [] s h l = record { whole = refl; held = refl }
fields_read (k ∷ ks) s h l =
    let n = number (width k) s in
    let e = twos_value k n (number_bound (width k) s h) in
    let i = fields_read ks (drop (width k) s) (bytes_drop (width k) s h) (rw length-drop (omega arith)) in
    record {
      whole = rw (e.0, bytes_number (width k) s h (omega arith), i.whole, take-add (width k) (size ks) s);
      held = true_and e.1 i.held;
    }
