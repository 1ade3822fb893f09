-- Laws of nybbles put into a buffer: one by one they make the bytes of their halves. Assumes nothing.
use Prim.Native.Nat.{ℕ, suc, ◌+◌, ◌-◌, ◌*◌, ◌/◌, ◌%◌, ◌≤◌, ◌<◌}
use mathlib.Core.Path.{◌≡◌, refl, sym, ap, ◌∙◌}
use mathlib.Core.List.{List, [], ◌∷◌, ◌++◌, append_assoc}
use mathlib.Core.Bool.{Bool, true, false, cond}
use native.Mathlib.Nat.{add-zero}
use native.Mathlib.Omega.{arith}
use native.Mathlib.Numerals.{add-one}
use lib.ListN.{length, take, drop, get_or, set, length-set, length-append, take-append-drop}
use lib.Seq.{set_split, set-set, get_or-set_same, drop-set-lt, take-suc-set}
use lib.Dec.{eqb}
use borrow.Author.Tests.{eq-eqb, ne_eqb, le-leb, lt-leb}
use Rattle.format.specs.Packed.{limit, large, encode}
use Rattle.format.specs.Choice.{halves}
use Rattle.format.proofs.PackedLaws.{large_one, large_more, length_two}
use Rattle.emit.specs.Nybbles.{put_one, put_all}

-- One nybble: the high half of a byte, or the low half.
pub put_even : (d : List ℕ) (i x : ℕ) → i % 2 ≡ 0 → set d (i / 2) (x * 16) ≡ put_one d i x
unfolding put_one
put_even d i x h = rw (eq-eqb (i % 2) 0 h) refl

pub put_odd : (d : List ℕ) (i x : ℕ) → (i % 2 ≡ 0 → ⊥) → set d (i / 2) (get_or d (i / 2) 0 / 16 * 16 + x) ≡ put_one d i x
unfolding put_one
put_odd d i x h = rw (ne_eqb (i % 2) 0 h) refl

-- The buffer keeps its length.
length_put : (d : List ℕ) (i x : ℕ) → length (put_one d i x) ≡ length d
unfolding put_one
length_put d i x = go (eqb (i % 2) 0)
  where
    go : (b : Bool) → length (cond b (set d (i / 2) (x * 16)) (set d (i / 2) (get_or d (i / 2) 0 / 16 * 16 + x))) ≡ length d
    go true = length-set d (i / 2) (x * 16)
    go false = length-set d (i / 2) (get_or d (i / 2) 0 / 16 * 16 + x)

pub length_puts : (xs d : List ℕ) (i : ℕ) → length (put_all d i xs) ≡ length d
unfolding put_all
length_puts [] d i = refl
length_puts (x ∷ xs) d i = length_puts xs (put_one d i x) (i + 1) ∙ length_put d i x

-- One list of nybbles behind another.
pub put_append : (xs ys d : List ℕ) (i : ℕ) → put_all d i (xs ++ ys) ≡ put_all (put_all d i xs) (i + length xs) ys
unfolding put_all
put_append [] ys d i = rw add-zero refl
put_append (x ∷ xs) ys d i =
    let e : i + 1 + length xs ≡ i + suc (length xs) = omega arith in
    put_append xs ys (put_one d i x) (i + 1) ∙ ap (λ (n : ℕ). put_all (put_all (put_one d i x) (i + 1) xs) n ys) e

pub put_one_lem : (d : List ℕ) (i x : ℕ) → put_one d i x ≡ put_all d i (x ∷ [])
unfolding put_all
put_one_lem d i x = refl

-- The digits of a large number.

-- How many nybbles it takes.
pub large_length_one : (k : ℕ) → k < 16 → length (large k) ≡ 1
large_length_one k h = ap length (large_one k h)

pub large_length_more : (k : ℕ) → 16 ≤ k → length (large k) ≡ 2 + length (large (k / 16))
large_length_more k h = ap length (large_more k h) ∙ rw length-append (omega arith)

-- One digit is written.
pub done_one : (d e : List ℕ) (i k : ℕ) → k < 16 → e ≡ put_one d i k → (i + 1 ≡ i + length (large k)) × (e ≡ put_all d i (large k))
done_one d e i k h p = (omega (arith, large_length_one k h), p ∙ rw (large_one k h) (put_one_lem d i k))

-- The first zero, what stands between, and the last digit are written.
pub done_more : (d d₁ d₂ d₃ : List ℕ) (i k at : ℕ) → 16 ≤ k → d₁ ≡ put_one d i 0 → (at ≡ i + 1 + length (large (k / 16))) × (d₂ ≡ put_all d₁ (i + 1) (large (k / 16)))
    → d₃ ≡ put_one d₂ at (k % 16) → (at + 1 ≡ i + length (large k)) × (d₃ ≡ put_all d i (large k))
unfolding put_all
done_more d d₁ d₂ d₃ i k at h e₁ e₂ e₃ = (
  omega (arith, large_length_more k h, e₂.0),
  e₃ ∙ rw (e₂.1, e₂.0, e₁, large_more k h, put_append (large (k / 16)) (k % 16 ∷ []) (put_one d i 0) (i + 1)) refl,
)

-- A whole number.

-- A number in one nybble, in two, and above the limit.
pub number_one : (d e : List ℕ) (i f n : ℕ) → n ≤ f → e ≡ put_one d i n → (i + 1 ≡ i + length (encode f n)) × (e ≡ put_all d i (encode f n))
unfolding encode
number_one d e i f n h p = rw (le-leb n f h) (refl, p ∙ put_one_lem d i n)

-- Up to the limit, and only so far, the first of two nybbles is at most 13.
pub first_within : (f n : ℕ) → f ≤ 13 → f < n → (n - f - 1) / 16 + f < 13 → n ≤ limit f
first_within f n h g l = omega arith

first_above : (f n : ℕ) → f ≤ 13 → f < n → 13 ≤ (n - f - 1) / 16 + f → limit f < n
first_above f n h g l = omega arith

pub two_long : (f n : ℕ) → f ≤ 13 → f < n → (n - f - 1) / 16 + f < 13 → length (encode f n) ≡ 2
two_long f n h g l = length_two f n g (first_within f n h g l)

pub number_two : (d d₁ d₂ : List ℕ) (i f n : ℕ) → f < n → n ≤ limit f → d₁ ≡ put_one d i ((n - f - 1) / 16 + f + 1) → d₂ ≡ put_one d₁ (i + 1) ((n - f - 1) % 16)
    → (i + 2 ≡ i + length (encode f n)) × (d₂ ≡ put_all d i (encode f n))
unfolding encode put_all
number_two d d₁ d₂ i f n h g e₁ e₂ = rw (lt-leb n f h, le-leb n (limit f) g) (refl, e₂ ∙ rw e₁ refl)

pub number_large : (f n m : ℕ) → f ≤ 13 → f < n → 13 ≤ (n - f - 1) / 16 + f → m ≡ limit f → encode f n ≡ large (n - m + 15)
unfolding encode
number_large f n m h g l e = rw (e, lt-leb n f g, lt-leb n (limit f) (first_above f n h g l)) refl

-- The bytes.

-- The first nybble of a byte sets it, and the second completes it.
one : (d : List ℕ) (j a : ℕ) → put_one d (2 * j) a ≡ set d j (a * 16)
one d j a =
    let e : 2 * j / 2 ≡ j = omega arith in
    sym (put_even d (2 * j) a (omega arith)) ∙ ap (λ (n : ℕ). set d n (a * 16)) e

two : (d : List ℕ) (j a b : ℕ) → j < length d → put_one (put_one d (2 * j) a) (2 * j + 1) b ≡ set d j (a * 16 + b)
two d j a b h =
    let e : (2 * j + 1) / 2 ≡ j = omega arith in
    let m : a * 16 / 16 * 16 + b ≡ a * 16 + b = omega arith in
    rw (one d j a) (sym (put_odd (set d j (a * 16)) (2 * j + 1) b (omega arith)) ∙ rw (e, get_or-set_same d j (a * 16) 0 h, set-set, m) refl)

-- From an even place on, the bytes of the nybbles stand in the buffer, and the rest stays.
pub put_halves : (xs d : List ℕ) (j : ℕ) → j + length (halves xs) ≤ length d
    → put_all d (2 * j) xs ≡ take j d ++ (halves xs ++ drop (j + length (halves xs)) d)
unfolding put_all halves
put_halves [] d j h = sym (rw (add-zero, take-append-drop) refl)
put_halves (a ∷ []) d j h = one d j a ∙ rw (add-one j) (set_split d j (a * 16) (omega arith))
put_halves (a ∷ b ∷ r) d j h =
    let v = a * 16 + b in
    let l = j + 1 + length (halves r) in
    let n : 2 * j + 1 + 1 ≡ 2 * (j + 1) = omega arith in
    let p : j < length d = omega arith in
    let q : j + suc (length (halves r)) ≡ l = omega arith in
    let ih = put_halves r (set d j v) (j + 1) (rw length-set (omega arith)) in
    ap (λ (x : List ℕ). put_all x (2 * j + 1 + 1) r) (two d j a b p) ∙ ap (λ (m : ℕ). put_all (set d j v) m r) n ∙ ih
    ∙ rw (drop-set-lt l d j v (omega arith), q, add-one j, take-suc-set d j v p, append_assoc) refl
