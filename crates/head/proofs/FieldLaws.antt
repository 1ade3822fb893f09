-- Numbers put into a buffer byte by byte, and fields number by number: invariants that say what remains. Assumes nothing.
use Prim.Native.Nat.{ℕ, zero, suc, ◌+◌, ◌-◌, ◌/◌, ◌%◌, ◌^◌, ◌≤◌, ◌<◌}
use mathlib.Core.Path.{◌≡◌, refl, sym, ap, subst, ◌∙◌}
use mathlib.Core.List.{List, [], ◌∷◌, ◌++◌}
use native.Mathlib.Nat.{add-zero}
use native.Mathlib.Numerals.{add-one}
use native.Mathlib.Omega.{arith}
use Rattle.std.proofs.Common.{append_assoc}
use lib.ListN.{length, take, drop, get_or, set, length-append, drop_of_length-le}
use lib.Seq.{sets, sets-eq, length-sets, drop-cons, drop-drop, take-length}
use borrow.Rule.Slice.PartMut.{put_mid}
use mir.Syntax.{w64}
use Rattle.std.specs.Int.{to_be_bytes}
use Rattle.format.specs.Numbers.{bytes}
use Rattle.format.proofs.FieldLaws.{length-bytes}
use Rattle.head.specs.declared.Field.{Field}
use Rattle.head.specs.Head.{numbers, total, Fit, narrow_row}

-- One number.

-- Its k bytes are the last of eight.
pub last_bytes : (k n : ℕ) → k ≤ 4 → n < 256 ^ k → drop (8 - k) (to_be_bytes w64 n) ≡ bytes k n
unfolding bytes
last_bytes zero n l h = refl
last_bytes (suc zero) n l h = let a : n % 256 ≡ n / 1 = omega arith in rw a refl
last_bytes (suc (suc zero)) n l h =
    let a : n / 256 % 256 ≡ n / 256 = omega arith in
    let b : n % 256 / 1 ≡ n % 256 = omega arith in
    rw (a, b) refl
last_bytes (suc (suc (suc zero))) n l h =
    let a : n / 65536 % 256 ≡ n / 65536 = omega arith in
    let b : n / 256 % 256 ≡ n % 65536 / 256 = omega arith in
    let d : n % 65536 % 256 / 1 ≡ n % 256 = omega arith in
    rw (a, b, d) refl
last_bytes (suc (suc (suc (suc zero)))) n l h =
    let a : n / 16777216 % 256 ≡ n / 16777216 = omega arith in
    let b : n / 65536 % 256 ≡ n % 16777216 / 65536 = omega arith in
    let d : n / 256 % 256 ≡ n % 16777216 % 65536 / 256 = omega arith in
    let e : n % 16777216 % 65536 % 256 / 1 ≡ n % 256 = omega arith in
    rw (a, b, d, e) refl
last_bytes (suc (suc (suc (suc (suc k))))) n l h = absurd (omega arith)

-- Copied to their place, they are the number there.
pub number_put : (l : List ℕ) (at k n : ℕ) {d e : List ℕ} → at + k ≤ length l → k ≤ 4 → n < 256 ^ k → e ≡ to_be_bytes w64 n → d ≡ take (8 - (8 - k)) (drop (8 - k) e)
    → put_mid at (at + k - at) l d ≡ sets l at (bytes k n)
number_put l at k n {d} {e} r h s p q =
    let b = bytes k n in
    let a : 8 - (8 - k) ≡ k = omega arith in
    let m : at + k - at ≡ k = omega arith in
    let z : length b ≡ k = length-bytes k n in
    let f : drop (8 - k) e ≡ b = ap (drop (8 - k)) p ∙ last_bytes k n h s in
    let g : d ≡ b = q ∙ rw (a, f) (take_whole b k z) in
    rw (m, g) (ap (λ (x : List ℕ). take at l ++ (b ++ x)) (drop-drop k at l) ∙ sym (sets-eq b l at (omega arith) ∙ ap (λ (x : ℕ). (take at l ++ b) ++ drop (at + x) l) z ∙ append_assoc (take at l) b (drop (at + k) l)))
  where
    take_whole : (b : List ℕ) (k : ℕ) → length b ≡ k → take k b ≡ b
    take_whole b k z = rw (← z) (take-length b)

-- Fields.

-- What is set in two goes is set in one.
sets-append : (a b l : List ℕ) (i : ℕ) → sets (sets l i a) (i + length a) b ≡ sets l i (a ++ b)
sets-append [] b l i = rw add-zero refl
sets-append (x ∷ a) b l i =
    let e : i + suc (length a) ≡ suc i + length a = omega arith in
    rw e (sets-append a b (set l i x) (suc i))

length-numbers : (xs : List Field) → length (numbers xs) ≡ total xs
unfolding numbers
length-numbers [] = refl
length-numbers (x ∷ xs) = rw (length-append, length-bytes, length-numbers xs) refl

-- The fields from the i-th on are what is left.
pub record Rest (l : List ℕ) (at : ℕ) (xs : List Field) (d : List ℕ) (i to : ℕ) : Type 0 where
  pub fit : Fit (drop i xs)
  pub place : to + total (drop i xs) ≡ at + total xs
  pub room : at + total xs ≤ length l
  pub same : length d ≡ length l
  pub is : sets l at (numbers xs) ≡ sets d to (numbers (drop i xs))

pub rest_start : (l : List ℕ) (at : ℕ) (xs : List Field) → Fit xs → at + total xs ≤ length l → Rest l at xs l 0 at
rest_start l at xs f r = record { fit = f; place = refl; room = r; same = refl; is = refl }

-- The next field.
module _ {l : List ℕ} {at : ℕ} {xs : List Field} {d : List ℕ} {i to : ℕ} (z : Field) (a : Rest l at xs d i to) (h : i < length xs) where
  abbrev x : Field
  x = get_or xs i z

  split : drop i xs ≡ x ∷ drop (suc i) xs
  split = drop-cons xs i z h

  fits : Fit (x ∷ drop (suc i) xs)
  fits = subst (λ (y : List Field). Fit y) split a.fit

  behind : to + x.width + total (drop (suc i) xs) ≡ at + total xs
  behind = omega (arith, a.place, ap total split)

  pub rest_asks : (to + x.width ≤ length d) × (x.width ≤ 4) × (x.value < 256 ^ x.width)
  rest_asks = (omega (arith, behind, a.room, a.same), fits.0, fits.1)

  pub rest_more : {e : List ℕ} {r : ℕ} → (r ≡ to + x.width) × (e ≡ sets d to (bytes x.width x.value)) → Rest l at xs e (i + 1) r
  unfolding numbers
  rest_more {e} {r} g =
      let s : i + 1 ≡ suc i = add-one i in
      let b = bytes x.width x.value in
      let t = numbers (drop (suc i) xs) in
      record {
        fit = rw s fits.2;
        place = rw s (omega (arith, behind, g.0));
        room = a.room;
        same = ap length g.1 ∙ simp length-sets a.same;
        is = a.is ∙ ap (λ (y : List Field). sets d to (numbers y)) split ∙ sym (sets-append b t d to) ∙ ap (λ (n : ℕ). sets (sets d to b) (to + n) t) (length-bytes x.width x.value)
            ∙ rw (s, g.0, g.1) refl;
      }

pub rest_end : {l : List ℕ} {at : ℕ} {xs : List Field} {d : List ℕ} {i to : ℕ} → Rest l at xs d i to → length xs ≤ i → (to ≡ at + total xs) × (d ≡ sets l at (numbers xs))
unfolding numbers
rest_end {xs = xs} {i = i} a h =
    let p : drop i xs ≡ [] = drop_of_length-le xs {i = i} h in
    (omega (arith, a.place, ap total p), sym (a.is ∙ rw p refl))

-- The flag and the fields stand at the buffer's start.
pub head_put : (l d : List ℕ) (flag : ℕ) (xs : List Field) {r : ℕ} → 1 + total xs ≤ length l → (r ≡ 1 + total xs) × (d ≡ sets (set l 0 flag) 1 (numbers xs))
    → (r ≡ 1 + total xs) × (d ≡ (flag ∷ numbers xs) ++ drop (1 + total xs) l)
head_put l d flag xs h g =
    let n : length (numbers xs) ≡ total xs = length-numbers xs in
    let e : 0 + suc (length (numbers xs)) ≡ 1 + total xs = omega arith in
    (g.0, g.1 ∙ sets-eq (flag ∷ numbers xs) l 0 (omega arith) ∙ ap (λ (x : ℕ). (flag ∷ numbers xs) ++ drop x l) e)

-- The short form.

-- A number in no bytes, in one and in three.
bytes_none : (n : ℕ) → bytes 0 n ≡ []
unfolding bytes
bytes_none n = refl

byte_one : (n : ℕ) → bytes 1 n ≡ n ∷ []
unfolding bytes
byte_one n = ap (λ (x : ℕ). x ∷ []) (omega arith)

bytes_three : (n : ℕ) → bytes 3 n ≡ n / 65536 ∷ n % 65536 / 256 ∷ n % 256 ∷ []
unfolding bytes
bytes_three n = let e : n % 65536 % 256 / 1 ≡ n % 256 = omega arith in ap (λ (x : ℕ). n / 65536 ∷ n % 65536 / 256 ∷ x ∷ []) e

-- Its flag and fields are those bytes.
pub short_put : (l : List ℕ) (flag n code tfm dm w h x y : ℕ) {d : List ℕ}
    → d ≡ flag ∷ n ∷ code ∷ tfm / 65536 ∷ tfm % 65536 / 256 ∷ tfm % 256 ∷ dm ∷ w ∷ h ∷ x ∷ y ∷ []
    → d ++ drop 11 l ≡ (flag ∷ numbers (narrow_row 1 n code tfm dm w h x y)) ++ drop 11 l
unfolding numbers
short_put l flag n code tfm dm w h x y e =
    rw e (sym (rw (bytes_none 0, bytes_three tfm, byte_one n, byte_one code, byte_one dm, byte_one w, byte_one h, byte_one x, byte_one y) refl))
