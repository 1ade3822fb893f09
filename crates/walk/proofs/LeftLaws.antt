-- What is left of the joined string at a cursor: pixels of a row, and the next row. Assumes nothing.
use Prim.Native.Nat.{ℕ, zero, suc, ◌+◌, ◌-◌, ◌≤◌, ◌<◌}
use mathlib.Core.Path.{◌≡◌, refl, ap, ◌∙◌}
use mathlib.Core.List.{List, [], ◌∷◌, ◌++◌}
use mathlib.Core.Bool.{Bool, true, false, cond}
use native.Mathlib.Omega.{arith}
use lib.Dec.{eqb}
use lib.ListN.{length, take, drop, get_or, replicate}
use lib.Seq.{take-add, drop-drop}
use borrow.Author.Tests.{eq-eqb}
use Rattle.format.specs.Counts.{Kept, row, kept, Pixel, pixel, placed, last_of, strung}
use Rattle.scan.specs.Scan.{IsByte}
use Rattle.walk.specs.declared.Cursor.{Cursor}
use Rattle.walk.specs.Walk.{rows_from, left_of, left, ahead, begun, Removal, Entered, Inside}
use Rattle.walk.proofs.PixelLaws.{take-drop, row_plain}
use Rattle.walk.proofs.RowLaws.{rows_none, rows_first, kept_first}

-- What is left of a row: its first pixel, and at its end the rows kept from `next` on.
left_cons : (b : List ℕ) (w next n p x : ℕ) (xs : List ℕ) → left_of b w next n p (x ∷ xs) ≡ pixel x (cond (eqb x p) 0 n) ∷ left_of b w next (cond (eqb x p) n 0) x xs
unfolding left_of placed last_of
left_cons b w next n p x xs = refl

left_nil : (b : List ℕ) (w next n p : ℕ) → left_of b w next n p [] ≡ strung p (kept (rows_from b w next))
unfolding left_of placed last_of
left_nil b w next n p = refl

strung_row : (b : List ℕ) (w next n p : ℕ) (r : List ℕ) → strung p (row r n ∷ kept (rows_from b w next)) ≡ left_of b w next n p r
unfolding left_of strung
strung_row b w next n p r = refl

strung_nil : (p : ℕ) → strung p (kept []) ≡ []
unfolding strung kept
strung_nil p = refl

-- What is left at a cursor inside a row.
left_in : (b : List ℕ) (w : ℕ) (c : Cursor) → c.at < c.end → c.end ≤ length b → left b w c ≡ pixel (get_or b c.at 0) (cond (eqb (get_or b c.at 0) c.before) 0 c.owed) ∷ left b w (record { at = c.at + 1; end = c.end; next = c.next; owed = cond (eqb (get_or b c.at 0) c.before) c.owed 0; before = get_or b c.at 0 })
unfolding left
left_in b w c h l =
    let e : c.end - c.at - 1 ≡ c.end - (c.at + 1) = omega arith in
    ap (left_of b w c.next c.owed c.before) (take-drop b (c.end - c.at) c.at (omega arith) (omega arith) ∙ ap (λ (k : ℕ). get_or b c.at 0 ∷ take k (drop (c.at + 1) b)) e)
    ∙ left_cons b w c.next c.owed c.before (get_or b c.at 0) (take (c.end - (c.at + 1)) (drop (c.at + 1) b))

-- At the end of a row the rows from `next` on are left.
pub left_full : (b : List ℕ) (w : ℕ) (c : Cursor) → c.end ≤ c.at → left b w c ≡ strung c.before (kept (rows_from b w c.next))
unfolding left
left_full b w c h =
    let e : c.end - c.at ≡ 0 = omega arith in
    ap (λ (k : ℕ). left_of b w c.next c.owed c.before (take k (drop c.at b))) e ∙ left_nil b w c.next c.owed c.before

-- The joined string ends.
pub left_over_lem : {b : List ℕ} {w : ℕ} {c : Cursor} → Inside b w c → c.end ≤ c.at → length b ≤ c.next → left b w c ≡ []
left_over_lem {b} {w} {c} i h l =
    left_full b w c h
    ∙ ap (λ (x : List (List ℕ)). strung c.before (kept x)) (rows_none b w c.next i.more_rows i.wide i.whole l)
    ∙ strung_nil c.before

-- The next row.

-- The cursor where the next row kept begins.
abbrev entered : Cursor → ℕ → ℕ → ℕ → Cursor
entered c w next n = record { at = c.next; end = c.next + w; next = next; owed = n; before = c.before }

-- Where a row begins, the same is left.
left_entered : (b : List ℕ) (w : ℕ) (c : Cursor) (next n : ℕ) → c.end ≤ c.at → Removal b w c.next next n → left b w c ≡ left b w (entered c w next n)
unfolding left
left_entered b w c next n h r =
    let e : w ≡ c.next + w - c.next = omega arith in
    left_full b w c h ∙ ap (strung c.before) r.is ∙ strung_row b w next n c.before (take w (drop c.next b))
    ∙ ap (λ (k : ℕ). left_of b w next n c.before (take k (drop c.next b))) e

pub is_entered : {b : List ℕ} {w : ℕ} {c : Cursor} {next n : ℕ} → Inside b w c → c.end ≤ c.at → Removal b w c.next next n → Entered b w c (entered c w next n)
is_entered {b} {w} {c} {next} {n} i h r = record {
  is = left_entered b w c next n h r;
  inside = record { wide = i.wide; small = i.small; in_row = omega arith; after = r.after; few = r.few; more_rows = r.more_rows; whole = r.whole };
  before = refl;
  at = refl;
  end = refl;
}

-- A cursor that entered a row has a pixel before it.
pub room : {b : List ℕ} {w : ℕ} {c d : Cursor} → Entered b w c d → (d.at < d.end) × (d.end ≤ length b)
room e = (omega (arith, e.at, e.end, e.inside.wide), omega (arith, e.inside.after, e.inside.whole))

-- Several pixels.

-- Pixels of the colour of the one before take no repeat.
left_plain : (b : List ℕ) (w next n p k : ℕ) (xs : List ℕ) → left_of b w next n p (replicate k p ++ xs) ≡ replicate k (pixel p 0) ++ left_of b w next n p xs
left_plain b w next n p zero xs = refl
left_plain b w next n p (suc k) xs =
    left_cons b w next n p p (replicate k p ++ xs)
    ∙ rw (eq-eqb p p refl) (ap (λ (l : List Pixel). pixel p 0 ∷ l) (left_plain b w next n p k xs))

-- Pixels of a row, n of the colour x and then the others.
row_split : (b : List ℕ) (at end x n : ℕ) → at + n ≤ end → end ≤ length b → ((i : ℕ) → i < n → IsByte b at x i) → take (end - at) (drop at b) ≡ replicate n x ++ take (end - (at + n)) (drop (at + n) b)
row_split b at end x n h l f =
    let e : end - at ≡ n + (end - (at + n)) = omega arith in
    ap (λ (k : ℕ). take k (drop at b)) e ∙ take-add n (end - (at + n)) (drop at b)
    ∙ ap (λ (r : List ℕ). r ++ take (end - (at + n)) (drop n (drop at b))) (row_plain b n at x (omega arith) f)
    ∙ ap (λ (r : List ℕ). replicate n x ++ take (end - (at + n)) r) (drop-drop n at b)

-- The first pixel takes the repeat if its colour is another than that of the one before; what it does not take is owed.
first_takes : (b : List ℕ) (w next o p x n : ℕ) (xs : List ℕ) → 0 < n → left_of b w next o p (replicate n x ++ xs) ≡ begun x n (cond (eqb x p) 0 o) ++ left_of b w next (o - cond (eqb x p) 0 o) x xs
unfolding begun
first_takes b w next o p x zero xs h = absurd (omega arith)
first_takes b w next o p x (suc n) xs h =
    let e = takes (eqb x p) in
    left_cons b w next o p x (replicate n x ++ xs)
    ∙ ap (λ (l : List Pixel). pixel x (cond (eqb x p) 0 o) ∷ l) (ap (λ (k : ℕ). left_of b w next k x (replicate n x ++ xs)) e ∙ left_plain b w next (o - cond (eqb x p) 0 o) x n xs)
  where
    takes : (t : Bool) → cond t o 0 ≡ o - cond t 0 o
    takes true = omega arith
    takes false = omega arith

-- Where n pixels x are next in the row, they begin what is left.
pub left_begun : (b : List ℕ) (w : ℕ) (c : Cursor) (x n : ℕ) → 0 < n → c.at + n ≤ c.end → c.end ≤ length b → ((i : ℕ) → i < n → IsByte b c.at x i) → left b w c ≡ begun x n (cond (eqb x c.before) 0 c.owed) ++ left b w (ahead c x n (cond (eqb x c.before) 0 c.owed))
unfolding left
left_begun b w c x n p h l f =
    ap (left_of b w c.next c.owed c.before) (row_split b c.at c.end x n h l f)
    ∙ first_takes b w c.next c.owed c.before x n (take (c.end - (c.at + n)) (drop (c.at + n) b)) p

-- The first pixel that is left.

-- The string does not go on with the colour x.
abbrev pub Other : ℕ → List Pixel → Type 0
Other x [] = Unit {0}
Other x (pixel y n ∷ ps) = y ≡ x → ⊥

-- In a row; where the next row begins.
pub other_in : {b : List ℕ} {w x : ℕ} {c : Cursor} → Inside b w c → c.at < c.end → (get_or b c.at 0 ≡ x → ⊥) → Other x (left b w c)
other_in {b} {w} {x} {c} i h n = rw (left_in b w c h (omega (arith, i.after, i.whole))) n

other_row : (b : List ℕ) (w next p n x : ℕ) (ks : List Kept) → 0 < w → next < length b → (get_or b next 0 ≡ x → ⊥) → Other x (strung p (row (take w (drop next b)) n ∷ ks))
unfolding strung placed
other_row b w next p n x ks h l f = rw (take-drop b w next h l) f

pub other_next : {b : List ℕ} {w x : ℕ} {c : Cursor} → Inside b w c → c.end ≤ c.at → c.next < length b → (get_or b c.next 0 ≡ x → ⊥) → Other x (left b w c)
other_next {b} {w} {x} {c} i h l f =
    let k = kept_first (take w (drop c.next b)) (rows_from b w (c.next + w)) in
    rw (left_full b w c h, rows_first b w c.next i.more_rows i.wide i.whole l, k.2)
    (other_row b w c.next c.before k.0 x k.1 i.wide l f)
