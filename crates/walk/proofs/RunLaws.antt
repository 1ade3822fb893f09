-- The joined string taken run by run, and the items that are left. Assumes nothing.
use Prim.Native.Nat.{ℕ, zero, suc, ◌+◌, ◌-◌, ◌≤◌, ◌<◌}
use mathlib.Core.Path.{◌≡◌, refl, sym, ap, ◌∙◌}
use mathlib.Core.List.{List, [], ◌∷◌, ◌++◌, append_assoc}
use mathlib.Core.Bool.{Bool, true, false, cond}
use native.Mathlib.Nat.{add-zero}
use native.Mathlib.Decide.{dec_le}
use native.Mathlib.Numerals.{add-one}
use native.Mathlib.Omega.{arith}
use lib.Dec.{eqb}
use lib.ListN.{length, get_or, replicate, replicate-append-replicate}
use borrow.Author.Tests.{eq-eqb, ne_eqb}
use Rattle.format.specs.Counts.{Pixel, pixel, Run, stretch, grow, runs, listed}
use Rattle.scan.specs.Scan.{FirstOther}
use Rattle.walk.specs.declared.Cursor.{Cursor}
use Rattle.walk.specs.declared.Count.{Count}
use Rattle.walk.specs.Walk.{left, items_left, Inside, Next, Entered, Standing, ahead, begun, Open, Closed, Ended, InRow, full, some}
use Rattle.walk.proofs.LeftLaws.{left_over_lem, room, left_begun, Other, other_in, other_next}

-- Runs.

-- A pixel before a run of another colour begins a run; one before a run of its colour makes it longer.
grow_grow : (x m y n : ℕ) (rs : List Run) → (y ≡ x → ⊥) → grow (pixel x m) (grow (pixel y n) rs) ≡ stretch x 1 m ∷ grow (pixel y n) rs
unfolding grow
grow_grow x m y n [] h = rw (ne_eqb x y (λ e. h (sym e))) refl
grow_grow x m y n (stretch z k i ∷ rs) h = go (eqb y z)
  where
    go : (t : Bool) → grow (pixel x m) (cond t (stretch y (k + 1) n ∷ rs) (stretch y 1 n ∷ stretch z k i ∷ rs)) ≡ stretch x 1 m ∷ cond t (stretch y (k + 1) n ∷ rs) (stretch y 1 n ∷ stretch z k i ∷ rs)
    go true = rw (ne_eqb x y (λ e. h (sym e))) refl
    go false = rw (ne_eqb x y (λ e. h (sym e))) refl

grow_same : (x m k n : ℕ) (rs : List Run) → grow (pixel x m) (stretch x k n ∷ rs) ≡ stretch x (suc k) m ∷ rs
unfolding grow
grow_same x m k n rs = rw (eq-eqb x x refl, add-one k) refl

-- A pixel and j more of its colour, where another colour follows, are one run.
runs_plain : (x j m : ℕ) (ps : List Pixel) → Other x ps → grow (pixel x m) (runs (replicate j (pixel x 0) ++ ps)) ≡ stretch x (suc j) m ∷ runs ps
unfolding runs grow
runs_plain x zero m [] o = refl
runs_plain x zero m (pixel y n ∷ ps) o = grow_grow x m y n (runs ps) o
runs_plain x (suc j) m ps o = ap (grow (pixel x m)) (runs_plain x j 0 ps o) ∙ grow_same x m (suc j) 0 (runs ps)

runs_run : (x k m : ℕ) (ps : List Pixel) → 0 < k → Other x ps → runs (begun x k m ++ ps) ≡ stretch x k m ∷ runs ps
unfolding runs begun
runs_run x zero m ps h o = absurd (omega arith)
runs_run x (suc k) m ps h o = runs_plain x k m ps o

-- Pixels of a run after others: only the first may have a repeat before it.
begun_plain : (x n : ℕ) → begun x n 0 ≡ replicate n (pixel x 0)
unfolding begun
begun_plain x zero = refl
begun_plain x (suc n) = refl

begun_more : (x k n m r : ℕ) → (0 < k → r ≡ 0) → (k ≡ 0 → m ≡ 0) → begun x k m ++ begun x n r ≡ begun x (k + n) (m + r)
unfolding begun
begun_more x zero n m r h z =
    let e : n ≡ 0 + n = omega arith in
    let f : r ≡ m + r = omega (arith, z refl) in
    ap (λ (i : ℕ). begun x i r) e ∙ ap (begun x (0 + n)) f
begun_more x (suc k) n m r h z =
    let q = h (omega arith) in
    let e : suc (k + n) ≡ suc k + n = omega arith in
    let f : m ≡ m + r = omega arith in
    ap (λ (i : ℕ). pixel x m ∷ (replicate k (pixel x 0) ++ begun x n i)) q
    ∙ ap (λ (l : List Pixel). pixel x m ∷ (replicate k (pixel x 0) ++ l)) (begun_plain x n)
    ∙ ap (λ (l : List Pixel). pixel x m ∷ l) (replicate-append-replicate k n (pixel x 0))
    ∙ ap (λ (i : ℕ). begun x i m) e ∙ ap (begun x (suc k + n)) f

-- The loop.

-- The run of x that has k pixels before c, with the repeat m before it, has n pixels up to d, with the repeat r.
pub record Running (b : List ℕ) (w x k m : ℕ) (c : Cursor) (n r : ℕ) (d : Cursor) : Type 0 where
  pub is : begun x k m ++ left b w c ≡ begun x n r ++ left b w d
  pub inside : Inside b w d
  pub before : 0 < n → d.before ≡ x
  pub none : n ≡ 0 → r ≡ 0
  pub many : n ≤ d.at
  pub few : r ≤ length b
  pub further : c.at + n ≤ d.at + k

-- The same where the row is full, and the next row goes on with x if the run has no pixel.
pub record Waiting (b : List ℕ) (w x k m : ℕ) (c : Cursor) (n r : ℕ) (d : Cursor) : Type 0 where
  pub run : Running b w x k m c n r d
  pub full : d.end ≤ d.at
  pub next : n ≡ 0 → (d.next < length b) × (get_or b d.next 0 ≡ x)

-- The row of a cursor ends inside the bitmap, and the cursor stands inside it.
pub row_in : {b : List ℕ} {w : ℕ} {c : Cursor} → Inside b w c → c.end ≤ length b
row_in i = omega (arith, i.after, i.whole)

pub at_most : {b : List ℕ} {w : ℕ} {c : Cursor} → Inside b w c → c.at ≤ length b
at_most i = omega (arith, i.in_row, row_in i)

-- No pixel; the loop's start; the next row; the pixels x of a row; the row is full.
running_none : (b : List ℕ) (w x : ℕ) (c : Cursor) → Inside b w c → Running b w x 0 0 c 0 0 c
running_none b w x c i = record { is = refl; inside = i; before = λ h. absurd (omega arith); none = λ h. refl; many = omega arith; few = omega arith; further = omega arith }

running_entered : {b : List ℕ} {w x k m n r : ℕ} {c d e : Cursor} → Running b w x k m c n r d → Entered b w d e → Running b w x k m c n r e
running_entered {b} {w} {x} {k} {m} {n} {r} {c} {d} {e} g t =
    let l : d.at ≤ e.at = omega (arith, g.inside.in_row, g.inside.after, t.at) in
    record {
      is = g.is ∙ ap (λ (p : List Pixel). begun x n r ++ p) t.is;
      inside = t.inside;
      before = λ h. t.before ∙ g.before h;
      none = g.none;
      many = omega (arith, g.many);
      few = g.few;
      further = omega (arith, g.further);
    }

-- The repeat before more pixels of a run: none where it has some, and few in all.
repeat_none : {b : List ℕ} {w x k m n r q : ℕ} {c d : Cursor} → Running b w x k m c n r d → Standing x d.before d.owed q → 0 < n → q ≡ 0
repeat_none {b} {w} {x} {k} {m} {n} {r} {q} {c} {d} g e h = e.is ∙ rw (eq-eqb x d.before (sym (g.before h))) refl

repeat_few : {b : List ℕ} {w x k m n r q : ℕ} {c d : Cursor} → Running b w x k m c n r d → Standing x d.before d.owed q → r + q ≤ length b
repeat_few {b} {w} {x} {k} {m} {n} {r} {q} {c} {d} g e = elim (dec_le 1 n) [
  | yes h ↦ omega (arith, repeat_none g e h, g.few)
  | no h ↦ (let z : r ≡ 0 = g.none (omega arith) in omega (arith, e.most, g.inside.few))
]

-- The pixel x at the cursor is among those that are counted.
some_taken : {b : List ℕ} {at n x k : ℕ} → FirstOther b at n x k → 0 < n → get_or b at 0 ≡ x → 0 < k
some_taken {b} {at} {n} {x} {k} f h e = elim (dec_le 1 k) [
  | yes l ↦ l
  | no l ↦ absurd (f.stop (omega arith) (record { is = ap (λ (i : ℕ). get_or b (at + i) 0) (let z : k ≡ 0 = omega arith in z) ∙ ap (λ (i : ℕ). get_or b i 0) (add-zero at) ∙ e }))
]

running_row : {b : List ℕ} {w x k m n r j q : ℕ} {c d : Cursor} → Running b w x k m c n r d → d.at < d.end → get_or b d.at 0 ≡ x → FirstOther b d.at (d.end - d.at) x j → Standing x d.before d.owed q → Running b w x k m c (n + j) (r + q) (ahead d x j q)
running_row {b} {w} {x} {k} {m} {n} {r} {j} {q} {c} {d} g l p f e =
    let i = g.inside in
    let s : 0 < j = some_taken f (omega arith) p in
    let h : d.at + j ≤ d.end = omega (arith, f.most) in
    let t : left b w d ≡ begun x j q ++ left b w (ahead d x j q) = rw e.is (left_begun b w d x j s h (row_in i) f.below) in
    record {
      is = g.is ∙ ap (λ (o : List Pixel). begun x n r ++ o) t ∙ sym (append_assoc (begun x n r) (begun x j q) (left b w (ahead d x j q)))
          ∙ ap (λ (o : List Pixel). o ++ left b w (ahead d x j q)) (begun_more x n j r q (repeat_none g e) g.none);
      inside = record { wide = i.wide; small = i.small; in_row = h; after = i.after; few = omega (arith, i.few); more_rows = i.more_rows; whole = i.whole };
      before = λ o. refl;
      none = λ o. absurd (omega arith);
      many = omega (arith, g.many);
      few = repeat_few g e;
      further = omega (arith, g.further);
    }

-- The first row of a run, and a row that it goes on in.
first_row : {b : List ℕ} {w n m : ℕ} {c : Cursor} → Inside b w c → c.at < c.end → FirstOther b c.at (c.end - c.at) (get_or b c.at 0) n → Standing (get_or b c.at 0) c.before c.owed m → (0 < n) × Running b w (get_or b c.at 0) 0 0 c n m (ahead c (get_or b c.at 0) n m)
first_row {b} {w} {n} {m} {c} i h f e =
    let x = get_or b c.at 0 in
    let p : 0 + n ≡ n = omega arith in
    let q : 0 + m ≡ m = omega arith in
    (some_taken f (omega arith) refl, rw (p, q) at (running_row (running_none b w x c i) h refl f e))

pub next_row : {b : List ℕ} {w x k m n r j q : ℕ} {c d e : Cursor} → Waiting b w x k m c n r d → Entered b w d e → get_or b d.next 0 ≡ x → FirstOther b e.at (e.end - e.at) x j → Standing x e.before e.owed q → (0 < n + j) × Running b w x k m c (n + j) (r + q) (ahead e x j q)
next_row {b} {w} {x} {k} {m} {n} {r} {j} {q} {c} {d} {e} g t p f o =
    let l = (room t).0 in
    let y : get_or b e.at 0 ≡ x = ap (λ (i : ℕ). get_or b i 0) t.at ∙ p in
    let s = some_taken f (omega arith) y in
    (omega arith, running_row (running_entered g.run t) l y f o)

-- Where the row is full.
pub waiting_full : {b : List ℕ} {w x k m n r : ℕ} {c d : Cursor} → (0 < n) × Running b w x k m c n r d → d.end ≤ d.at → Waiting b w x k m c n r d
waiting_full (s, g) h = record { run = g; full = h; next = λ e. absurd (omega arith) }

open_full : {b : List ℕ} {w x k m n r : ℕ} {c d : Cursor} → (0 < n) × Running b w x k m c n r d → d.end ≤ d.at → Open b w x n r d
open_full (s, g) h = record {
  inside = g.inside;
  full = h;
  before = g.before;
  none = g.none;
  next = λ e. absurd (omega arith);
  many = g.many;
  few = g.few;
}

-- The pixel behind those that are counted is another.
pub stopped : {b : List ℕ} {at n x k : ℕ} → FirstOther b at n x k → k < n → get_or b (at + k) 0 ≡ x → ⊥
stopped f h e = f.stop h (record { is = e })

-- The run is ended where another colour follows in the row, where another row begins with another, and where no row follows.
closed : {b : List ℕ} {w x k m n r : ℕ} {c d : Cursor} → Running b w x k m c n r d → 0 < n → Other x (left b w d) → Closed b w x k m c n r d
closed {b} {w} {x} {k} {m} {n} {r} {c} {d} g s o = record {
  is = ap runs g.is ∙ runs_run x n r (left b w d) s o;
  some = s;
  many = omega (arith, g.many, at_most g.inside);
  few = g.few;
  further = g.further;
  inside = g.inside;
}

pub closed_row : {b : List ℕ} {w x k m n r : ℕ} {c d : Cursor} → (0 < n) × Running b w x k m c n r d → d.at < d.end → (get_or b d.at 0 ≡ x → ⊥) → Closed b w x k m c n r d
closed_row (s, g) h o = closed g s (other_in g.inside h o)

pub closed_next : {b : List ℕ} {w x k m n r : ℕ} {c d : Cursor} → Waiting b w x k m c n r d → d.next < length b → (get_or b d.next 0 ≡ x → ⊥) → Closed b w x k m c n r d
closed_next {b} {w} {x} {k} {m} {n} {r} {c} {d} g l o = elim (dec_le 1 n) [
  | yes h ↦ closed g.run h (other_next g.run.inside g.full l o)
  | no h ↦ absurd (o (g.next (omega arith)).1)
]

pub closed_over : {b : List ℕ} {w x k m n r : ℕ} {c d : Cursor} → Waiting b w x k m c n r d → length b ≤ d.next → Closed b w x k m c n r d
closed_over {b} {w} {x} {k} {m} {n} {r} {c} {d} g l = elim (dec_le 1 n) [
  | yes h ↦ closed g.run h (rw (left_over_lem g.run.inside g.full l) tt)
  | no h ↦ absurd (let z = g.next (omega arith) in omega arith)
]

-- Fewer pixels are behind the next row.
pub shorter : {b : List ℕ} {w : ℕ} {d e : Cursor} → Inside b w d → Entered b w d e → length b - e.end < length b - d.end
shorter {b} {w} {d} {e} i n = omega (arith, row_in n.inside, n.end, i.after, i.wide)

-- The count list.

-- A run is next.
closed_items : {b : List ℕ} {w x k m n r : ℕ} {c d e : Cursor} → Running b w x 0 0 c k m d → Closed b w x k m d n r e → Next b w c n r e
unfolding items_left listed begun
closed_items {b} {w} {x} {k} {m} {n} {r} {c} {d} {e} g h = record {
  items = ap (λ (ps : List Pixel). listed (runs ps)) g.is ∙ ap listed h.is;
  some = h.some;
  many = h.many;
  few = h.few;
  further = omega (arith, g.further, h.further, h.some);
  inside = h.inside;
}

-- The pixels of a run in its row: another colour follows there, or the row is full, and what goes on from there is the next run.
pub row_counted : {b : List ℕ} {w x n m : ℕ} {c d : Cursor} → Inside b w c → InRow b c x n m d → d.at < d.end → Next b w c n m d
row_counted i (full l o) h = absurd (omega arith)
row_counted {b} {w} {x} {n} {m} {c} i (some l f s) h = closed_items (running_none b w x c i) (closed_row (first_row i l f s) h (stopped f (omega arith)))

pub row_open : {b : List ℕ} {w x n m : ℕ} {c d : Cursor} → Inside b w c → InRow b c x n m d → d.end ≤ d.at → Open b w x n m d
row_open i (full l o) h = record { inside = i; full = h; before = λ e. absurd (omega arith); none = λ e. refl; next = λ e. (o, refl); many = omega arith; few = omega arith }
row_open i (some l f s) h = open_full (first_row i l f s) h

pub rows_counted : {b : List ℕ} {w x n m : ℕ} {c d : Cursor} (t : Count) → Inside b w c → InRow b c x n m d → Ended b w x n m d t → Next b w c t.length t.repeat t.cursor
rows_counted {b} {w} {x} {n} {m} {c} t i (full l o) e = closed_items (running_none b w x c i) e
rows_counted {b} {w} {x} {n} {m} {c} t i (some l f s) e = closed_items (first_row i l f s).1 e

-- Nothing is left.
pub items_done : (b : List ℕ) (w : ℕ) (c : Cursor) → left b w c ≡ [] → items_left b w c ≡ []
unfolding items_left listed runs
items_done b w c e = ap (λ (ps : List Pixel). listed (runs ps)) e
