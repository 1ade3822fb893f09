-- What is left of the count list at a cursor, and what the functions of this crate answer. Assumes nothing: these are definitions.
use Rattle.std.specs.Prelude.{ℕ, zero, suc, ◌+◌, ◌-◌, ◌*◌, ◌/◌, ◌≤◌, ◌<◌, ◌≡◌, List, [], ◌∷◌, ◌++◌, cond, eqb, Option, Some, None, length, take, drop, get_or, replicate}
use Rattle.format.specs.Rasters.{Item, run, rows}
use Rattle.format.specs.Counts.{row, kept, Pixel, pixel, placed, last_of, strung, stretch, runs, before, listed}
use Rattle.scan.specs.Scan.{FirstOther}
use Rattle.walk.specs.declared.Cursor.{Cursor}
use Rattle.walk.specs.declared.Count.{Count}

-- The rows of w pixels from a place on.
unfoldable pub rows_from : List ℕ → ℕ → ℕ → List (List ℕ)
rows_from b w at = rows w ((length b - at) / w) (drop at b)

-- The pixels xs of a row after the pixel p, with n repeats left to place, and the rows kept from the place `next` on.
unfoldable pub left_of : List ℕ → ℕ → ℕ → ℕ → ℕ → List ℕ → List Pixel
left_of b w next n p xs = placed p n xs ++ strung (last_of p xs) (kept (rows_from b w next))

-- What is left of the joined string at a cursor, and of the count list.
unfoldable pub left : List ℕ → ℕ → Cursor → List Pixel
left b w c = left_of b w c.next c.owed c.before (take (c.end - c.at) (drop c.at b))

unfoldable pub items_left : List ℕ → ℕ → Cursor → List Item
items_left b w c = listed (runs (left b w c))

-- A cursor in a bitmap of rows of w pixels.
pub record Inside (b : List ℕ) (w : ℕ) (c : Cursor) : Type 0 where
  pub wide : 0 < w
  pub small : length b ≤ 65536
  pub in_row : c.at ≤ c.end
  pub after : c.end ≤ c.next
  pub few : c.owed ≤ length b
  pub more_rows : ℕ
  pub whole : c.next + more_rows * w ≡ length b

-- A run of k with the repeat m before it is next, and d is the cursor after it.
pub record Next (b : List ℕ) (w : ℕ) (c : Cursor) (k m : ℕ) (d : Cursor) : Type 0 where
  pub items : items_left b w c ≡ before m (run k ∷ items_left b w d)
  pub some : 0 < k
  pub many : k ≤ length b
  pub few : m ≤ length b
  pub further : c.at < d.at
  pub inside : Inside b w d

-- The next run, or the end.
abbrev pub Counted : List ℕ → ℕ → Cursor → Option Count → Type 0
Counted b w c (Some r) = Next b w c r.length r.repeat r.cursor
Counted b w c None = items_left b w c ≡ []

-- Before the first pixel, after an imaginary white one.
abbrev pub begin : Cursor
begin = record { at = 0; end = 0; next = 0; owed = 0; before = 0 }

-- The inner functions.

-- A row begins at a place.
pub record RowAt (b : List ℕ) (w at : ℕ) : Type 0 where
  pub wide : 0 < w
  pub more : at < length b
  pub more_rows : ℕ
  pub whole : at + more_rows * w ≡ length b

-- The n rows under the row at a place are its repeats, and the next row kept is at `next`.
pub record Removal (b : List ℕ) (w at next n : ℕ) : Type 0 where
  pub is : kept (rows_from b w at) ≡ row (take w (drop at b)) n ∷ kept (rows_from b w next)
  pub after : at + w ≤ next
  pub few : n ≤ length b
  pub more_rows : ℕ
  pub whole : next + more_rows * w ≡ length b

-- The cursor d in the next row, where the row of c is full: the same is left.
pub record Entered (b : List ℕ) (w : ℕ) (c d : Cursor) : Type 0 where
  pub is : left b w c ≡ left b w d
  pub inside : Inside b w d
  pub before : d.before ≡ c.before
  pub at : d.at ≡ c.next
  pub end : d.end ≡ c.next + w

-- r is the repeat that stands before a pixel x, of those owed.
pub record Standing (x before owed r : ℕ) : Type 0 where
  pub is : r ≡ cond (eqb x before) 0 owed
  pub most : r ≤ owed

-- The cursor behind n pixels x of its row, with the repeat m before the first.
abbrev pub ahead : Cursor → ℕ → ℕ → ℕ → Cursor
ahead c x n m = record { at = c.at + n; end = c.end; next = c.next; owed = c.owed - m; before = x }

-- The first k pixels of a run of x, with the repeat m before it.
unfoldable pub begun : ℕ → ℕ → ℕ → List Pixel
begun x zero m = []
begun x (suc k) m = pixel x m ∷ replicate k (pixel x 0)

-- A run of x has k pixels where the row of c is full, or has none and the next row begins it.
pub record Open (b : List ℕ) (w x k m : ℕ) (c : Cursor) : Type 0 where
  pub inside : Inside b w c
  pub full : c.end ≤ c.at
  pub before : 0 < k → c.before ≡ x
  pub none : k ≡ 0 → m ≡ 0
  pub next : k ≡ 0 → (c.next < length b) × (get_or b c.next 0 ≡ x)
  pub many : k ≤ c.at
  pub few : m ≤ length b

-- The run of x that has k pixels before c has n in all, with the repeat r before it, and d is the cursor after it.
pub record Closed (b : List ℕ) (w x k m : ℕ) (c : Cursor) (n r : ℕ) (d : Cursor) : Type 0 where
  pub is : runs (begun x k m ++ left b w c) ≡ stretch x n r ∷ runs (left b w d)
  pub some : 0 < n
  pub many : n ≤ length b
  pub few : r ≤ length b
  pub further : c.at + n ≤ d.at + k
  pub inside : Inside b w d

-- The answer is such a run.
abbrev pub Ended : List ℕ → ℕ → ℕ → ℕ → ℕ → Cursor → Count → Type 0
Ended b w x k m c r = Closed b w x k m c r.length r.repeat r.cursor

-- The next run at c, of the colour x: n of its pixels are in the row, with the repeat m before them, and d is the cursor after them; or the row is full.
pub data InRow (b : List ℕ) (c : Cursor) : ℕ → ℕ → ℕ → Cursor → Type 0 where
  full : c.end ≤ c.at → c.next < length b → InRow b c (get_or b c.next 0) 0 0 c
  some : {n m : ℕ} → c.at < c.end → FirstOther b c.at (c.end - c.at) (get_or b c.at 0) n → Standing (get_or b c.at 0) c.before c.owed m → InRow b c (get_or b c.at 0) n m (ahead c (get_or b c.at 0) n m)
