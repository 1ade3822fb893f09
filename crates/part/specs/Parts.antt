-- The items that a part keeps, and what the functions of this crate answer. Assumes nothing: these are definitions.
use Rattle.std.specs.Prelude.{ℕ, ◌+◌, ◌≤◌, ◌<◌, ◌≡◌, List, [], ◌∷◌, ◌++◌, take, All}
use Rattle.format.specs.Rasters.{Item, run}
use Rattle.format.specs.Counts.{before}
use Rattle.walk.specs.declared.Cursor.{Cursor}
use Rattle.walk.specs.Walk.{items_left, Inside, begin}
use Rattle.part.specs.declared.Run.{Run}
use Rattle.part.specs.declared.Part.{Part}

-- The items of some runs, each with the repeat before it, 0 for none.
unfoldable pub kept : List Run → List Item
kept [] = []
kept (r ∷ rs) = before r.repeat (run r.length ∷ []) ++ kept rs

-- A run has a pixel, and neither its length nor its repeat is more than a bitmap holds.
pub record Small (r : Run) : Type 0 where
  pub some : 1 ≤ r.length
  pub many : r.length ≤ 65536
  pub few : r.repeat ≤ 65536

-- The runs of a part.
abbrev pub taken : Part → List Run
taken p = take p.n p.runs

-- The items left at c are those kept, and those left at the cursor behind them.
pub record Walked (b : List ℕ) (w : ℕ) (c : Cursor) (p : Part) : Type 0 where
  pub items : items_left b w c ≡ kept (taken p) ++ items_left b w p.cursor
  pub most : p.n ≤ 512
  pub runs : All Small (taken p)
  pub further : c.at + p.n ≤ p.cursor.at
  pub inside : Inside b w p.cursor

-- So many are kept that there is room for no more, or nothing is left.
pub record Kept (b : List ℕ) (w : ℕ) (c : Cursor) (p : Part) : Type 0 where
  pub walked : Walked b w c p
  pub over : p.n < 512 → items_left b w p.cursor ≡ []

-- If p has room for more, it is the whole count list.
pub record First (b : List ℕ) (w : ℕ) (p : Part) : Type 0 where
  pub whole : p.n < 512 → Kept b w begin p
