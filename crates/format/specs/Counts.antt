-- The count list of a bitmap (01, What packing chooses). A bitmap is a list of rows, a row a list of pixels, 0 white and 1 black.
-- Assumes nothing: these are definitions.
use Rattle.std.specs.Prelude.{ℕ, zero, suc, ◌+◌, List, [], ◌∷◌, ◌++◌, Bool, cond, not, ◌&&◌, ◌||◌, eqb}
use Rattle.format.specs.Lists.{all, same}
use Rattle.format.specs.Rasters.{Item, run, fourteen, fifteen}

-- Rows kept.

-- Neither all black nor all white.
unfoldable pub mixed : List ℕ → Bool
mixed r = not (all 0 r || all 1 r)

-- A row kept, and how many rows under it are removed and counted as its repeats.
pub data Kept : Type 0 where
  row : List ℕ → ℕ → Kept

-- The row r above rows already kept: where the next is equal to r, and mixed, that one is removed and counted.
unfoldable pub above : List ℕ → List Kept → List Kept
above r [] = row r 0 ∷ []
above r (row s n ∷ ks) = cond (mixed r && same r s) (row r (n + 1) ∷ ks) (row r 0 ∷ row s n ∷ ks)

-- The rows kept of all rows.
unfoldable pub kept : List (List ℕ) → List Kept
kept [] = []
kept (r ∷ rs) = above r (kept rs)

-- The joined string.

-- A pixel of the joined string, and the repeat that stands before it, 0 for none.
pub data Pixel : Type 0 where
  pixel : ℕ → ℕ → Pixel

-- A row with n repeats, after the pixel p: they stand at the first place where a pixel differs from the one before it.
unfoldable pub placed : ℕ → ℕ → List ℕ → List Pixel
placed p n [] = []
placed p n (x ∷ xs) = pixel x (cond (eqb x p) 0 n) ∷ placed x (cond (eqb x p) n 0) xs

-- The last pixel of a row, or p if it has none.
unfoldable pub last_of : ℕ → List ℕ → ℕ
last_of p [] = p
last_of p (x ∷ xs) = last_of x xs

-- The rows kept, joined, after the pixel p.
unfoldable pub strung : ℕ → List Kept → List Pixel
strung p [] = []
strung p (row r n ∷ ks) = placed p n r ++ strung (last_of p r) ks

-- Runs and repeats.

-- A run: its colour, its length, and the repeat that stands before it, 0 for none.
pub data Run : Type 0 where
  stretch : ℕ → ℕ → ℕ → Run

-- A pixel before runs: the first run grows, or a new one begins. A repeat stands only where the colour changes, so none stands inside a run.
unfoldable pub grow : Pixel → List Run → List Run
grow (pixel x m) [] = stretch x 1 m ∷ []
grow (pixel x m) (stretch y k n ∷ rs) = cond (eqb x y) (stretch x (k + 1) m ∷ rs) (stretch x 1 m ∷ stretch y k n ∷ rs)

-- Runs of greatest length.
unfoldable pub runs : List Pixel → List Run
runs [] = []
runs (x ∷ xs) = grow x (runs xs)

-- A repeat before items: of 1 it is written 15.
unfoldable pub before : ℕ → List Item → List Item
before zero is = is
before (suc zero) is = fifteen ∷ is
before (suc (suc n)) is = fourteen (suc (suc n)) ∷ is

-- The items of runs.
unfoldable pub listed : List Run → List Item
listed [] = []
listed (stretch x k n ∷ rs) = before n (run k ∷ listed rs)

-- The imaginary pixel before the very first is white.
abbrev pub imaginary : ℕ
imaginary = 0

-- The count list.
unfoldable pub counts : List (List ℕ) → List Item
counts rows = listed (runs (strung imaginary (kept rows)))
