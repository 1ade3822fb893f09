-- What the functions of the size pass answer. Assumes nothing: these are definitions.
use Rattle.std.specs.Prelude.{ℕ, ◌+◌, ◌*◌, ◌≤◌, ◌<◌, ◌≡◌, List, cond, ltb, length, get_or}
use Rattle.format.specs.Packed.{limit}
use Rattle.format.specs.Rasters.{Item, rows}
use Rattle.format.specs.Counts.{counts}
use Rattle.format.specs.Choice.{nybble_count, chosen, raster_of}
use Rattle.walk.specs.Walk.{items_left, begin}
use Rattle.part.specs.declared.Part.{Part}
use Rattle.part.specs.Parts.{First}
use Rattle.size.specs.declared.Chosen.{Chosen}

-- r is n, and at most `most`.
pub record Few (n most r : ℕ) : Type 0 where
  pub is : r ≡ n
  pub few : r ≤ most

-- 1 if n is above the most, else 0.
unfoldable pub over : ℕ → ℕ → ℕ
over most n = cond (ltb most n) 1 0

-- The nybbles of a number n for f up to the third: one, one more above f, and one more above the limit.
abbrev pub short_nybbles : ℕ → ℕ → ℕ
short_nybbles f n = 1 + over f n + over (limit f) n

-- Those from the fourth on: two for each hexadecimal digit of n − M + 15 from the third on.
abbrev pub digit_nybbles : ℕ → ℕ → ℕ
digit_nybbles f n = 2 * (over (limit f + 240) n + over (limit f + 4080) n + over (limit f + 65520) n)

-- Fourteen totals, each at most n.
pub record Totals (n : ℕ) (t : List ℕ) : Type 0 where
  pub long : length t ≡ 14
  pub small : (f : ℕ) → f < 14 → get_or t f 0 ≤ n

-- The total for f is as much more as P says.
pub record More (t : List ℕ) (P : ℕ → ℕ → Type 0) (r : List ℕ) (f : ℕ) : Type 0 where
  pub more : ℕ
  pub says : P f more
  pub is : get_or r f 0 ≡ get_or t f 0 + more

-- The totals r are the totals t, each with as much more as P says.
pub record Added (t : List ℕ) (P : ℕ → ℕ → Type 0) (r : List ℕ) : Type 0 where
  pub long : length r ≡ 14
  pub each : (f : ℕ) → f < 14 → More t P r f

-- The totals r are the totals t, each with as many nybbles more as g says.
pub record Grown (t : List ℕ) (g : ℕ → ℕ) (r : List ℕ) : Type 0 where
  pub long : length r ≡ 14
  pub is : (f : ℕ) → f < 14 → get_or r f 0 ≡ get_or t f 0 + g f

-- The fourteen sizes of a list of items.
abbrev pub Sizes : List Item → List ℕ → Type 0
Sizes is r = (f : ℕ) → f < 14 → (get_or r f 0 ≡ nybble_count is f) × (get_or r f 0 ≤ 2000000)

-- The totals r are the sizes of the count list. A first part p with room for more stays as it is; what is kept afterwards, q, is the whole
-- list if it has room for more.
pub record Sized (b : List ℕ) (w : ℕ) (p : Part) (r : List ℕ) (q : Part) : Type 0 where
  pub sizes : Sizes (items_left b w begin) r
  pub stays : p.n < 512 → q ≡ p
  pub first : First b w q

-- best is the place of the least of the first n, the last of equal ones.
pub record Best (t : List ℕ) (n best : ℕ) : Type 0 where
  pub inside : best < n
  pub least : (k : ℕ) → k < n → get_or t best 0 ≤ get_or t k 0
  pub last : (k : ℕ) → best < k → k < n → get_or t best 0 < get_or t k 0

-- The f that 01 chooses for the bitmap b of w by h pixels, and the number of its raster bytes.
pub record IsChosen (w h : ℕ) (b : List ℕ) (r : Chosen) : Type 0 where
  pub f : r.f ≡ chosen w h (counts (rows w h b))
  pub bytes : r.bytes ≡ length (raster_of r.f (counts (rows w h b)) b)
  pub most : r.bytes ≤ 8192
