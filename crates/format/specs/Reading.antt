-- A raster's items, or its first refusal, as its nybbles are taken in order (01, Numbers given back: 10 to 13). Assumes nothing: these are definitions.
use Rattle.std.specs.Prelude.{ℕ, zero, suc, ◌+◌, ◌-◌, ◌*◌, ◌/◌, ◌≡◌, List, [], ◌∷◌, cond, eqb, leb, ltb, length, drop}
use Rattle.format.specs.Lists.{all}
use Rattle.format.specs.Refusals.{raster_ends, too_many, second_repeat, left_over, Result, ok, fault, ◌>>=◌, need}
use Rattle.format.specs.Packed.{nybbles}
use Rattle.format.specs.Decoding.{Got, value, ends, mark, decode}
use Rattle.format.specs.Rasters.{Item, run, fourteen, fifteen, bits, bytes_of_bits}

-- One item.

-- A packed number is read whole: 10 where the nybbles end. A 14 or 15 where it must begin is 12.
unfoldable pub number_of : Got → Result (ℕ × List ℕ)
number_of (value n rest) = ok (n, rest)
number_of ends = fault raster_ends
number_of mark = fault second_repeat

-- A run.
unfoldable pub run_at : ℕ → List ℕ → Result (Item × List ℕ)
run_at f xs = do
  (n, rest) ← number_of (decode f xs)
  ok (run n, rest)

-- A repeat, after its nybble x, 14 or 15.
unfoldable pub repeat_at : ℕ → ℕ → List ℕ → Result (Item × List ℕ)
repeat_at f x xs = cond (eqb x 15) (ok (fifteen, xs)) do
  (n, rest) ← number_of (decode f xs)
  ok (fourteen n, rest)

-- The next item, and the nybbles after it. A second repeat for the row gives 12 at its 14 or 15, before any number.
unfoldable pub item_of : ℕ → ℕ → List ℕ → Result (Item × List ℕ)
item_of f rep [] = fault raster_ends
item_of f rep (x ∷ xs) = cond (ltb x 14) (run_at f (x ∷ xs)) (cond (ltb 0 rep) (fault second_repeat) (repeat_at f x xs))

-- Where it leads.

-- The column and the row that come next, and the repeat that the row has had: 0 for none.
pub record State : Type 0 where
  pub column : ℕ
  pub row : ℕ
  pub repeat : ℕ

-- At first.
abbrev pub start : State
start = record { column = 0; row = 0; repeat = 0 }

-- The pixels left: the rest of the current row and the rows after it that its repeat does not fill.
abbrev pub pixels_left : ℕ → ℕ → State → ℕ
pixels_left w h s = (w - s.column) + (h - s.row - s.repeat - 1) * w

-- The row is full: it and its repeats are behind.
abbrev pub row_end : ℕ → State → State
row_end w s = record { column = s.column - w; row = s.row + s.repeat + 1; repeat = 0 }

-- So q times.
abbrev pub row_ends : ℕ → ℕ → State → State
row_ends w zero s = s
row_ends w (suc q) s = row_ends w q (row_end w s)

-- n pixels further, and with a repeat of n for the row.
abbrev pub advanced : ℕ → State → State
advanced n s = record { column = s.column + n; row = s.row; repeat = s.repeat }

abbrev pub with_repeat : ℕ → State → State
with_repeat n s = record { column = s.column; row = s.row; repeat = n }

-- A run of n, no longer than the pixels left, fills (column + n) / w rows.
unfoldable pub after_run : ℕ → ℕ → ℕ → State → Result State
after_run w h n s = cond (leb n (pixels_left w h s)) (ok (row_ends w ((s.column + n) / w) (advanced n s))) (fault too_many)

-- A repeat of n, no larger than the rows after the current one.
unfoldable pub after_repeat : ℕ → ℕ → State → Result State
after_repeat h n s = cond (leb n (h - s.row - 1)) (ok (with_repeat n s)) (fault too_many)

-- After an item.
unfoldable pub after_item : ℕ → ℕ → Item → State → Result State
after_item w h (run n) s = after_run w h n s
after_item w h (fourteen n) s = after_repeat h n s
after_item w h fifteen s = after_repeat h 1 s

-- All items.

-- Reading stops when h rows are full: nothing is left, or the spare nybble, zero.
unfoldable pub finish : List ℕ → Result (List Item)
finish [] = ok []
finish (zero ∷ []) = ok []
finish (zero ∷ x ∷ xs) = fault left_over
finish (suc x ∷ xs) = fault left_over

-- One turn: the next item, the state after it, the nybbles left.
unfoldable pub turn : ℕ → ℕ → ℕ → State → List ℕ → Result (Item × State × List ℕ)
turn f w h s xs = do
  (i, rest) ← item_of f s.repeat xs
  s' ← after_item w h i s
  ok (i, s', rest)

-- The items up to h full rows. g bounds their number: the number of nybbles is enough.
unfoldable pub walk : ℕ → ℕ → ℕ → ℕ → State → List ℕ → Result (List Item)
walk zero f w h s xs = cond (leb h s.row) (finish xs) (fault raster_ends)
walk (suc g) f w h s xs =
    cond (leb h s.row) (finish xs) do
      (i, s', rest) ← turn f w h s xs
      is ← walk g f w h s' rest
      ok (i ∷ is)

-- With f from 0 to 13.
unfoldable pub reading : ℕ → ℕ → ℕ → List ℕ → Result (List Item)
reading f w h bytes = walk (length (nybbles bytes)) f w h start (nybbles bytes)

-- With f = 14, n bits in k bytes: too few bytes, too many, or spare bits of the last byte that are not zero. There are no items.
unfoldable pub bits_read : ℕ → ℕ → List ℕ → Result (List Item)
bits_read n k bytes = do
  _ ← need (leb k (length bytes)) raster_ends
  _ ← need (leb (length bytes) k) left_over
  _ ← need (all 0 (drop n (bits bytes))) left_over
  ok []

-- With w = h = 0: no raster bytes in any case.
unfoldable pub none_read : List ℕ → Result (List Item)
none_read [] = ok []
none_read (b ∷ bytes) = fault left_over

-- The items of any raster, none for bits and for w = h = 0; or its first fault.
unfoldable pub items : ℕ → ℕ → ℕ → List ℕ → Result (List Item)
items f zero h bytes = none_read bytes
items f (suc w) h bytes =
    cond (eqb f 14) (bits_read (suc w * h) (bytes_of_bits (suc w * h)) bytes) (reading f (suc w) h bytes)

-- The raster is read whole.
abbrev pub ReadWhole : ℕ → ℕ → ℕ → List ℕ → Type 0
ReadWhole f w h bytes = (is : List Item) × (items f w h bytes ≡ ok is)
