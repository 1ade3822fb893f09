-- Rasters (01, Rasters): what the bytes of a raster are, and the pixels that they draw. No reader is mentioned.
-- Assumes nothing: these are definitions.
use Rattle.std.specs.Prelude.{ℕ, zero, suc, ◌+◌, ◌-◌, ◌*◌, ◌/◌, ◌%◌, ◌≤◌, ◌<◌, ◌≡◌, List, [], ◌∷◌, ◌++◌, Bool, true, false, cond, eqb, length, take, drop, replicate}
use Rattle.format.specs.Packed.{nybbles, encode}

-- Nybbles as items.

-- A run of n, a packed number; 14 and a packed number n, a repeat of n; 15, a repeat of 1.
pub data Item : Type 0 where
  run : ℕ → Item
  fourteen : ℕ → Item
  fifteen : Item

-- The nybbles of an item, and of items, for f.
unfoldable pub written : ℕ → Item → List ℕ
written f (run n) = encode f n
written f (fourteen n) = 14 ∷ encode f n
written f fifteen = 15 ∷ []

unfoldable pub writings : ℕ → List Item → List ℕ
writings f [] = []
writings f (i ∷ is) = written f i ++ writings f is

-- Packed numbers are at least 1: that of an item, and those of items.
abbrev pub Number : Item → Type 0
Number (run n) = 0 < n
Number (fourteen n) = 0 < n
Number fifteen = Unit {0}

abbrev pub AllNumbers : List Item → Type 0
AllNumbers [] = Unit {0}
AllNumbers (i ∷ is) = Number i × AllNumbers is

-- If the nybbles taken are odd in number, the spare half byte is zero.
unfoldable pub spare : ℕ → List ℕ
spare n = cond (eqb (n % 2) 1) (0 ∷ []) []

-- Items as rows of pixels, 0 white and 1 black.

-- The pixels of an item, its repeat if it is one, and the colour after it: runs change colour each time.
abbrev pub pixels_in : Item → ℕ
pixels_in (run n) = n
pixels_in (fourteen n) = 0
pixels_in fifteen = 0

abbrev pub repeat : Item → List ℕ
repeat (run n) = []
repeat (fourteen n) = n ∷ []
repeat fifteen = 1 ∷ []

abbrev pub turned : ℕ → Item → ℕ
turned c (run n) = 1 - c
turned c (fourteen n) = c
turned c fifteen = c

-- The joined string: the runs one after the other, the first in the colour c.
unfoldable pub string : ℕ → List Item → List ℕ
string c [] = []
string c (i ∷ is) = replicate (pixels_in i) c ++ string (turned c i) is

-- The repeats of row r of the string: a repeat belongs to the row that holds the first pixel of the next run. That is row
-- p / w where p pixels stand before it, so later rows of the same run have none.
unfoldable pub repeats : ℕ → ℕ → List Item → ℕ → List ℕ
repeats w p [] r = []
repeats w p (i ∷ is) r = cond (eqb (p / w) r) (repeat i) [] ++ repeats w (p + pixels_in i) is r

-- The string cut into k rows of w.
unfoldable pub rows : ℕ → ℕ → List ℕ → List (List ℕ)
rows w zero s = []
rows w (suc k) s = take w s ∷ rows w k (drop w s)

-- The sum of numbers.
unfoldable pub sum : List ℕ → ℕ
sum [] = 0
sum (n ∷ ns) = n + sum ns

-- The rows sent, where row r has the repeats `repeats_of r`: a full row is sent once, and once more for each repeat.
unfoldable pub sent : (ℕ → List ℕ) → List (List ℕ) → List (List ℕ)
sent repeats_of [] = []
sent repeats_of (row ∷ more) = replicate (suc (sum (repeats_of 0))) row ++ sent (λ r. repeats_of (suc r)) more

-- Rows joined without gaps.
unfoldable pub joined : List (List ℕ) → List ℕ
joined [] = []
joined (row ∷ more) = row ++ joined more

-- The pixels of items whose string is k rows.
unfoldable pub picture : ℕ → ℕ → ℕ → List Item → List ℕ
picture w black k is = joined (sent (repeats w 0 is) (rows w k (string black is)))

-- The width times height pixels are filled to the last one: the string s is k whole rows of w; no row has two repeats; each repeat
-- belongs to one of the k rows; and h rows are sent.
pub record Grid (w h k : ℕ) (repeats_of : ℕ → List ℕ) (s : List ℕ) : Type 0 where
  pub whole : length s ≡ k * w
  pub once : (r : ℕ) → length (repeats_of r) ≤ 1
  pub inside : (r : ℕ) → k ≤ r → repeats_of r ≡ []
  pub high : length (sent repeats_of (rows w k s)) ≡ h

-- With f from 0 to 13: the bytes are the items' nybbles and the spare one, and draw these pixels.
pub record RunRaster (f w h black : ℕ) (bytes drawn : List ℕ) : Type 0 where
  pub items : List Item
  pub numbers : AllNumbers items
  pub nybbles_are : nybbles bytes ≡ writings f items ++ spare (length (writings f items))
  pub k : ℕ
  pub grid : Grid w h k (repeats w 0 items) (string black items)
  pub drawn_is : drawn ≡ picture w black k items

-- Bits.

-- The bits of a byte, and of bytes, most significant first.
unfoldable pub bits_of : ℕ → List ℕ
bits_of b = b / 128 % 2 ∷ b / 64 % 2 ∷ b / 32 % 2 ∷ b / 16 % 2 ∷ b / 8 % 2 ∷ b / 4 % 2 ∷ b / 2 % 2 ∷ b % 2 ∷ []

unfoldable pub bits : List ℕ → List ℕ
bits [] = []
bits (b ∷ bs) = bits_of b ++ bits bs

-- The bytes that n bits take.
abbrev pub bytes_of_bits : ℕ → ℕ
bytes_of_bits n = (n + 7) / 8

-- With f = 14: the bits are the w × h pixels, rows joined without gaps, and the spare bits of the last byte, zero.
pub record BitRaster (w h : ℕ) (bytes drawn : List ℕ) : Type 0 where
  pub size : length drawn ≡ w * h
  pub spare : ℕ
  pub few : spare < 8
  pub bits_are : bits bytes ≡ drawn ++ replicate spare 0

-- Any raster.

-- A pixel's colour: 0 white, 1 black.
abbrev pub colour : Bool → ℕ
colour true = 1
colour false = 0

-- The bytes draw these pixels. With w = h = 0 there are no raster bytes in any case.
pub data Draws (f : ℕ) (black : Bool) (w h : ℕ) (bytes drawn : List ℕ) : Type 0 where
  blank : w ≡ 0 → h ≡ 0 → bytes ≡ [] → drawn ≡ [] → Draws f black w h bytes drawn
  in_bits : 0 < w → f ≡ 14 → BitRaster w h bytes drawn → Draws f black w h bytes drawn
  in_runs : 0 < w → f ≤ 13 → RunRaster f w h (colour black) bytes drawn → Draws f black w h bytes drawn
