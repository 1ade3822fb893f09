-- The refusals (01, Numbers given back): a name for each row of the table, its number and its place.
-- Assumes nothing: these are definitions.
use Rattle.std.specs.Prelude.{ℕ, List, ◌++◌, Bool, true, false, length, drop}

-- A name for each row, over it the case in which it is given.
pub data Refusal : Type 0 where
  -- font longer than 65,536 bytes
  too_long : Refusal
  -- font empty, or first byte not 247
  no_preamble : Refusal
  -- second byte present and not 89
  wrong_id : Refusal
  -- file ends inside a piece, or where a piece must begin
  file_ends : Refusal
  -- byte 247 to 255 where a command or packet begins
  no_piece : Refusal
  -- command length negative; packet length negative or below its own fixed fields
  bad_length : Refusal
  -- w, h outside the limits
  outside_limits : Refusal
  -- code in a packet, or handed in for packing, outside 0 to 255
  bad_code : Refusal
  -- code seen in an earlier packet
  code_twice : Refusal
  -- raster data ends while a nybble or bit is needed
  raster_ends : Refusal
  -- a run longer than the pixels left, or a repeat larger than the rows after the current one
  too_many : Refusal
  -- a second repeat for one row
  second_repeat : Refusal
  -- raster bytes left over, or spare nybble or bits not zero
  left_over : Refusal
  -- after 245 a byte other than 246, or file length no multiple of four
  bad_ending : Refusal
  -- 245 reached with no packet before it
  no_packet : Refusal
  -- accepted font lacks the code asked for (any code above 255 too)
  no_such_code : Refusal
  -- lent buffer too short for the result
  no_room : Refusal
  -- packing: w, h outside the limits
  bitmap_outside_limits : Refusal
  -- packing: bitmap length not w × h, or a byte other than 0 or 1
  bad_bitmap : Refusal
  -- packing: measures that no packet form holds
  no_form : Refusal

-- A call's answer: what it gives, or a refusal with the start of the piece at fault, which is 0 where no piece is.
pub data Answer (A : Type 0) : Type 0 where
  gives : A → Answer A
  refused : Refusal → ℕ → Answer A

-- The number and the place of each row; `at` is the start of the piece at fault, for 14 and 15 the 245.
abbrev pub number_and_place : Refusal → ℕ → ℕ × ℕ
number_and_place too_long at = (1, 0)
number_and_place no_preamble at = (2, 0)
number_and_place wrong_id at = (3, 0)
number_and_place file_ends at = (4, at)
number_and_place no_piece at = (5, at)
number_and_place bad_length at = (6, at)
number_and_place outside_limits at = (7, at)
number_and_place bad_code at = (8, at)
number_and_place code_twice at = (9, at)
number_and_place raster_ends at = (10, at)
number_and_place too_many at = (11, at)
number_and_place second_repeat at = (12, at)
number_and_place left_over at = (13, at)
number_and_place bad_ending at = (14, at)
number_and_place no_packet at = (15, at)
number_and_place no_such_code at = (16, 0)
number_and_place no_room at = (17, 0)
number_and_place bitmap_outside_limits at = (18, 0)
number_and_place bad_bitmap at = (19, 0)
number_and_place no_form at = (20, 0)

-- An answer in 01's numbers: what it says, or a refusal's number and place.
pub data Told (A : Type 0) : Type 0 where
  says : A → Told A
  refuses : ℕ → ℕ → Told A

unfoldable pub told : {A : Type 0} → Answer A → Told A
told (gives a) = says a
told (refused x at) = refuses (number_and_place x at).0 (number_and_place x at).1

-- What a call answers of all that it gives.
unfoldable pub answers : {A B : Type 0} → (A → B) → Answer A → Answer B
answers f (gives a) = gives (f a)
answers f (refused x at) = refused x at

-- A lent buffer afterwards: bytes that the call gives fill its first bytes, bytes beyond stay, and no refusal writes to it.
unfoldable pub lent : {A : Type 0} → (A → List ℕ) → Answer A → List ℕ → List ℕ
lent bytes (gives a) buffer = bytes a ++ drop (length (bytes a)) buffer
lent bytes (refused x at) buffer = buffer

-- An answer whose place is not yet known: a value, or the refusal.
pub data Result (A : Type 0) : Type 0 where
  ok : A → Result A
  fault : Refusal → Result A

-- One after the other: the first refusal is the one given.
infixl 20 ◌>>=◌
unfoldable pub ◌>>=◌ : {A B : Type 0} → Result A → (A → Result B) → Result B
◌>>=◌ (ok a) f = f a
◌>>=◌ (fault x) f = fault x

-- A refusal unless the test holds.
unfoldable pub need : Bool → Refusal → Result (Unit {0})
need true x = ok tt
need false x = fault x

-- The answer of what stands at a place.
unfoldable pub answer_at : {A : Type 0} → ℕ → Result A → Answer A
answer_at place (ok a) = gives a
answer_at place (fault x) = refused x place
