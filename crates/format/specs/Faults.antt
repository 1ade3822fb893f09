-- What a font's refusal means (01, Numbers given back, rows 1 to 15): the case of its row holds at its place, and everything before
-- that place is in order. Of the reader only this is used: a packet's form and the values of its fixed fields, the value of a command's
-- length; the state within a raster and where an item leads.
-- Assumes nothing: these are definitions.
use Rattle.std.specs.Prelude.{ℕ, ◌+◌, ◌-◌, ◌*◌, ◌/◌, ◌%◌, ◌≤◌, ◌<◌, ◌≡◌, List, [], ◌∷◌, ◌++◌, ◌⊎◌, true, false, pos, length, take, drop}
use Rattle.format.specs.Limits.{most, in_limits, within_limits, is_code}
use Rattle.format.specs.Lists.{all, elem}
use Rattle.format.specs.Refusals.{Refusal, too_long, no_preamble, wrong_id, file_ends, no_piece, bad_length, outside_limits, bad_code, code_twice, raster_ends, too_many, second_repeat, left_over, bad_ending, no_packet, ok}
use Rattle.format.specs.Numbers.{size}
use Rattle.format.specs.Pieces.{Preamble, preamble_bytes, PreambleOk, kinds, fixed, Piece, length_kind}
use Rattle.format.specs.Packed.{nybbles}
use Rattle.format.specs.Rasters.{Item, run, fourteen, fifteen, Number, written, bits, bytes_of_bits}
use Rattle.format.specs.Cut.{flat, AllOk, packets, AllFilled, codes, Distinct}
use Rattle.format.specs.Decoding.{number, value_of, read_fields}
use Rattle.format.specs.Reading.{State, start, pixels_left, after_item}
use Rattle.format.specs.Verdict.{at_least, form_of, Header, header}

-- A packet at the front.

-- What the fixed fields behind a flag b say.
abbrev pub said : ℕ → List ℕ → Header
said b t = header (form_of b) b (read_fields (kinds (form_of b)) t)

-- A packet with the flag b stands there, with these raster bytes: its fixed part is whole, its length counts from the first tfm byte and
-- reaches to the last raster byte, and that is inside the file.
pub record Stands (b : ℕ) (t raster : List ℕ) : Type 0 where
  pub flag : b < 240
  pub says : (said b t).length ≡ pos (fixed (form_of b) + length raster)
  pub inside : size (kinds (form_of b)) + length raster ≤ length t
  pub bytes : raster ≡ take (length raster) (drop (size (kinds (form_of b))) t)

-- Besides, w and h are within the limits,
pub record Sized (b : ℕ) (t raster : List ℕ) (w h : ℕ) : Type 0 where
  pub stands : Stands b t raster
  pub width : (said b t).w ≡ pos w
  pub height : (said b t).h ≡ pos h
  pub limits : in_limits w h ≡ true

-- and the code is from 0 to 255.
pub record Coded (b : ℕ) (t raster : List ℕ) (w h c : ℕ) : Type 0 where
  pub sized : Sized b t raster w h
  pub code : (said b t).code ≡ pos c
  pub range : is_code (pos c) ≡ true

-- 4: file ends inside a piece, or where a piece must begin.

pub data Ends : List ℕ → Type 0 where
  -- where a piece must begin
  nothing : Ends []
  -- inside a packet's fixed part, or inside its raster
  in_fixed : {b : ℕ} {t : List ℕ} → b < 240 → length t < size (kinds (form_of b)) → Ends (b ∷ t)
  in_raster : {b : ℕ} {t : List ℕ} (n : ℕ) → b < 240 → size (kinds (form_of b)) ≤ length t → (said b t).length ≡ pos (fixed (form_of b) + n)
      → length t < size (kinds (form_of b)) + n → Ends (b ∷ t)
  -- inside the k bytes of a command's length, inside its body, or inside the four bytes of 244
  in_length : {b : ℕ} {t : List ℕ} (k : ℕ) → 1 ≤ k → k ≤ 4 → b ≡ 239 + k → length t < k → Ends (b ∷ t)
  in_body : {b : ℕ} {t : List ℕ} (k n : ℕ) → 1 ≤ k → k ≤ 4 → b ≡ 239 + k → k ≤ length t → value_of (length_kind k) (number k t) ≡ pos n
      → length t < k + n → Ends (b ∷ t)
  in_four : {t : List ℕ} → length t < 4 → Ends (244 ∷ t)

-- 6: command length negative; packet length negative or below its own fixed fields.

pub data BadLength : List ℕ → Type 0 where
  -- a command's is negative
  of_command : {b : ℕ} {t : List ℕ} (k : ℕ) → 1 ≤ k → k ≤ 4 → b ≡ 239 + k → k ≤ length t → at_least 0 (value_of (length_kind k) (number k t)) ≡ false → BadLength (b ∷ t)
  -- a packet's is negative, or below its own fixed fields
  of_packet : {b : ℕ} {t : List ℕ} → b < 240 → size (kinds (form_of b)) ≤ length t → at_least (fixed (form_of b)) (said b t).length ≡ false → BadLength (b ∷ t)

-- 10 to 13: the raster.

-- A row that has had a repeat has no other.
abbrev pub Allowed : Item → State → Type 0
Allowed (run n) s = Unit {0}
Allowed (fourteen n) s = s.repeat ≡ 0
Allowed fifteen s = s.repeat ≡ 0

-- An item that may stand at the front of the nybbles xs, with the nybbles behind it.
pub record First (f : ℕ) (s : State) (xs : List ℕ) (i : Item) (rest : List ℕ) : Type 0 where
  pub number : Number i
  pub allowed : Allowed i s
  pub nybbles : xs ≡ written f i ++ rest

-- Items that are in order lead from a state, and the nybbles there, to another; less than h rows are full before each.
pub data Leads (f w h : ℕ) : State → List ℕ → State → List ℕ → Type 0 where
  none : {s : State} {xs : List ℕ} → Leads f w h s xs s xs
  more : {s t u : State} {xs rest ys : List ℕ} (i : Item) → s.row < h → First f s xs i rest → after_item w h i s ≡ ok t
      → Leads f w h t rest u ys → Leads f w h s xs u ys

-- The nybbles end while one is needed: they are the beginning of an item that may stand there, and not all of it.
pub record Unfinished (f : ℕ) (s : State) (xs : List ℕ) : Type 0 where
  pub item : Item
  pub lacking : List ℕ
  pub first : First f s (xs ++ lacking) item []
  pub some : 0 < length lacking

-- More than there is room for: the pixels left for a run, the rows after the current one for a repeat.
abbrev pub Over : ℕ → ℕ → Item → State → Type 0
Over w h (run n) s = pixels_left w h s < n
Over w h (fourteen n) s = h - s.row - 1 < n
Over w h fifteen s = h - s.row - 1 < 1

-- A 14 or 15 in a row that has had one, or where the number behind a 14 must begin.
pub data Second (s : State) : List ℕ → Type 0 where
  in_row : {x : ℕ} {xs : List ℕ} → 14 ≤ x → 0 < s.repeat → Second s (x ∷ xs)
  for_number : {x : ℕ} {xs : List ℕ} → 14 ≤ x → Second s (14 ∷ x ∷ xs)

-- Where the items in order end, the nybbles xs are at fault: over each case its row.
pub data Fault (f w h : ℕ) (s : State) (xs : List ℕ) : Refusal → Type 0 where
  -- 10: raster data ends while a nybble is needed
  unfinished : s.row < h → Unfinished f s xs → Fault f w h s xs raster_ends
  -- 11: a run longer than the pixels left, or a repeat larger than the rows after the current one
  over : (i : Item) (rest : List ℕ) → s.row < h → First f s xs i rest → Over w h i s → Fault f w h s xs too_many
  -- 12: a second repeat for one row
  another : s.row < h → Second s xs → Fault f w h s xs second_repeat
  -- 13: raster bytes left over, or spare nybble not zero
  left : h ≤ s.row → (xs ≡ [] → ⊥) → (xs ≡ 0 ∷ [] → ⊥) → Fault f w h s xs left_over

-- The raster bytes are at fault.
pub data RasterFault (f w h : ℕ) (bytes : List ℕ) : Refusal → Type 0 where
  -- 10 to 13: at a nybble, behind items in order
  in_items : {x : Refusal} (s : State) (xs : List ℕ) → 0 < w → f ≤ 13 → Leads f w h start (nybbles bytes) s xs → Fault f w h s xs x → RasterFault f w h bytes x
  -- 10: raster data ends while a bit is needed
  few_bytes : 0 < w → f ≡ 14 → length bytes < bytes_of_bits (w * h) → RasterFault f w h bytes raster_ends
  -- 13: raster bytes left over
  many_bytes : 0 < w → f ≡ 14 → bytes_of_bits (w * h) < length bytes → RasterFault f w h bytes left_over
  -- 13: spare bits not zero
  spare_bits : 0 < w → f ≡ 14 → length bytes ≡ bytes_of_bits (w * h) → all 0 (drop (w * h) (bits bytes)) ≡ false → RasterFault f w h bytes left_over
  -- 13: raster bytes left over, where w = h = 0
  none_wanted : w ≡ 0 → h ≡ 0 → 0 < length bytes → RasterFault f w h bytes left_over

-- The piece at a place.

-- The bytes s from a place on, behind packets with these codes, are at fault. A packet's 7, 8, 9 and raster faults come in that order,
-- and at the 245 comes 15 before 14.
pub data PieceFault (place : ℕ) (seen : List ℕ) : List ℕ → Refusal → Type 0 where
  -- 4: file ends inside a piece, or where a piece must begin
  file_ends_here : {s : List ℕ} → Ends s → PieceFault place seen s file_ends
  -- 5: byte 247 to 255 where a command or packet begins
  none_such : {b : ℕ} {t : List ℕ} → 247 ≤ b → PieceFault place seen (b ∷ t) no_piece
  -- 6: command length negative; packet length negative or below its own fixed fields
  wrong_length : {s : List ℕ} → BadLength s → PieceFault place seen s bad_length
  -- 7: w, h outside the limits
  limits : {b : ℕ} {t raster : List ℕ} → Stands b t raster → within_limits (said b t).w (said b t).h ≡ false → PieceFault place seen (b ∷ t) outside_limits
  -- 8: code in a packet outside 0 to 255
  code : {b w h : ℕ} {t raster : List ℕ} → Sized b t raster w h → is_code (said b t).code ≡ false → PieceFault place seen (b ∷ t) bad_code
  -- 9: code seen in an earlier packet
  twice : {b w h c : ℕ} {t raster : List ℕ} → Coded b t raster w h c → elem c seen ≡ true → PieceFault place seen (b ∷ t) code_twice
  -- 10 to 13: the raster
  bad_raster : {b w h c : ℕ} {t raster : List ℕ} {x : Refusal} → Coded b t raster w h c → elem c seen ≡ false → RasterFault (b / 16) w h raster x
      → PieceFault place seen (b ∷ t) x
  -- 15: 245 reached with no packet before it
  none_before : {t : List ℕ} → seen ≡ [] → PieceFault place seen (245 ∷ t) no_packet
  -- 14: after 245 a byte other than 246, or file length no multiple of four
  bad_end : {t : List ℕ} → (seen ≡ [] → ⊥) → (all 246 t ≡ false) ⊎ ((place + 1 + length t) % 4 ≡ 0 → ⊥) → PieceFault place seen (245 ∷ t) bad_ending

-- The font.

-- The preamble is cut short.
pub data PreambleEnds : List ℕ → Type 0 where
  one : PreambleEnds (247 ∷ [])
  two : PreambleEnds (247 ∷ 89 ∷ [])
  some : {k : ℕ} {t : List ℕ} → length t < k + 16 → PreambleEnds (247 ∷ 89 ∷ k ∷ t)

-- Up to a place the font s is a preamble and pieces that 01 allows, and the piece there is at fault.
pub record Blames (s : List ℕ) (x : Refusal) (place : ℕ) : Type 0 where
  pub preamble : Preamble
  pub before : List Piece
  pub rest : List ℕ
  pub whole : s ≡ preamble_bytes preamble ++ (flat before ++ rest)
  pub small : length s ≤ most
  pub at : place ≡ length (preamble_bytes preamble ++ flat before)
  pub allowed : PreambleOk preamble × AllOk before
  pub filled : AllFilled (packets before)
  pub distinct : Distinct (codes (packets before))
  pub fault : PieceFault place (codes (packets before)) rest x

-- What each refusal of a font means: over each case its row.
pub data Means (s : List ℕ) : Refusal → ℕ → Type 0 where
  -- 1: font longer than 65,536 bytes
  over_long : most < length s → Means s too_long 0
  -- 2: font empty
  empty : s ≡ [] → Means s no_preamble 0
  -- 2: first byte not 247
  first_byte : {b : ℕ} {t : List ℕ} → s ≡ b ∷ t → length s ≤ most → (b ≡ 247 → ⊥) → Means s no_preamble 0
  -- 3: second byte present and not 89
  second_byte : {b : ℕ} {t : List ℕ} → s ≡ 247 ∷ b ∷ t → length s ≤ most → (b ≡ 89 → ⊥) → Means s wrong_id 0
  -- 4: file ends inside a piece, which is the preamble
  cut_short : length s ≤ most → PreambleEnds s → Means s file_ends 0
  -- 4 to 15: the piece at a place
  at_piece : {x : Refusal} {place : ℕ} → Blames s x place → Means s x place
