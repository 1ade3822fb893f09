-- Questions to the definitions, and their replies in 01's numbers: what the lists of examples are made of. Assumes nothing.
use Prim.Native.Nat.{ℕ, ◌+◌, ◌-◌, ◌%◌}
use mathlib.Core.Path.{◌≡◌}
use mathlib.Core.Bool.{cond}
use mathlib.Core.List.{List, [], ◌∷◌, ◌++◌, map}
use lib.IntN.{ℤ, pos, negsuc}
use lib.ListN.{length, replicate}
use Rattle.format.specs.Limits.{in_limits, within_limits, is_code}
use Rattle.format.specs.Lists.{all, elem, same}
use Rattle.format.specs.Refusals.{Told, says, refuses, told, lent, answers, ◌>>=◌, need, answer_at}
use Rattle.format.specs.Numbers.{bytes, held, twos, all_held, field_bytes}
use Rattle.format.specs.Decoding.{number, value_of, read_fields, Got, value, ends, mark, digits, zeros, shift, second, decode}
use Rattle.format.specs.Measures.{Scaled, scaled, Measures, to_scaled, whole_pixels, same_scaled}
use Rattle.format.specs.Pieces.{preamble_bytes, flag, fits, measures, bytes_of}
use Rattle.format.specs.Packed.{nybbles, hex, zeros_f, zeros_of, large, encode}
use Rattle.format.specs.Rasters.{written, writings, string, repeats, rows, sum, sent, joined, picture, bits_of, bits}
use Rattle.format.specs.Cut.{packets, codes}
use Rattle.format.specs.Reading.{number_of, run_at, repeat_at, item_of, after_run, after_repeat, after_item, finish, turn, walk, reading, bits_read, none_read, items}
use Rattle.format.specs.Verdict.{at_least, form_of, raster_at, packet_at, special_at, numeric_at, step, checked, or_else, prepend, is_nil, ending, next, onward_f, onward, preamble_at, begin, verdict, check}
use Rattle.format.specs.Drawing.{drawn_by, raster_pixels, pixels_of, find, drawn, draw_from, draw, draw_answer, draw_buffer}
use Rattle.format.specs.Counts.{mixed, above, kept, placed, last_of, strung, grow, runs, before, listed, counts}
use Rattle.format.specs.Choice.{nybble_count, least_of, fewest, chosen, halves, byte_of, bit_bytes, raster_of, first_black, in_form, holds, first_form, order}
use Rattle.format.specs.Packing.{all_pixels, choice_in, packet_for, packed, pack, pack_answer, pack_buffer}
use Rattle.format.specs.Listing.{Heading, heading_of, Entry, entries, entries_of}

pub data Question : Type 0 where
  -- the packed number that nybbles are, for f
  reads : ℕ → List ℕ → Question
  -- the nybbles of a number, for f
  writes : ℕ → ℕ → Question
  -- the nybbles over the count list of a bitmap of w × h, for f
  size : ℕ → ℕ → ℕ → List ℕ → Question
  -- the f that is chosen for a bitmap of w × h
  chooses : ℕ → ℕ → List ℕ → Question
  -- a font's number of characters
  checks : List ℕ → Question
  -- the character of a font's code, with a buffer of so many bytes
  draws : List ℕ → ℕ → ℕ → Question
  -- the packet of a bitmap with its measures, with a buffer of so many bytes
  packs : Measures → List ℕ → ℕ → Question
  -- a font's listing
  lists : List ℕ → Question
  -- what the two calls answer, and leave in a lent buffer
  draw_answers : List ℕ → ℕ → List ℕ → Question
  draw_leaves : List ℕ → ℕ → List ℕ → Question
  pack_answers : Measures → List ℕ → List ℕ → Question
  pack_leaves : Measures → List ℕ → List ℕ → Question

pub data Reply : Type 0 where
  it : ℕ → Reply
  list : List ℕ → Reply
  -- code, w, h, tfm, dx, dy, hoff, voff; the pixels
  character : List ℤ → List ℕ → Reply
  -- a number for each line of a listing: 0, 1, 2 for short, extended, long
  lines : List ℤ → Reply
  -- a refusal's number and place
  refusal : ℕ → ℕ → Reply
  nothing : Reply

unfoldable pub read_reply : Got → Reply
read_reply (value n []) = it n
read_reply (value n (x ∷ rest)) = nothing
read_reply ends = nothing
read_reply mark = nothing

unfoldable pub check_reply : Told ℕ → Reply
check_reply (says n) = it n
check_reply (refuses n place) = refusal n place

unfoldable pub count : Scaled → ℤ
count (scaled z) = z

unfoldable pub draw_reply : Told (Measures × List ℕ) → Reply
draw_reply (says t) =
    character (t.0.code ∷ t.0.w ∷ t.0.h ∷ t.0.tfm ∷ count t.0.dx ∷ count t.0.dy ∷ t.0.hoff ∷ t.0.voff ∷ []) t.1
draw_reply (refuses n place) = refusal n place

unfoldable pub pack_reply : Told (List ℕ) → Reply
pack_reply (says bytes) = list bytes
pack_reply (refuses n place) = refusal n place

-- The twelve lines of each entry.
unfoldable pub entry_lines : List Entry → List ℤ
entry_lines [] = []
entry_lines (e ∷ es) =
    pos e.at ∷ e.measures.code ∷ pos (order e.form) ∷ pos e.f ∷ cond e.black (pos 1) (pos 0) ∷ e.measures.tfm ∷ count e.measures.dx ∷ count e.measures.dy
    ∷ e.measures.w ∷ e.measures.h ∷ e.measures.hoff ∷ e.measures.voff ∷ entry_lines es

-- A number for each line.
unfoldable pub list_reply : Told (Heading × List Entry) → Reply
list_reply (says (h, es)) = lines (pos h.bytes ∷ h.ds ∷ h.cs ∷ h.hppp ∷ h.vppp ∷ pos h.chars ∷ entry_lines es)
list_reply (refuses n place) = refusal n place

-- The definitions' reply. All that they say computes where `reply` is unfolded.
unfoldable pub reply : Question → Reply
unfolding read_reply check_reply count draw_reply pack_reply entry_lines list_reply preamble_bytes entries in_limits within_limits is_code all elem same told answers ◌>>=◌ need answer_at bytes number held twos value_of all_held field_bytes read_fields to_scaled whole_pixels same_scaled flag fits measures bytes_of nybbles hex zeros_f zeros_of large encode digits zeros shift second decode written writings string repeats rows sum sent joined picture bits_of bits packets codes number_of run_at repeat_at item_of after_run after_repeat after_item finish turn walk reading bits_read none_read items at_least form_of raster_at packet_at special_at numeric_at step checked or_else prepend is_nil ending next onward_f onward preamble_at begin verdict check drawn_by raster_pixels pixels_of find drawn draw_from draw mixed above kept placed last_of strung grow runs before listed counts nybble_count least_of fewest chosen halves byte_of bit_bytes raster_of first_black in_form holds first_form all_pixels choice_in packet_for packed pack lent draw_answer draw_buffer pack_answer pack_buffer
reply (reads f xs) = read_reply (decode f xs)
reply (writes f n) = list (encode f n)
reply (size f w h b) = it (nybble_count (counts (rows w h b)) f)
reply (chooses w h b) = it (chosen w h (counts (rows w h b)))
reply (checks s) = check_reply (told (check s))
reply (draws s code room) = draw_reply (told (draw s code room))
reply (packs m b room) = pack_reply (told (pack b m room))
reply (lists s) = list_reply (told (answers (λ x. (heading_of s x, entries_of x)) (verdict s)))
reply (draw_answers s code buffer) = draw_reply (told (answers (λ m. (m, [])) (draw_answer s code buffer)))
reply (draw_leaves s code buffer) = list (draw_buffer s code buffer)
reply (pack_answers m b buffer) = check_reply (told (pack_answer b m buffer))
reply (pack_leaves m b buffer) = list (pack_buffer b m buffer)

-- The definitions give each of a list of replies.
abbrev pub Given : List (Question × Reply) → Type 0
Given es = map (λ (e : Question × Reply). reply e.0) es ≡ map (λ (e : Question × Reply). e.1) es

-- Fonts and measures to ask about.

-- The preamble of 01's listing.
abbrev pub preamble : List ℕ
preamble = 0xF7 ∷ 0x59 ∷ 0 ∷ 0 ∷ 0xA0 ∷ 0 ∷ 0 ∷ 0 ∷ 0 ∷ 4 ∷ 0xD2 ∷ 0 ∷ 4 ∷ 0x26 ∷ 0xAE ∷ 0 ∷ 4 ∷ 0x26 ∷ 0xAE ∷ []

-- A font: that preamble, pieces, and the ending with the fewest 246.
abbrev pub font : List ℕ → List ℕ
font pieces = preamble ++ (pieces ++ (0xF5 ∷ replicate ((4 - (20 + length pieces) % 4) % 4) 0xF6))

-- Code 4, w and h, and all else zero: as measures, and as a short packet with a flag and a raster.
abbrev pub plain : ℤ → ℤ → Measures
plain w h = record { code = pos 4; w = w; h = h; tfm = pos 0; dx = scaled (pos 0); dy = scaled (pos 0); hoff = pos 0; voff = pos 0 }

abbrev pub short : ℕ → ℕ → ℕ → List ℕ → List ℕ
short flag w h raster = flag ∷ (8 + length raster) ∷ 4 ∷ 0 ∷ 0 ∷ 0 ∷ 0 ∷ w ∷ h ∷ 0 ∷ 0 ∷ raster

-- The letter of source document 000, w 20 and h 29, its measures and its packet.
abbrev black : List ℕ
black = replicate 20 1

abbrev white : List ℕ
white = replicate 20 0

abbrev bar : List ℕ
bar = replicate 2 1 ++ replicate 16 0 ++ replicate 2 1

abbrev stems : List ℕ
stems = replicate 2 0 ++ replicate 2 1 ++ replicate 12 0 ++ replicate 2 1 ++ replicate 2 0

abbrev beam : List ℕ
beam = replicate 2 0 ++ replicate 16 1 ++ replicate 2 0

abbrev pub letter : List ℕ
letter =
    black ++ black ++ black ++ black ++ bar ++ bar ++ bar ++ white ++ white ++ stems ++ stems ++ stems ++ beam ++ beam ++ beam ++ beam
    ++ stems ++ stems ++ stems ++ white ++ white ++ white ++ bar ++ bar ++ bar ++ black ++ black ++ black ++ black

abbrev pub letter_measures : Measures
letter_measures =
    record { code = pos 4; w = pos 20; h = pos 29; tfm = pos 640796; dx = scaled (pos 1638400); dy = scaled (pos 0); hoff = negsuc 1; voff = pos 28 }

abbrev pub letter_packet : List ℕ
letter_packet =
    0x88 ∷ 0x1A ∷ 0x04 ∷ 0x09 ∷ 0xC7 ∷ 0x1C ∷ 0x19 ∷ 0x14 ∷ 0x1D ∷ 0xFE ∷ 0x1C ∷ 0xD9 ∷ 0xE2 ∷ 0x97 ∷ 0x2B ∷ 0x1E ∷ 0x22 ∷ 0x93 ∷ 0x24
    ∷ 0xE3 ∷ 0x97 ∷ 0x4E ∷ 0x22 ∷ 0x93 ∷ 0x2C ∷ 0x5E ∷ 0x22 ∷ 0x97 ∷ 0xD9 ∷ []
