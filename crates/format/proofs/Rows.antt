-- Examples that pin the definitions: each row of 01's table of refusals with its place, the order of the checks, packets in any order,
-- the signs of fields, large numbers, and lent buffers. One list, one statement.
-- Assumes nothing.
use Prim.Native.Nat.{ℕ}
use mathlib.Core.Path.{refl}
use mathlib.Core.List.{List, [], ◌∷◌, ◌++◌}
use lib.IntN.{ℤ, pos, negsuc}
use lib.ListN.{take, drop, replicate}
use Rattle.format.specs.Measures.{scaled, Measures}
use Rattle.format.proofs.Questions.{Question, checks, draws, packs, lists, draw_answers, draw_leaves, pack_answers, pack_leaves, Reply, it, list, character, lines, refusal, reply, Given, preamble, font, plain, short, letter, letter_measures, letter_packet}

-- A long packet with f = 14: its length, code, w and h in four bytes each, all else zero.
abbrev long : List ℕ → List ℕ → List ℕ → List ℕ → List ℕ → List ℕ
long n code w h raster = 0xE7 ∷ (n ++ (code ++ (replicate 12 0 ++ (w ++ (h ++ (replicate 8 0 ++ raster))))))

abbrev four : ℕ → ℕ → ℕ → ℕ → List ℕ
four a b c d = a ∷ b ∷ c ∷ d ∷ []

-- The letter's measures with other escapements, and with another code and dx.
abbrev moving : ℤ → ℤ → Measures
moving dx dy =
    record { code = pos 4; w = pos 20; h = pos 29; tfm = pos 640796; dx = scaled dx; dy = scaled dy; hoff = negsuc 1; voff = pos 28 }

abbrev coded : ℤ → ℤ → Measures
coded code dx =
    record { code = code; w = pos 20; h = pos 29; tfm = pos 640796; dx = scaled dx; dy = scaled (pos 0); hoff = negsuc 1; voff = pos 28 }

-- The letter's packet in the long form, with dx of 1638401 and dy of −1.
abbrev long_letter : List ℕ → List ℕ
long_letter raster =
    0x8F ∷ (four 0 0 0 46 ++ (four 0 0 0 4 ++ (four 0 9 0xC7 0x1C ++ (four 0 0x19 0 1 ++ (four 255 255 255 255
    ++ (four 0 0 0 20 ++ (four 0 0 0 29 ++ (four 255 255 255 254 ++ (four 0 0 0 28 ++ raster)))))))))

-- A black pixel of code 3: its packet, and what it draws.
abbrev dot_packet : List ℕ
dot_packet = 0xD8 ∷ 9 ∷ 3 ∷ 0 ∷ 0 ∷ 0 ∷ 0 ∷ 1 ∷ 1 ∷ 0 ∷ 0 ∷ 0x10 ∷ []

abbrev dot : ℕ → Reply
dot code = character (pos code ∷ pos 1 ∷ pos 1 ∷ pos 0 ∷ pos 0 ∷ pos 0 ∷ pos 0 ∷ pos 0 ∷ []) (1 ∷ [])

-- A row of ten black and ten white pixels.
abbrev black_white : List ℕ
black_white = replicate 10 1 ++ replicate 10 0

-- The letter before the dot, with commands among them.
abbrev falling : List ℕ
falling = 240 ∷ 1 ∷ 7 ∷ (letter_packet ++ (244 ∷ (four 1 2 3 4 ++ dot_packet)))

-- The lines of the two.
abbrev falling_lines : List ℤ
falling_lines =
    pos 22 ∷ pos 4 ∷ pos 0 ∷ pos 8 ∷ pos 1 ∷ pos 640796 ∷ pos 1638400 ∷ pos 0 ∷ pos 20 ∷ pos 29 ∷ negsuc 1 ∷ pos 28
    ∷ pos 56 ∷ pos 3 ∷ pos 0 ∷ pos 13 ∷ pos 1 ∷ pos 0 ∷ pos 0 ∷ pos 0 ∷ pos 1 ∷ pos 1 ∷ pos 0 ∷ pos 0 ∷ []

-- A black pixel of code 200 in the long form, by bits: tfm −1, dx 65,537, dy −65,536, offsets −3 and 4; and its listing.
abbrev long_dot : List ℕ
long_dot =
    0xE7 ∷ (four 0 0 0 29 ++ (four 0 0 0 200 ++ (four 255 255 255 255 ++ (four 0 1 0 1 ++ (four 255 255 0 0 ++ (four 0 0 0 1 ++ (four 0 0 0 1 ++ (four 255 255 255 253 ++ (four 0 0 0 4 ++ 0x80 ∷ [])))))))))

abbrev long_dot_lines : List ℤ
long_dot_lines =
    pos 60 ∷ pos 1 ∷ negsuc 1 ∷ pos 3 ∷ negsuc 2147483647 ∷ pos 1
    ∷ pos 21 ∷ pos 200 ∷ pos 2 ∷ pos 14 ∷ pos 0 ∷ negsuc 0 ∷ pos 65537 ∷ negsuc 65535 ∷ pos 1 ∷ pos 1 ∷ negsuc 2 ∷ pos 4 ∷ []

abbrev pub rows : List (Question × Reply)
rows =
    (checks (replicate 65537 0), refusal 1 0)
    ∷ (checks [], refusal 2 0) ∷ (checks (246 ∷ 88 ∷ []), refusal 2 0)
    ∷ (checks (247 ∷ 88 ∷ []), refusal 3 0)
    -- inside the preamble; where a piece must begin; inside a command, also in its length; inside a packet's fixed part, although its
    -- length is too small; inside its raster, also with w, h outside the limits
    ∷ (checks (247 ∷ []), refusal 4 0) ∷ (checks (take 18 preamble), refusal 4 0) ∷ (checks preamble, refusal 4 19)
    ∷ (checks (preamble ++ 240 ∷ 2 ∷ 0 ∷ []), refusal 4 19) ∷ (checks (preamble ++ 246 ∷ 241 ∷ 0 ∷ []), refusal 4 20)
    ∷ (checks (preamble ++ 244 ∷ 0 ∷ 0 ∷ 0 ∷ []), refusal 4 19) ∷ (checks (preamble ++ 0 ∷ 7 ∷ []), refusal 4 19)
    ∷ (checks (preamble ++ take 28 letter_packet), refusal 4 19) ∷ (checks (preamble ++ 0xE0 ∷ 9 ∷ 4 ∷ 0 ∷ 0 ∷ 0 ∷ 0 ∷ 0 ∷ 1 ∷ 0 ∷ 0 ∷ []), refusal 4 19)
    ∷ (checks (preamble ++ 247 ∷ []), refusal 5 19) ∷ (checks (preamble ++ 255 ∷ []), refusal 5 19)
    -- a command's negative length; packet lengths below the fixed fields, and negative
    ∷ (checks (preamble ++ 243 ∷ four 255 255 255 255), refusal 6 19) ∷ (checks (font (0xE0 ∷ 7 ∷ replicate 9 0)), refusal 6 19)
    ∷ (checks (font (long (four 0 0 0 27) (four 0 0 0 4) (four 0 0 0 1) (four 0 0 0 1) (0x80 ∷ []))), refusal 6 19)
    ∷ (checks (font (long (four 255 255 255 255) (four 0 0 0 4) (four 0 0 0 1) (four 0 0 0 1) (0x80 ∷ []))), refusal 6 19)
    -- w, h of 0 and 1; −1 and −1; 257 and 256; and 65,536 and 1 are within the limits
    ∷ (checks (font (short 0xE0 0 1 [])), refusal 7 19)
    ∷ (checks (font (long (four 0 0 0 29) (four 0 0 0 4) (four 255 255 255 255) (four 255 255 255 255) (0x80 ∷ []))), refusal 7 19)
    ∷ (checks (font (long (four 0 0 0 29) (four 0 0 1 0) (four 0 0 1 1) (four 0 0 1 0) (0x80 ∷ []))), refusal 7 19)
    ∷ (checks (font (long (four 0 0 0 29) (four 0 0 0 4) (four 0 1 0 0) (four 0 0 0 1) (0x80 ∷ []))), refusal 10 19)
    -- the codes 256 and −1
    ∷ (checks (font (long (four 0 0 0 29) (four 0 0 1 0) (four 0 0 0 1) (four 0 0 0 1) (0x80 ∷ []))), refusal 8 19)
    ∷ (checks (font (long (four 0 0 0 29) (four 255 255 255 255) (four 0 0 0 1) (four 0 0 0 1) (0x80 ∷ []))), refusal 8 19)
    ∷ (checks (font (letter_packet ++ short 0xD8 1 1 (0x20 ∷ []))), refusal 9 48)
    -- a number that ends; 14 at the end; too few bits
    ∷ (checks (font (short 0xD8 2 2 (0x30 ∷ []))), refusal 10 19) ∷ (checks (font (short 0xD8 2 2 (0x1E ∷ []))), refusal 10 19)
    ∷ (checks (font (short 0xE0 3 3 (0xFF ∷ []))), refusal 10 19)
    -- a run of 3 where the repeat fills the row after; a repeat on the last row
    ∷ (checks (font (short 0xD8 2 2 (0xF3 ∷ []))), refusal 11 19) ∷ (checks (font (short 0xD8 2 2 (0x2F ∷ 0x20 ∷ []))), refusal 11 19)
    -- a second repeat although its number is unfinished; 14 after 14
    ∷ (checks (font (short 0xD8 2 2 (0xFE ∷ []))), refusal 12 19) ∷ (checks (font (short 0xD8 2 2 (0xEE ∷ 0x11 ∷ []))), refusal 12 19)
    -- a byte left over; spare bits; raster bytes with w = h = 0, and none
    ∷ (checks (font (short 0xD8 2 2 (0x40 ∷ 0x00 ∷ []))), refusal 13 19) ∷ (checks (font (short 0xE0 2 2 (0xA8 ∷ []))), refusal 13 19)
    ∷ (checks (font (short 0xE0 2 2 (0xA0 ∷ 0x00 ∷ []))), refusal 13 19)
    ∷ (checks (font (short 0x08 0 0 (0x00 ∷ []))), refusal 13 19) ∷ (checks (font (short 0x08 0 0 [])), it 1)
    -- a byte more than a multiple of four; a byte after 245 that is no 246; and 245 at the very end
    ∷ (checks (font letter_packet ++ 246 ∷ []), refusal 14 48) ∷ (checks (preamble ++ (letter_packet ++ 245 ∷ 246 ∷ 247 ∷ 246 ∷ [])), refusal 14 48)
    ∷ (checks (preamble ++ (letter_packet ++ 246 ∷ 246 ∷ 246 ∷ 245 ∷ [])), it 1)
    ∷ (checks (preamble ++ 245 ∷ []), refusal 15 19) ∷ (checks (preamble ++ 245 ∷ 247 ∷ []), refusal 15 19)
    -- codes in falling order, and commands between the packets, are in order; each code draws its own packet
    ∷ (checks (font falling), it 2) ∷ (draws (font falling) 3 1, dot 3) ∷ (draws (font (dot_packet ++ letter_packet)) 3 1, dot 3)
    ∷ (draws (font falling) 4 580, character (pos 4 ∷ pos 20 ∷ pos 29 ∷ pos 640796 ∷ pos 1638400 ∷ pos 0 ∷ negsuc 1 ∷ pos 28 ∷ []) letter)
    -- a code that the font lacks, before a buffer that is too short; codes above 255; the font's own fault before both
    ∷ (draws (font letter_packet) 5 0, refusal 16 0) ∷ (draws (font letter_packet) 260 65536, refusal 16 0)
    ∷ (draws (font (short 0xD8 2 2 (0x41 ∷ []))) 5 0, refusal 13 19)
    ∷ (draws (font letter_packet) 4 579, refusal 17 0)
    -- a listing: each packet at its own place, in file order; a refused font lists nothing
    ∷ (lists (font falling), lines (pos 72 ∷ pos 10485760 ∷ pos 1234 ∷ pos 272046 ∷ pos 272046 ∷ pos 2 ∷ falling_lines))
    -- behind a comment of two bytes, with four numbers that differ; a long packet with the black bit 0
    ∷ (lists (0xF7 ∷ 0x59 ∷ 2 ∷ 104 ∷ 105 ∷ (four 0 0 0 1 ++ (four 255 255 255 254 ++ (four 0 0 0 3 ++ (four 128 0 0 0 ++ (long_dot ++ 0xF5 ∷ [])))))), lines long_dot_lines)
    ∷ (lists (font (letter_packet ++ short 0xD8 1 1 (0x20 ∷ []))), refusal 9 48)
    -- packing: 18 before 19 before 8 before 20 before 17
    ∷ (packs (plain (pos 0) (pos 1)) [] 0, refusal 18 0) ∷ (packs (plain (pos 65536) (pos 65536)) (1 ∷ []) 0, refusal 18 0)
    ∷ (packs (plain (negsuc 0) (negsuc 0)) (1 ∷ []) 0, refusal 18 0)
    ∷ (packs (coded (pos 256) (pos 0)) (1 ∷ []) 0, refusal 19 0) ∷ (packs (plain (pos 1) (pos 1)) (2 ∷ []) 0, refusal 19 0)
    ∷ (packs (coded (pos 256) (pos 4294967296)) letter 0, refusal 8 0) ∷ (packs (coded (negsuc 0) (pos 0)) letter 0, refusal 8 0)
    -- dx of 2³¹ with a dy that only the long form holds; dx of 65,536 whole pixels
    ∷ (packs (moving (pos 2147483648) (pos 1)) letter 0, refusal 20 0) ∷ (packs (moving (pos 4294967296) (pos 0)) letter 0, refusal 20 0)
    ∷ (packs letter_measures letter 28, refusal 17 0)
    -- a repeat before a first black run, for the imaginary pixel before it is white; black bit 0 where the bits are fewer
    ∷ (packs (plain (pos 20) (pos 2)) (black_white ++ black_white) 13, list (short 0xD8 20 2 (0xFA ∷ 0xA0 ∷ [])))
    ∷ (packs (plain (pos 2) (pos 2)) (1 ∷ 0 ∷ 1 ∷ 0 ∷ []) 12, list (short 0xE0 2 2 (0xA0 ∷ [])))
    -- in order: w = h = 0; an escapement that is no whole number of pixels, in the long form; a length of 256 + 8 in the short form
    ∷ (packs (plain (pos 0) (pos 0)) [] 11, list (short 0xE0 0 0 []))
    ∷ (packs (moving (pos 1638401) (negsuc 0)) letter 55, list (long_letter (drop 11 letter_packet)))
    ∷ (draws (font (long_letter (drop 11 letter_packet))) 4 580, character (pos 4 ∷ pos 20 ∷ pos 29 ∷ pos 640796 ∷ pos 1638401 ∷ negsuc 0 ∷ negsuc 1 ∷ pos 28 ∷ []) letter)
    ∷ (checks (font (0xE1 ∷ 8 ∷ 4 ∷ 0 ∷ 0 ∷ 0 ∷ 0 ∷ 64 ∷ 32 ∷ 0 ∷ 0 ∷ replicate 256 0xAA)), it 1)
    -- tfm and w of the short form are unsigned; tfm, dx, dy and the offsets of the long form are signed
    ∷ (draws (font (0xE0 ∷ 33 ∷ 4 ∷ 255 ∷ 255 ∷ 255 ∷ 255 ∷ 200 ∷ 1 ∷ 128 ∷ 127 ∷ replicate 25 0)) 4 200, character (pos 4 ∷ pos 200 ∷ pos 1 ∷ pos 16777215 ∷ pos 16711680 ∷ pos 0 ∷ negsuc 127 ∷ pos 127 ∷ []) (replicate 200 0))
    ∷ (draws (font (0xE7 ∷ (four 0 0 0 29 ++ (four 0 0 0 4 ++ (four 255 255 255 255 ++ (four 255 255 0 0 ++ (four 128 0 0 0 ++ (four 0 0 0 1 ++ (four 0 0 0 1 ++ (four 127 255 255 255 ++ (four 255 255 255 0 ++ (0x80 ∷ [])))))))))))) 4 1, character (pos 4 ∷ pos 1 ∷ pos 1 ∷ negsuc 0 ∷ negsuc 65535 ∷ negsuc 2147483647 ∷ pos 2147483647 ∷ negsuc 255 ∷ []) (1 ∷ []))
    -- each offset of the extended form has its own sign; numbers of three nybbles, read and written
    ∷ (draws (font (0xE4 ∷ 0 ∷ 14 ∷ 4 ∷ 0 ∷ 0 ∷ 0 ∷ 0xFF ∷ 0xFF ∷ 0 ∷ 1 ∷ 0 ∷ 1 ∷ 0xFF ∷ 0xFE ∷ 0 ∷ 3 ∷ 0x80 ∷ [])) 4 1, character (pos 4 ∷ pos 1 ∷ pos 1 ∷ pos 0 ∷ pos 4294901760 ∷ pos 0 ∷ negsuc 1 ∷ pos 3 ∷ []) (1 ∷ []))
    ∷ (draws (font (short 0xD8 4 4 (0x01 ∷ 0x11 ∷ []))) 4 16, character (pos 4 ∷ pos 4 ∷ pos 4 ∷ pos 0 ∷ pos 0 ∷ pos 0 ∷ pos 0 ∷ pos 0 ∷ []) (replicate 15 1 ++ 0 ∷ []))
    ∷ (packs (plain (pos 16) (pos 16)) (replicate 256 0) 13, list (short 0xC0 16 16 (0x0F ∷ 0x30 ∷ [])))
    -- a lent buffer: filled in front and kept behind, kept whole by a refusal
    ∷ (draw_answers (font falling) 3 (0xAA ∷ 0xAA ∷ []), character (pos 3 ∷ pos 1 ∷ pos 1 ∷ pos 0 ∷ pos 0 ∷ pos 0 ∷ pos 0 ∷ pos 0 ∷ []) [])
    ∷ (draw_leaves (font falling) 3 (0xAA ∷ 0xAA ∷ []), list (1 ∷ 0xAA ∷ [])) ∷ (draw_leaves (font falling) 4 (0xAA ∷ 0xAA ∷ []), list (0xAA ∷ 0xAA ∷ []))
    ∷ (pack_answers (plain (pos 1) (pos 1)) (1 ∷ []) (replicate 14 0xAA), it 12)
    ∷ (pack_leaves (plain (pos 1) (pos 1)) (1 ∷ []) (replicate 14 0xAA), list (short 0xD8 1 1 (0x10 ∷ []) ++ 0xAA ∷ 0xAA ∷ []))
    ∷ (pack_leaves (plain (pos 1) (pos 1)) (1 ∷ []) (replicate 11 0xAA), list (replicate 11 0xAA))
    ∷ []

-- The definitions give each.
pub rows_given : Given rows
unfolding reply
rows_given = refl
