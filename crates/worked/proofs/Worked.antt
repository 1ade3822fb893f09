-- 01, Worked by hand: one list of questions with 01's replies, and one statement that the definitions give each. All marked P in 01
-- are here, and the others, the listing among them. Assumes nothing.
use Prim.Native.Nat.{ℕ}
use mathlib.Core.Path.{refl}
use mathlib.Core.List.{List, [], ◌∷◌}
use lib.IntN.{pos, negsuc}
use lib.ListN.{replicate}
use Rattle.format.proofs.Questions.{Question, reads, writes, size, chooses, draws, packs, lists, Reply, it, list, character, lines, refusal, reply, Given, font, plain, short, letter, letter_measures, letter_packet}

-- code 4, w = h = 2, all else zero
abbrev two : List ℕ → Reply
two drawn = character (pos 4 ∷ pos 2 ∷ pos 2 ∷ pos 0 ∷ pos 0 ∷ pos 0 ∷ pos 0 ∷ pos 0 ∷ []) drawn

abbrev pub worked : List (Question × Reply)
worked =
    -- f = 8: 8 is 8; D9 is 82; DF is 88; 010 is 89
    (reads 8 (8 ∷ []), it 8) ∷ (writes 8 8, list (8 ∷ []))
    ∷ (reads 8 (0xD ∷ 9 ∷ []), it 82) ∷ (writes 8 82, list (0xD ∷ 9 ∷ []))
    ∷ (reads 8 (0xD ∷ 0xF ∷ []), it 88) ∷ (writes 8 88, list (0xD ∷ 0xF ∷ []))
    ∷ (reads 8 (0 ∷ 1 ∷ 0 ∷ []), it 89) ∷ (writes 8 89, list (0 ∷ 1 ∷ 0 ∷ []))
    -- f = 13: D is 13; 010 is 14
    ∷ (reads 13 (0xD ∷ []), it 13) ∷ (writes 13 13, list (0xD ∷ []))
    ∷ (reads 13 (0 ∷ 1 ∷ 0 ∷ []), it 14) ∷ (writes 13 14, list (0 ∷ 1 ∷ 0 ∷ []))
    -- f = 0: 10 is 1; DF is 208; 010 is 209
    ∷ (reads 0 (1 ∷ 0 ∷ []), it 1) ∷ (writes 0 1, list (1 ∷ 0 ∷ []))
    ∷ (reads 0 (0xD ∷ 0xF ∷ []), it 208) ∷ (writes 0 208, list (0xD ∷ 0xF ∷ []))
    ∷ (reads 0 (0 ∷ 1 ∷ 0 ∷ []), it 209) ∷ (writes 0 209, list (0 ∷ 1 ∷ 0 ∷ []))
    -- f = 12: 000FFF3 is 65,536
    ∷ (reads 12 (0 ∷ 0 ∷ 0 ∷ 0xF ∷ 0xF ∷ 0xF ∷ 3 ∷ []), it 65536) ∷ (writes 12 65536, list (0 ∷ 0 ∷ 0 ∷ 0xF ∷ 0xF ∷ 0xF ∷ 3 ∷ []))
    -- so an all-white 256 × 256 bitmap has raster 00 0F FF 30 and flag C4
    ∷ (packs (plain (pos 256) (pos 256)) (replicate 65536 0) 65536, list (0xC4 ∷ 0 ∷ 17 ∷ 4 ∷ 0 ∷ 0 ∷ 0 ∷ 0 ∷ 0 ∷ 1 ∷ 0 ∷ 1 ∷ 0 ∷ 0 ∷ 0 ∷ 0 ∷ 0 ∷ 0x00 ∷ 0x0F ∷ 0xFF ∷ 0x30 ∷ []))
    -- the letter: sizes at f = 3, 4, 8, 9 are 38, 36, 36, 38 nybbles; f = 8 is chosen
    ∷ (size 3 20 29 letter, it 38) ∷ (size 4 20 29 letter, it 36) ∷ (size 8 20 29 letter, it 36) ∷ (size 9 20 29 letter, it 38)
    ∷ (chooses 20 29 letter, it 8)
    -- its packet, which draws it again
    ∷ (packs letter_measures letter 65536, list letter_packet)
    ∷ (draws (font letter_packet) 4 65536, character (pos 4 ∷ pos 20 ∷ pos 29 ∷ pos 640796 ∷ pos 1638400 ∷ pos 0 ∷ negsuc 1 ∷ pos 28 ∷ []) letter)
    -- one black pixel: flag D8, raster 10
    ∷ (packs (plain (pos 1) (pos 1)) (1 ∷ []) 65536, list (short 0xD8 1 1 (0x10 ∷ [])))
    -- rows 10 and 10: runs need 3 nybbles, 2 bytes, and bits 1, so flag E0, raster A0; a packet with flag D8 and raster F1 10 draws the same
    ∷ (size 13 2 2 (1 ∷ 0 ∷ 1 ∷ 0 ∷ []), it 3)
    ∷ (packs (plain (pos 2) (pos 2)) (1 ∷ 0 ∷ 1 ∷ 0 ∷ []) 65536, list (short 0xE0 2 2 (0xA0 ∷ [])))
    ∷ (draws (font (short 0xE0 2 2 (0xA0 ∷ []))) 4 65536, two (1 ∷ 0 ∷ 1 ∷ 0 ∷ []))
    ∷ (draws (font (short 0xD8 2 2 (0xF1 ∷ 0x10 ∷ []))) 4 65536, two (1 ∷ 0 ∷ 1 ∷ 0 ∷ []))
    -- flag D8, w = h = 2: raster 40 is all black; 41 gives 13; FF 11 gives 12; 55 and E3 11 give 11; 00 gives 10
    ∷ (draws (font (short 0xD8 2 2 (0x40 ∷ []))) 4 65536, two (1 ∷ 1 ∷ 1 ∷ 1 ∷ []))
    ∷ (draws (font (short 0xD8 2 2 (0x41 ∷ []))) 4 65536, refusal 13 19)
    ∷ (draws (font (short 0xD8 2 2 (0xFF ∷ 0x11 ∷ []))) 4 65536, refusal 12 19)
    ∷ (draws (font (short 0xD8 2 2 (0x55 ∷ []))) 4 65536, refusal 11 19)
    ∷ (draws (font (short 0xD8 2 2 (0xE3 ∷ 0x11 ∷ []))) 4 65536, refusal 11 19)
    ∷ (draws (font (short 0xD8 2 2 (0x00 ∷ []))) 4 65536, refusal 10 19)
    -- extended dm 65,535 is dx 4,294,901,760; hoff FF FE is −2
    ∷ (draws (font (0xE4 ∷ 0 ∷ 14 ∷ 4 ∷ 0 ∷ 0 ∷ 0 ∷ 0xFF ∷ 0xFF ∷ 0 ∷ 1 ∷ 0 ∷ 1 ∷ 0xFF ∷ 0xFE ∷ 0 ∷ 0 ∷ 0x80 ∷ [])) 4 65536, character (pos 4 ∷ pos 1 ∷ pos 1 ∷ pos 0 ∷ pos 4294901760 ∷ pos 0 ∷ negsuc 1 ∷ pos 0 ∷ []) (1 ∷ []))
    -- the listing of 18 lines
    ∷ (lists (font letter_packet), lines (pos 52 ∷ pos 10485760 ∷ pos 1234 ∷ pos 272046 ∷ pos 272046 ∷ pos 1 ∷ pos 19 ∷ pos 4 ∷ pos 0 ∷ pos 8 ∷ pos 1 ∷ pos 640796 ∷ pos 1638400 ∷ pos 0 ∷ pos 20 ∷ pos 29 ∷ negsuc 1 ∷ pos 28 ∷ []))
    ∷ []

-- The definitions give each.
pub worked_out : Given worked
unfolding reply
worked_out = refl
