-- A font that has a cut, with a raster of each kind, a repeat, commands, and codes in falling order: `Cut` is met, part by part.
-- Assumes nothing.
use Prim.Native.Nat.{ℕ, ◌≤◌}
use mathlib.Core.Path.{◌≡◌, refl, ◌∙◌}
use mathlib.Core.List.{List, [], ◌∷◌}
use mathlib.Core.Bool.{Bool, true, false, cond, ◌&&◌}
use native.Mathlib.Omega.{arith}
use lib.Dec.{eqb, ltb}
use lib.IntN.{pos, negsuc}
use lib.ListN.{length}
use borrow.Author.Tests.{ltb-true, ne_eqb}
use Rattle.format.specs.Limits.{in_limits, is_code}
use Rattle.format.specs.Lists.{elem}
use Rattle.format.specs.Numbers.{Bytes, bytes, held, twos, all_held, field_bytes}
use Rattle.format.specs.Measures.{pixels}
use Rattle.format.specs.Pieces.{preamble_bytes, short, Packet, flag, fits, PacketOk, special, numeric, noop, packet, bytes_of}
use Rattle.format.specs.Packed.{nybbles, hex, zeros_f, zeros_of, large, encode}
use Rattle.format.specs.Rasters.{Item, run, fifteen, written, writings, spare, string, repeats, rows, sum, sent, joined, picture, RunRaster, bits_of, bits, blank, in_bits, in_runs}
use Rattle.format.specs.Cut.{flat, packets, codes, Parts, join, Cut}
use Rattle.format.proofs.Tests.{test, and_true}

-- A short packet of w × h with f, the black bit and a raster.
abbrev drawing : ℕ → Bool → ℕ → ℕ → ℕ → List ℕ → Packet
drawing f black code w h raster =
    record { f = f; black = black; form = short; code = code; tfm = pos 0; escapement = pixels 3; w = w; h = h; hoff = negsuc 1; voff = pos 1; raster = raster }

-- Rows 10 and 10 as bits, and as a row with a repeat; and a blank character.
abbrev in_bits_packet : Packet
in_bits_packet = drawing 14 false 200 2 2 (0xA0 ∷ [])

abbrev in_runs_packet : Packet
in_runs_packet = drawing 13 true 9 2 2 (0xF1 ∷ 0x10 ∷ [])

abbrev blank_packet : Packet
blank_packet = drawing 0 true 8 0 0 []

abbrev pub parts : Parts
parts =
    record {
      preamble = record { comment = 104 ∷ 105 ∷ []; ds = pos 10485760; cs = negsuc 0; hppp = pos 272046; vppp = pos 272046 };
      pieces = special 1 (7 ∷ 7 ∷ []) ∷ packet in_bits_packet ∷ numeric (1 ∷ 2 ∷ 3 ∷ 4 ∷ []) ∷ packet in_runs_packet ∷ noop ∷ packet blank_packet ∷ [];
      pad = 4;
    }

-- Its bytes.
abbrev pub font : List ℕ
font =
    247 ∷ 89 ∷ 2 ∷ 104 ∷ 105 ∷ 0 ∷ 160 ∷ 0 ∷ 0 ∷ 255 ∷ 255 ∷ 255 ∷ 255 ∷ 0 ∷ 4 ∷ 38 ∷ 174 ∷ 0 ∷ 4 ∷ 38 ∷ 174
    ∷ 240 ∷ 2 ∷ 7 ∷ 7
    ∷ 0xE0 ∷ 9 ∷ 200 ∷ 0 ∷ 0 ∷ 0 ∷ 3 ∷ 2 ∷ 2 ∷ 254 ∷ 1 ∷ 0xA0
    ∷ 244 ∷ 1 ∷ 2 ∷ 3 ∷ 4
    ∷ 0xD8 ∷ 10 ∷ 9 ∷ 0 ∷ 0 ∷ 0 ∷ 3 ∷ 2 ∷ 2 ∷ 254 ∷ 1 ∷ 0xF1 ∷ 0x10
    ∷ 246
    ∷ 0x08 ∷ 8 ∷ 8 ∷ 0 ∷ 0 ∷ 0 ∷ 3 ∷ 0 ∷ 0 ∷ 254 ∷ 1
    ∷ 245 ∷ 246 ∷ 246 ∷ 246 ∷ 246 ∷ []

-- A test that each entry is a byte.
abbrev byte : List ℕ → Bool
byte [] = true
byte (b ∷ s) = ltb b 256 && byte s

are_bytes : (s : List ℕ) → byte s ≡ true → Bytes s
are_bytes [] e = tt
are_bytes (b ∷ s) e = let t = and_true (ltb b 256) (byte s) e in (ltb-true b 256 t.0, are_bytes s t.1)

ok : (p : Packet) → p.f ≤ 14 → fits p ≡ true → in_limits p.w p.h ≡ true → is_code (pos p.code) ≡ true → PacketOk p
ok p a b c d = record { f = a; fits = b; limits = c; code = d }

items : List Item
items = fifteen ∷ run 1 ∷ run 1 ∷ []

-- Row 0 has the one repeat, and no other row has any.
row_0 : (r : ℕ) → repeats 2 0 items r ≡ cond (eqb 0 r) (1 ∷ []) []
unfolding repeats items
row_0 r = test (eqb 0 r) (λ t. rw t refl) (λ t. rw t refl)

once : (r : ℕ) → length (repeats 2 0 items r) ≤ 1
once r = rw (row_0 r) (test (eqb 0 r) (λ t. rw t (omega arith)) (λ t. rw t (omega arith)))

inside : (r : ℕ) → 1 ≤ r → repeats 2 0 items r ≡ []
inside r l = row_0 r ∙ rw (ne_eqb 0 r (λ e. omega arith)) refl

runs : RunRaster 13 2 2 1 (0xF1 ∷ 0x10 ∷ []) (1 ∷ 0 ∷ 1 ∷ 0 ∷ [])
unfolding items nybbles written writings encode large zeros_of zeros_f hex spare string repeats rows sum sent joined picture
runs =
    record {
      items = items;
      numbers = (tt, (omega arith, (omega arith, tt)));
      nybbles_are = refl;
      k = 1;
      grid = record { whole = refl; once = once; inside = inside; high = refl };
      drawn_is = refl;
    }

pub example_cut : Cut font parts
unfolding join preamble_bytes flat bytes_of flag field_bytes bytes twos packets codes elem fits all_held held in_limits is_code bits bits_of
example_cut =
    record {
      bytes = are_bytes font refl;
      whole = refl;
      small = omega arith;
      four = refl;
      preamble = record { comment = omega arith; fields = refl };
      pieces = (record { least = omega arith; most = omega arith; held = refl }, (ok in_bits_packet (omega arith) refl refl refl, (refl, (ok in_runs_packet (omega arith) refl refl refl, (tt, (ok blank_packet (omega arith) refl refl refl, tt))))));
      filled = (
        ((1 ∷ 0 ∷ 1 ∷ 0 ∷ []), in_bits (omega arith) refl (record { size = refl; spare = 4; few = omega arith; bits_are = refl })),
        (((1 ∷ 0 ∷ 1 ∷ 0 ∷ []), in_runs (omega arith) (omega arith) runs), (([], blank refl refl refl refl), tt)),
      );
      distinct = (refl, (refl, (refl, tt)));
      any = omega arith;
    }
