-- Packing a bitmap (01, The job and its edges; Numbers given back): 18, 19, 8, 20, 17 in this order, or the packet.
-- Assumes nothing: these are definitions.
use Rattle.std.specs.Prelude.{ℕ, ◌*◌, ◌≤◌, ◌≡◌, List, [], ◌∷◌, ◌++◌, Bool, true, ◌&&◌, eqb, leb, ltb, nat_abs, length, replicate}
use Rattle.format.specs.Limits.{within_limits, is_code}
use Rattle.format.specs.Refusals.{bad_code, no_room, bitmap_outside_limits, bad_bitmap, Answer, answers, lent, Result, ok, ◌>>=◌, need, answer_at}
use Rattle.format.specs.Numbers.{Bytes}
use Rattle.format.specs.Measures.{Measures}
use Rattle.format.specs.Pieces.{Preamble, preamble_bytes, Form, Packet, PacketOk, packet, measures, bytes_of}
use Rattle.format.specs.Pieces as F
use Rattle.format.specs.Rasters.{rows, Draws}
use Rattle.format.specs.Counts.{counts}
use Rattle.format.specs.Choice.{chosen, raster_of, first_black, in_form, first_form}

-- Each byte is 0 or 1.
unfoldable pub all_pixels : List ℕ → Bool
all_pixels [] = true
all_pixels (x ∷ xs) = ltb x 2 && all_pixels xs

-- The bytes are a bitmap of the measures' width and height: one for each pixel, 0 or 1.
abbrev pub is_bitmap : List ℕ → Measures → Bool
is_bitmap b m = eqb (length b) (nat_abs m.w * nat_abs m.h) && all_pixels b

-- The packet that 01's choice rules name in a form, for a bitmap with its measures.
unfoldable pub choice_in : List ℕ → Measures → Form → Packet
choice_in b m =
    let w = nat_abs m.w in
    let h = nat_abs m.h in
    let is = counts (rows w h b) in
    let f = chosen w h is in
    in_form f (first_black f b) m (raster_of f is b)

-- Its bytes.
abbrev pub choice_bytes : List ℕ → Measures → Form → List ℕ
choice_bytes b m k = bytes_of (packet (choice_in b m k))

-- The packet, or 20.
unfoldable pub packet_for : List ℕ → Measures → Result Packet
packet_for b m = first_form m (choice_in b m)

-- The packet's bytes; 18, 19, 8, 20, 17 in this order.
unfoldable pub packed : List ℕ → Measures → ℕ → Result (List ℕ)
packed b m room = do
  _ ← need (within_limits m.w m.h) bitmap_outside_limits
  _ ← need (is_bitmap b m) bad_bitmap
  _ ← need (is_code m.code) bad_code
  p ← packet_for b m
  _ ← need (leb (length (bytes_of (packet p))) room) no_room
  ok (bytes_of (packet p))

-- The packet for a bitmap, its measures and a lent buffer of `room` bytes.
unfoldable pub pack : List ℕ → Measures → ℕ → Answer (List ℕ)
pack b m room = answer_at 0 (packed b m room)

-- The call answers with the packet's length, flag included, and fills that many bytes.
unfoldable pub pack_answer : List ℕ → Measures → List ℕ → Answer ℕ
pack_answer b m buffer = answers length (pack b m (length buffer))

unfoldable pub pack_buffer : List ℕ → Measures → List ℕ → List ℕ
pack_buffer b m buffer = lent (λ bytes. bytes) (pack b m (length buffer)) buffer

-- A packet's bytes set alone in a font: any preamble, the packet, an ending (the letter's second demand).
unfoldable pub set_alone : Preamble → List ℕ → ℕ → List ℕ
set_alone a bytes pad = preamble_bytes a ++ (bytes ++ 245 ∷ replicate pad 246)

-- The bytes are those of a packet that 01 allows, which says the measures m and draws the bitmap b; each is a byte, and at most
-- 8,229 are needed: 37 before the raster and 8,192 of bits.
pub record PackedOf (b : List ℕ) (m : Measures) (bytes : List ℕ) : Type 0 where
  pub packet : Packet
  pub are : bytes ≡ bytes_of (F.packet packet)
  pub allowed : PacketOk packet
  pub says : measures packet ≡ m
  pub draws : Draws packet.f packet.black packet.w packet.h packet.raster b
  pub size : length b ≡ packet.w * packet.h
  pub each : Bytes bytes
  pub few : length bytes ≤ 8229
