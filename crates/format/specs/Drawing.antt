-- Drawing a code (01, The job and its edges; Numbers given back): font faults first, then 16, then 17, or the measures and pixels.
-- Assumes nothing: these are definitions.
use Rattle.std.specs.Prelude.{ℕ, ◌*◌, ◌/◌, List, [], ◌∷◌, Bool, cond, eqb, leb, length, take}
use Rattle.format.specs.Refusals.{no_such_code, no_room, Answer, gives, refused, answers, lent, Result, ok, fault, ◌>>=◌, need, answer_at}
use Rattle.format.specs.Measures.{Measures}
use Rattle.format.specs.Pieces.{Packet, measures}
use Rattle.format.specs.Rasters.{Item, string, picture, bits, colour}
use Rattle.format.specs.Cut.{packets, Parts}
use Rattle.format.specs.Reading.{items}
use Rattle.format.specs.Verdict.{verdict}

-- The pixels of raster bytes that have these items, rows top to bottom, left to right: with f = 14 the bits, whatever the items; none where
-- the raster is at fault.
unfoldable pub drawn_by : ℕ → Bool → ℕ → ℕ → List ℕ → Result (List Item) → List ℕ
drawn_by f black w h bytes (fault x) = []
drawn_by f black w h bytes (ok is) =
    cond (eqb f 14) (take (w * h) (bits bytes)) (picture w (colour black) (length (string (colour black) is) / w) is)

-- The pixels of raster bytes, and of a packet.
unfoldable pub raster_pixels : ℕ → Bool → ℕ → ℕ → List ℕ → List ℕ
raster_pixels f black w h bytes = drawn_by f black w h bytes (items f w h bytes)

unfoldable pub pixels_of : Packet → List ℕ
pixels_of p = raster_pixels p.f p.black p.w p.h p.raster

-- The packet of a code, wherever it stands.
unfoldable pub find : ℕ → List Packet → Result Packet
find code [] = fault no_such_code
find code (p ∷ ps) = cond (eqb code p.code) (ok p) (find code ps)

-- A packet's drawing into a buffer of `room` bytes.
unfoldable pub drawn : ℕ → Packet → Result (Measures × List ℕ)
drawn room p = do
  _ ← need (leb (p.w * p.h) room) no_room
  ok (measures p, pixels_of p)

-- The measures and pixels that a font's parts say of a code, or the font's refusal.
unfoldable pub draw_from : ℕ → ℕ → Answer Parts → Answer (Measures × List ℕ)
draw_from code room (refused r place) = refused r place
draw_from code room (gives x) = answer_at 0 (find code (packets x.pieces) >>= drawn room)

-- The measures and pixels for a font, a code and a lent buffer of `room` bytes.
unfoldable pub draw : List ℕ → ℕ → ℕ → Answer (Measures × List ℕ)
draw s code room = draw_from code room (verdict s)

-- The call answers with the measures, and fills the first w × h bytes with the pixels.
unfoldable pub draw_answer : List ℕ → ℕ → List ℕ → Answer Measures
draw_answer s code buffer = answers (λ t. t.0) (draw s code (length buffer))

unfoldable pub draw_buffer : List ℕ → ℕ → List ℕ → List ℕ
draw_buffer s code buffer = lent (λ t. t.1) (draw s code (length buffer)) buffer
