-- What the inner functions of this crate answer, in the terms of the verdict. Assumes nothing: these are definitions.
use Rattle.std.specs.declared.result.Result.{Result}
use Rattle.std.specs.Prelude.{Ok, Err, ℕ, ◌+◌, ◌-◌, ◌<◌, ◌≡◌, Bool, false, not, List, [], ◌∷◌, length, get_or, drop}
use Rattle.format.specs.Lists.{elem}
use Rattle.format.specs.Refusals as R
use Rattle.format.specs.Refusals.{code_twice, answers, ok, fault, ◌>>=◌, need}
use Rattle.format.specs.Pieces as F
use Rattle.format.specs.Rasters.{Item}
use Rattle.format.specs.Cut.{packets, Parts, chars}
use Rattle.format.specs.Reading.{items}
use Rattle.format.specs.Verdict.{Front, piece, last, checked, ending, onward}
use Rattle.refusals.specs.Names.{coded}
use Rattle.refusals.specs.Answers.{to_result}
use Rattle.refusals.specs.declared.Refusal.{Refusal}
use Rattle.refusals.specs.declared.Refused.{Refused}
use Rattle.packet.specs.declared.Outline.{Outline}
use Rattle.font.specs.declared.Turn.{Turn}
use Rattle.font.specs.declared.Turn.TheVariants.{Packet, Command, Last}

-- A piece.

-- The array marks the codes seen.
pub record Marks (seen : List Bool) (codes : List ℕ) : Type 0 where
  pub places : length seen ≡ 256
  pub marked : (c : ℕ) → c < 256 → get_or seen c false ≡ elem c codes

-- A piece that is judged: t, or the fault.
unfoldable pub judged_turn : Turn → R.Result (List Item) → Result Turn Refusal
judged_turn t (ok is) = Ok t
judged_turn t (fault x) = Err (coded x)

-- A packet of an outline with its raster bytes, behind packets with the codes seen.
unfoldable pub packet_turn : List ℕ → Outline → List ℕ → Result Turn Refusal
packet_turn codes x raster = judged_turn (Packet x.code x.end) do
  _ ← need (not (elem x.code codes)) code_twice
  items x.f x.w x.h raster

-- The same for the codes that an array marks.
abbrev pub IsPacketTurn : List Bool → Outline → List ℕ → Result Turn Refusal → Type 0
IsPacketTurn seen x raster r = (codes : List ℕ) → Marks seen codes → r ≡ packet_turn codes x raster

-- The packets of a piece, which has at most one, with the place behind it.
abbrev pub turn_for : ℕ → List F.Packet → Turn
turn_for next [] = Command next
turn_for next (p ∷ ps) = Packet p.code next

-- What stands at the front of bytes that reach to the end n of the file, behind packets with the codes seen.
unfoldable pub to_turn : ℕ → List ℕ → R.Result Front → Result Turn Refusal
to_turn n codes (ok (piece p r)) = judged_turn (turn_for (n - length r) (packets (p ∷ []))) (checked codes (packets (p ∷ [])))
to_turn n codes (ok (last r)) = Ok Last
to_turn n codes (fault x) = Err (coded x)

-- The same for the codes that an array marks.
abbrev pub IsTurn : List Bool → ℕ → R.Result Front → Result Turn Refusal → Type 0
IsTurn seen n front r = (codes : List ℕ) → Marks seen codes → r ≡ to_turn n codes front

-- The pieces.

-- The number of characters of parts behind n characters.
abbrev pub chars_after : ℕ → Parts → ℕ
chars_after n x = n + chars x

-- What is answered at the 245, which stands at a place of the font, behind n characters, whatever the preamble and the codes.
abbrev pub IsEnding : List ℕ → ℕ → ℕ → Result ℕ Refused → Type 0
IsEnding font place n r = (a : F.Preamble) (codes : List ℕ) → length codes ≡ n → r ≡ to_result (answers (chars_after n) (ending a place codes (drop (place + 1) font)))

-- What is answered from a place on, behind the preamble, whatever it says.
abbrev pub IsOnward : List ℕ → ℕ → Result ℕ Refused → Type 0
IsOnward font place r = (a : F.Preamble) → r ≡ to_result (answers chars (onward a place [] (drop place font)))
