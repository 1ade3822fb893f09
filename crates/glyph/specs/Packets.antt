-- What drawing the packet at a place answers, and what it leaves in the buffer. Assumes nothing: these are definitions.
use Rattle.std.specs.Prelude.{ℕ, ◌≡◌, List, length, drop}
use Rattle.format.specs.Refusals.{answers, lent, ok, answer_at, told}
use Rattle.format.specs.Pieces.{Packet, packet}
use Rattle.format.specs.Verdict.{piece, step}
use Rattle.format.specs.Drawing.{drawn}
use Rattle.glyph.specs.Answer.{in_numbers}
use Rattle.refusals.specs.declared.Refused.{Refused}
use Rattle.measures.specs.declared.Measures.{Measures}
use Rattle.std.specs.declared.result.Result.{Result}

-- The answer for the packet that stands there,
abbrev pub IsDrawn : List ℕ → ℕ → List ℕ → Result Measures Refused → Type 0
IsDrawn font at buffer r =
    (p : Packet) (rest : List ℕ) → step (drop at font) ≡ ok (piece (packet p) rest) → in_numbers r ≡ told (answers (λ t. t.0) (answer_at 0 (drawn (length buffer) p)))

-- and the buffer afterwards.
abbrev pub IsPixels : List ℕ → ℕ → List ℕ → List ℕ → Type 0
IsPixels font at buffer after =
    (p : Packet) (rest : List ℕ) → step (drop at font) ≡ ok (piece (packet p) rest) → after ≡ lent (λ t. t.1) (answer_at 0 (drawn (length buffer) p)) buffer
