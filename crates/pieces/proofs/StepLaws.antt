-- The piece that a first byte begins, by the byte, and at a place. Assumes nothing.
use Prim.Native.Nat.{ℕ, ◌-◌, ◌≤◌, ◌<◌}
use mathlib.Core.Path.{◌≡◌, refl, ◌∙◌}
use mathlib.Core.List.{List, ◌∷◌}
use native.Mathlib.Omega.{arith}
use lib.ListN.{length, drop, length-drop, drop_of_length-le}
use borrow.Author.Tests.{lt-ltb, le-ltb, ne_eqb}
use Rattle.format.specs.Pieces.{length_kind}
use Rattle.format.specs.Decoding.{number, value_of}
use Rattle.format.specs.Verdict.{form_of, special_at, numeric_at, step}
use Rattle.std.specs.declared.result.Result.{Result}
use Rattle.std.specs.declared.result.Result.TheVariants.{Ok, Err}
use Rattle.refusals.specs.declared.Refusal.{Refusal}
use Rattle.refusals.specs.Names.{coded}
use Rattle.format.specs.Refusals.{no_piece, file_ends}
use Rattle.packet.specs.declared.Piece.{Piece}
use Rattle.packet.specs.declared.Piece.TheVariants.{Command, Last}
use Rattle.packet.specs.Outlines.{piece_of, outlined}
use Rattle.pieces.proofs.CommandLaws.{command_at}

-- By the first byte.

module _ (s : List ℕ) (at b : ℕ) where
  -- A flag.
  pub step_packet : (r : Result Piece Refusal) → b < 240 → r ≡ outlined (form_of b) b at s → r ≡ piece_of (length s) (step (b ∷ drop at s))
  unfolding step outlined
  step_packet r h e = e ∙ rw (lt-ltb b 240 h) refl

  -- 240 to 243.
  pub step_special : (r : Result Piece Refusal) → 240 ≤ b → b < 244
      → r ≡ piece_of (length s) (special_at (b - 239) (value_of (length_kind (b - 239)) (number (b - 239) (drop at s))) (drop at s))
      → r ≡ piece_of (length s) (step (b ∷ drop at s))
  unfolding step
  step_special r h k e = e ∙ rw (le-ltb b 240 h, lt-ltb b 244 k) refl

  -- 244.
  pub step_numeric : (r : Result Piece Refusal) → b ≡ 244 → r ≡ piece_of (length s) (numeric_at (drop at s)) → r ≡ piece_of (length s) (step (b ∷ drop at s))
  unfolding step
  step_numeric r h e = e ∙ rw h refl

  -- 245.
  pub step_last : b ≡ 245 → Ok Last ≡ piece_of (length s) (step (b ∷ drop at s))
  unfolding step piece_of
  step_last h = rw h refl

  -- 246.
  pub step_noop : b ≡ 246 → at ≤ length s → Ok (Command at) ≡ piece_of (length s) (step (b ∷ drop at s))
  unfolding step piece_of
  step_noop h k = rw h (command_at (simp length-drop (omega arith)))

  -- 247 and above.
  pub step_none : 247 ≤ b → Err (coded no_piece) ≡ piece_of (length s) (step (b ∷ drop at s))
  unfolding step piece_of
  step_none h =
      rw (
        le-ltb b 240 (omega arith),
        le-ltb b 244 (omega arith),
        ne_eqb b 244 (λ q. omega arith),
        ne_eqb b 245 (λ q. omega arith),
        ne_eqb b 246 (λ q. omega arith),
      )
      refl

-- At a place.

-- A place behind the end.
pub piece_ends : (s : List ℕ) (at : ℕ) → length s ≤ at → Err (coded file_ends) ≡ piece_of (length s) (step (drop at s))
unfolding step piece_of
piece_ends s at h = rw (drop_of_length-le s h) refl
