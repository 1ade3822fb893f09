-- Laws of the font's first bytes, one for each answer, and the answer in 01's numbers. Assumes nothing.
use Prim.Native.Nat.{ℕ, ◌+◌, ◌≤◌, ◌<◌}
use mathlib.Core.Path.{◌≡◌, refl, sym, ap, ◌∙◌}
use mathlib.Core.List.{List, [], ◌∷◌}
use native.Mathlib.Omega.{arith}
use lib.ListN.{length, take, drop, get_or}
use lib.Seq.{drop-drop}
use borrow.Author.Tests.{lt-ltb, le-ltb, eq-eqb, ne_eqb}
use Rattle.format.specs.Limits.{most}
use Rattle.format.specs.Refusals.{too_long, no_preamble, wrong_id, file_ends, told, answers}
use Rattle.format.specs.Numbers.{Bytes}
use Rattle.format.specs.Pieces.{preamble_kinds}
use Rattle.format.specs.Cut.{chars}
use Rattle.format.specs.Decoding.{read_fields}
use Rattle.format.specs.Verdict.{preamble_of, preamble_at, begin, verdict, check}
use Rattle.format.proofs.FaultTheorems.{check_means, place_given}
use Rattle.std.specs.Prelude.{Err}
use Rattle.std.specs.declared.result.Result.{Result}
use Rattle.refusals.specs.Answers.{refused_at, to_result}
use Rattle.refusals.specs.declared.Refused.{Refused}
use Rattle.refusals.proofs.AnswerLaws.{result_told}
use Rattle.font.specs.Answer.{in_numbers}
use Rattle.font.specs.Turns.{IsOnward}

-- The preamble.

pub begin_empty : (s : List ℕ) → length s ≡ 0 → Err (refused_at no_preamble 0) ≡ to_result (answers chars (begin s))
unfolding to_result answers begin
begin_empty [] e = refl
begin_empty (a ∷ s) e = absurd (omega arith)

pub begin_other : (s : List ℕ) → (length s ≡ 0 → ⊥) → (get_or s 0 0 ≡ 247 → ⊥) → Err (refused_at no_preamble 0) ≡ to_result (answers chars (begin s))
unfolding to_result answers begin
begin_other [] n e = absurd (n refl)
begin_other (a ∷ []) n e = rw (ne_eqb a 247 e) refl
begin_other (a ∷ b ∷ s) n e = rw (ne_eqb a 247 e) refl

pub begin_one : (s : List ℕ) → length s ≡ 1 → get_or s 0 0 ≡ 247 → Err (refused_at file_ends 0) ≡ to_result (answers chars (begin s))
unfolding to_result answers begin
begin_one [] l e = absurd (omega arith)
begin_one (a ∷ []) l e = rw (eq-eqb a 247 e) refl
begin_one (a ∷ b ∷ s) l e = absurd (omega arith)

pub begin_id : (s : List ℕ) → 1 < length s → get_or s 0 0 ≡ 247 → (get_or s 1 0 ≡ 89 → ⊥) → Err (refused_at wrong_id 0) ≡ to_result (answers chars (begin s))
unfolding to_result answers begin
begin_id [] l e n = absurd (omega arith)
begin_id (a ∷ []) l e n = absurd (omega arith)
begin_id (a ∷ b ∷ s) l e n = rw (eq-eqb a 247 e, ne_eqb b 89 n) refl

pub begin_two : (s : List ℕ) → length s ≡ 2 → get_or s 0 0 ≡ 247 → get_or s 1 0 ≡ 89 → Err (refused_at file_ends 0) ≡ to_result (answers chars (begin s))
unfolding to_result answers begin preamble_at
begin_two [] l e f = absurd (omega arith)
begin_two (a ∷ []) l e f = absurd (omega arith)
begin_two (a ∷ b ∷ []) l e f = rw (eq-eqb a 247 e, eq-eqb b 89 f) refl
begin_two (a ∷ b ∷ c ∷ s) l e f = absurd (omega arith)

-- 247, 89 and a comment's length k.
module _ (s : List ℕ) (k : ℕ) (e : get_or s 0 0 ≡ 247) (f : get_or s 1 0 ≡ 89) (h : k ≡ get_or s 2 0) where
  pub begin_short : 2 < length s → length s < k + 19 → Err (refused_at file_ends 0) ≡ to_result (answers chars (begin s))
  unfolding to_result answers begin preamble_at
  begin_short l m = go s e f h l m
    where
      go : (s : List ℕ) → get_or s 0 0 ≡ 247 → get_or s 1 0 ≡ 89 → k ≡ get_or s 2 0 → 2 < length s → length s < k + 19 → Err (refused_at file_ends 0) ≡ to_result (answers chars (begin s))
      go [] e f h l m = absurd (omega arith)
      go (a ∷ []) e f h l m = absurd (omega arith)
      go (a ∷ b ∷ []) e f h l m = absurd (omega arith)
      go (a ∷ b ∷ c ∷ t) e f h l m = rw (eq-eqb a 247 e, eq-eqb b 89 f, ← h, lt-ltb (length t) (k + 16) (omega arith)) refl

  pub begin_onward : (start : ℕ) (r : Result ℕ Refused) → start ≡ k + 19 → start ≤ length s → IsOnward s start r → r ≡ to_result (answers chars (begin s))
  unfolding begin preamble_at
  begin_onward start r j l q = go s e f h l q
    where
      go : (s : List ℕ) → get_or s 0 0 ≡ 247 → get_or s 1 0 ≡ 89 → k ≡ get_or s 2 0 → start ≤ length s → IsOnward s start r → r ≡ to_result (answers chars (begin s))
      go [] e f h l q = absurd (omega arith)
      go (a ∷ []) e f h l q = absurd (omega arith)
      go (a ∷ b ∷ []) e f h l q = absurd (omega arith)
      go (a ∷ b ∷ c ∷ t) e f h l q =
          let i : 3 + (k + 16) ≡ start = omega arith in
          let d : drop start (a ∷ b ∷ c ∷ t) ≡ drop (k + 16) t = ap (λ (n : ℕ). drop n (a ∷ b ∷ c ∷ t)) (sym i) ∙ sym (drop-drop (k + 16) 3 (a ∷ b ∷ c ∷ t)) in
          q (preamble_of (take k t) (read_fields preamble_kinds (drop k t))) ∙ rw (d, j, eq-eqb a 247 e, eq-eqb b 89 f, ← h, le-ltb (length t) (k + 16) (omega arith)) refl

-- The whole font.

pub check_long : (s : List ℕ) → 65536 < length s → Err (refused_at too_long 0) ≡ to_result (check s)
unfolding to_result answers check verdict
check_long s l = rw (lt-ltb most (length s) l) refl

pub check_begin : (s : List ℕ) (r : Result ℕ Refused) → length s ≤ 65536 → r ≡ to_result (answers chars (begin s)) → r ≡ to_result (check s)
unfolding check verdict
check_begin s r l e = e ∙ rw (le-ltb most (length s) l) refl

-- In 01's numbers.

pub numbers_told : (s : List ℕ) (r : Result ℕ Refused) → Bytes s → r ≡ to_result (check s) → in_numbers r ≡ told (check s)
numbers_told s r b e = ap in_numbers e ∙ result_told (check s) (λ x place q. sym (ap (λ (t : ℕ × ℕ). t.1) (place_given s x place (check_means s x place b q))))
