-- What the call's promise means (the letter's third demand): the number of characters is that of the font's cut, a refusal is its row of 01 at
-- its place, and any two answers that the promise allows are equal. Assumes nothing.
use Prim.Native.Nat.{ℕ}
use mathlib.Core.Path.{◌≡◌, refl, sym, ap, ◌∙◌}
use mathlib.Core.Logic.{◌↔◌}
use mathlib.Core.List.{List}
use Rattle.format.specs.Refusals.{Refusal, Answer, gives, refused, told}
use Rattle.format.specs.Numbers.{Bytes}
use Rattle.format.specs.Cut.{Parts, chars, Cut}
use Rattle.format.specs.Verdict.{check}
use Rattle.format.specs.Faults.{Means}
use Rattle.format.proofs.CutTheorems.{counts_chars}
use Rattle.format.proofs.FaultConverse.{check_refuses}
use Rattle.refusals.specs.Names.{coded}
use Rattle.refusals.specs.Answers.{refused_at, to_result}
use Rattle.refusals.specs.declared.Refusal as D
use Rattle.refusals.specs.declared.Refused.{Refused}
use Rattle.refusals.proofs.AnswerLaws.{one_numbers}
use Rattle.std.specs.Prelude.{Ok, Err}
use Rattle.std.specs.declared.result.Result.{Result}
use Rattle.font.specs.Answer.{in_numbers}
use Rattle.font.proofs.BeginLaws.{numbers_told}

-- Any two answers that the promise allows are equal.
pub one_answer : (s : List ℕ) (r t : Result ℕ Refused) → in_numbers r ≡ told (check s) → in_numbers t ≡ told (check s) → r ≡ t
one_answer s r t e f = one_numbers (λ (n : ℕ). n) (λ a b i. i) r t (e ∙ sym f)

-- An answer r that the promise allows of a font s, which is one of bytes.
module _ (s : List ℕ) (b : Bytes s) (r : Result ℕ Refused) (promised : in_numbers r ≡ told (check s)) where
  -- It is the verdict's.
  pub answer_is : r ≡ to_result (check s)
  answer_is = one_answer s r (to_result (check s)) promised (numbers_told s (to_result (check s)) b refl)

  -- It is n characters exactly if the font has a cut with n packets.
  pub accepted_exactly : (n : ℕ) → (r ≡ Ok n) ↔ ((x : Parts) × Cut s x × (chars x ≡ n))
  unfolding to_result
  accepted_exactly n = ((λ e. (counts_chars s n b).0 (go (check s) (sym answer_is ∙ e))), (λ t. answer_is ∙ ap to_result ((counts_chars s n b).1 t)))
    where
      go : (x : Answer ℕ) → to_result x ≡ Ok n → x ≡ gives n
      go (gives m) e = let z : m ≡ n = cc in ap gives z
      go (refused x place) e = cc

  -- It is a refusal at a place exactly if that row of 01 holds there, with everything before in order.
  pub refused_exactly : (x : D.Refusal) (place : ℕ) → (r ≡ Err (record { refusal = x; place = place })) ↔ ((y : Refusal) × (x ≡ coded y) × Means s y place)
  unfolding to_result
  refused_exactly x place =
      ((λ e. go (check s) refl (sym answer_is ∙ e)), (λ t. answer_is ∙ ap to_result ((check_refuses s t.0 place b).1 t.2) ∙ rw t.1 refl))
    where
      go : (a : Answer ℕ) → check s ≡ a → to_result a ≡ Err (record { refusal = x; place = place }) → (y : Refusal) × (x ≡ coded y) × Means s y place
      go (gives m) q e = cc
      go (refused y at) q e =
          let k : refused_at y at ≡ record { refusal = x; place = place } = cc in
          let z : coded y ≡ x = ap (λ (t : Refused). t.refusal) k in
          let i : at ≡ place = ap (λ (t : Refused). t.place) k in
          (y, sym z, (check_refuses s y place b).0 (q ∙ ap (refused y) i))
