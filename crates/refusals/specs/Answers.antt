-- What a call answers, in the table's numbers. Assumes nothing: these are definitions.
use Rattle.std.specs.Prelude.{ℕ, Ok, Err}
use Rattle.std.specs.declared.result.Result.{Result}
use Rattle.format.specs.Refusals as F
use Rattle.format.specs.Refusals.{Answer, gives, refused, Told, says, refuses}
use Rattle.refusals.specs.Names.{number_of, coded, placed}
use Rattle.refusals.specs.declared.Refused.{Refused}

-- A row at a place.
abbrev pub refused_at : F.Refusal → ℕ → Refused
refused_at x place = placed (coded x) place

-- The call's answer for one of the definitions.
unfoldable pub to_result : {A : Type 0} → Answer A → Result A Refused
to_result (gives a) = Ok a
to_result (refused x place) = Err (refused_at x place)

-- What is given, as the definitions have it, or the refusal's number and place.
unfoldable pub numbers : {A B : Type 0} → (A → B) → Result A Refused → Told B
numbers f (Ok a) = says (f a)
numbers f (Err e) = refuses (number_of e.refusal) e.place
