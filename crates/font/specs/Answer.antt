-- What the public call answers, in 01's numbers. Assumes nothing: these are definitions.
use Rattle.std.specs.Prelude.{ℕ}
use Rattle.std.specs.declared.result.Result.{Result}
use Rattle.format.specs.Refusals.{Told}
use Rattle.refusals.specs.declared.Refused.{Refused}
use Rattle.refusals.specs.Answers.{numbers}

-- The number of characters, or a refusal's number and place.
abbrev pub in_numbers : Result ℕ Refused → Told ℕ
in_numbers = numbers (λ n. n)
