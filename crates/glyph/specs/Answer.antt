-- What drawing answers, in 01's numbers. Assumes nothing: these are definitions.
use Rattle.std.specs.declared.result.Result.{Result}
use Rattle.format.specs.Refusals.{Told}
use Rattle.format.specs.Measures as F
use Rattle.refusals.specs.declared.Refused.{Refused}
use Rattle.refusals.specs.Answers.{numbers}
use Rattle.measures.specs.declared.Measures.{Measures}
use Rattle.measures.specs.Said.{said}

-- The measures, or a refusal's number and place.
abbrev pub in_numbers : Result Measures Refused → Told F.Measures
in_numbers = numbers said
