use Prim.Native.Nat.{ℕ}
use Rattle.refusals.proofs.AnswerLaws.{given, not_given}
use Rattle.zahrufin.proofs.FitLaws.{length_fits, pack_fits}
use Rattle.zahrufin.proofs.HandedLaws.{packed_says, packed_refuses}
use Rattle.zahrufin.proofs.zahrufin_pack.Goals as goal

pub overflow_cast-result : goal.overflow_cast-result
overflow_cast-result c = record { fits = length_fits _ _ _ _ (given (λ (n : ℕ). n) _ _ c.pack.ensures.result_value _ c.in-Ok.is) }

pub overflow_cast-result-in-Err : goal.overflow_cast-result-in-Err
overflow_cast-result-in-Err c = record { fits = (pack_fits _ _ _ _ _ (not_given (λ (n : ℕ). n) _ _ c.pack.ensures.result_value _ c.in-Err.is)).1 }

pub returns-in-Ok-clause-value : goal.returns-in-Ok-clause-value
returns-in-Ok-clause-value c = rw (← c.from.ensures) (packed_says _ _ (given (λ (n : ℕ). n) _ _ c.pack.ensures.result_value _ c.in-Ok.is))

pub returns-in-Err-clause-value : goal.returns-in-Err-clause-value
returns-in-Err-clause-value c = rw (c.number.ensures, ← c.from.ensures) (packed_refuses _ _ _ (not_given (λ (n : ℕ). n) _ _ c.pack.ensures.result_value _ c.in-Err.is))
