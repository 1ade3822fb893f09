use native.Mathlib.Omega.{arith}
use Rattle.fields.proofs.Rebuilt.{twice_most, lack_fits, lower_half, upper_half}
use borrow.Author.Rules.{rules}
use Rattle.fields.proofs.signed_at.Goals as goal

pub overflow_mul-n : goal.overflow_mul-n
overflow_mul-n c = omega (arith, twice_most _ _ _ _ c.number_at-n.ensures (omega arith))

pub overflow_cast-result : goal.overflow_cast-result
overflow_cast-result c = search (rules, twice_most _ _ _ _ c.number_at-n.ensures (omega arith))

pub overflow_sub-result-else-n-all : goal.overflow_sub-result-else-n-all
overflow_sub-result-else-n-all c = lack_fits _ _ _ c.values_of-all.ensures (omega arith)

pub returns-then-n-all : goal.returns-then-n-all
returns-then-n-all c = lower_half _ _ _ _ _ c.number_at-n.ensures c.values_of-all.ensures (omega arith) (omega arith)

pub returns-else-n-all : goal.returns-else-n-all
returns-else-n-all c = upper_half _ _ _ _ _ c.number_at-n.ensures c.values_of-all.ensures (omega arith) (omega arith)
