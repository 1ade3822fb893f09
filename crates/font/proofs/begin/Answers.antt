use mathlib.Core.Path.{refl}
use native.Mathlib.Omega.{arith}
use Rattle.font.proofs.BeginLaws.{begin_empty, begin_other, begin_one, begin_id, begin_two, begin_short, begin_onward}
use Rattle.font.proofs.begin.Goals as goal

pub returns-then-n-eq0 : goal.returns-then-n-eq0
returns-then-n-eq0 c = rw c.at.ensures (begin_empty _ (omega arith))

pub returns-then-font : goal.returns-then-font
returns-then-font c = rw c.at-then-font.ensures (begin_other _ (λ e. omega arith) (λ e. omega arith))

pub returns-then-n-eq1 : goal.returns-then-n-eq1
returns-then-n-eq1 c = rw c.at-then-n-eq1.ensures (begin_one _ (omega arith) (omega arith))

pub returns-then-font-ne89 : goal.returns-then-font-ne89
returns-then-font-ne89 c = rw c.at-then-font-ne89.ensures (begin_id _ (omega arith) (omega arith) (λ e. omega arith))

pub returns-then-n-eq2 : goal.returns-then-n-eq2
returns-then-n-eq2 c = rw c.at-then-n-eq2.ensures (begin_two _ (omega arith) (omega arith) (omega arith))

pub returns-then-n-start : goal.returns-then-n-start
returns-then-n-start c = rw c.at-then-n-start.ensures (begin_short _ c.from-start.result (omega arith) (omega arith) c.from-start.ensures (omega arith) (omega arith))

pub returns : goal.returns
returns c = begin_onward _ c.from-start.result (omega arith) (omega arith) c.from-start.ensures _ _ refl (omega arith) c.onward.ensures
