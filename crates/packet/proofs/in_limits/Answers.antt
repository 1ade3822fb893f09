use Rattle.std.proofs.Common.{rules, arith}
use Rattle.std.proofs.lemmas.Grind.{common_steps}
use Rattle.packet.proofs.LimitLaws.{limits_zero, limits_flat, limits_both, limits_wide, limits_high}
use Rattle.packet.proofs.in_limits.Goals as goal

pub returns-then-w-eq0 : goal.returns-then-w-eq0
returns-then-w-eq0 c = grind (arith, common_steps, limits_zero, limits_flat)

pub returns-then-w-gt65536 : goal.returns-then-w-gt65536
returns-then-w-gt65536 c = grind (arith, common_steps, limits_wide, limits_high)

pub returns : goal.returns
returns c = search (rules, limits_both)
