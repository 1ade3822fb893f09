use Rattle.format.specs.Choice.{first_black}
use Rattle.std.proofs.lemmas.Grind.{common_steps}
use borrow.Author.Tests.{tests}
use native.Mathlib.Omega.{arith}
use Rattle.pack.proofs.first_black.Goals as goal

pub returns-then-f-ne14 : goal.returns-then-f-ne14
unfolding first_black
returns-then-f-ne14 c = grind (arith, common_steps, tests)

pub returns-else-f-ne14 : goal.returns-else-f-ne14
unfolding first_black
returns-else-f-ne14 c = grind (arith, common_steps, tests)
