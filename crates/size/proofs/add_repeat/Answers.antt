use native.Mathlib.Omega.{arith}
use Rattle.std.proofs.Common.{rules}
use Rattle.size.proofs.TotalLaws.{added_grown, mark_room, repeat_mark, repeat_number}
use Rattle.size.proofs.add_repeat.Goals as goal

pub returns-then-m-eq1 : goal.returns-then-m-eq1
returns-then-m-eq1 c = repeat_mark _ (added_grown (λ f. 1) c.add_each.ensures (λ f n h k. search rules)) (omega arith)

pub add_number-requires : goal.add_number-requires
add_number-requires c = (mark_room (added_grown (λ f. 1) c.add_each.ensures (λ f n h k. search rules)) c.requires.0, omega arith)

pub returns : goal.returns
returns c = repeat_number _ (added_grown (λ f. 1) c.add_each.ensures (λ f n h k. search rules)) (omega arith) c.add_number.ensures
