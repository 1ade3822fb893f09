use native.Mathlib.Omega.{arith}
use Rattle.std.proofs.Common.{rules}
use Rattle.size.specs.Sizes.{short_nybbles, digit_nybbles}
use Rattle.size.proofs.TotalLaws.{added_grown, number_short, number_room, number_long}
use Rattle.size.proofs.add_number.Goals as goal

pub returns-then-n-lt254 : goal.returns-then-n-lt254
returns-then-n-lt254 c = number_short _ (added_grown (λ f. short_nybbles f c.args.n) c.add_each.ensures (λ f n h k. search rules)) (omega arith)

pub add_each-requires-2-clause-room : goal.add_each-requires-2-clause-room
add_each-requires-2-clause-room c = number_room c.args.n (added_grown (λ f. short_nybbles f c.args.n) c.add_each.ensures (λ f n h k. search rules)) c.requires.0

pub returns : goal.returns
returns c =
    number_long _ (added_grown (λ f. short_nybbles f c.args.n) c.add_each.ensures (λ f n h k. search rules)) (omega arith) (added_grown (λ f. digit_nybbles f c.args.n) c.add_each-2.ensures (λ f n h k. search rules))
