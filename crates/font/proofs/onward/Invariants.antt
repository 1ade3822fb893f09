use Prim.Native.Nat.{◌-◌}
use lib.ListN.{length}
use Rattle.font.proofs.GoingLaws.{Going}
use Rattle.font.proofs.onward.Given as goal

abbrev pub invariant-loop-code : goal.invariant-loop-code
invariant-loop-code l = Going l.font l.start l.at l.chars l.seen

abbrev pub decreases-loop-code : goal.decreases-loop-code
decreases-loop-code l = length l.font - l.at
