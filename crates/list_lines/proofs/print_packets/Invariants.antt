use Prim.Native.Nat.{◌-◌}
use lib.ListN.{length}
use Rattle.listing.specs.Listed.{Between}
use Rattle.list_lines.proofs.print_packets.Given as goal

abbrev pub invariant-loop-e : goal.invariant-loop-e
invariant-loop-e g l = Between l.font l.at

abbrev pub decreases-loop-e : goal.decreases-loop-e
decreases-loop-e g l = length l.font - l.at
