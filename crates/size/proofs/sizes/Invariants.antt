use Prim.Native.Nat.{◌+◌, ◌-◌}
use lib.ListN.{length}
use Rattle.size.proofs.TotalLaws.{Summed}
use Rattle.size.proofs.sizes.Given as goal

abbrev pub invariant-loop-part : goal.invariant-loop-part
invariant-loop-part l = Summed l.rows.pixels.now l.rows.w l.fn.part l.several l.t l.part

abbrev pub decreases-loop-part : goal.decreases-loop-part
decreases-loop-part l = length l.rows.pixels.now - l.part.cursor.at + l.part.n
