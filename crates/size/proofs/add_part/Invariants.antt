use lib.ListN.{take}
use Rattle.format.specs.Choice.{nybble_count}
use Rattle.part.specs.Parts.{kept}
use Rattle.size.specs.Sizes.{Grown}
use Rattle.size.proofs.add_part.Given as goal

abbrev pub invariant-loop-r : goal.invariant-loop-r
invariant-loop-r l = Grown l.initial.t (nybble_count (kept (take l.r-index l.runs))) l.t
