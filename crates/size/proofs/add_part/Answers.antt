use native.Mathlib.Omega.{arith}
use Rattle.size.proofs.TotalLaws.{part_none, part_asks, part_more}
use Rattle.size.proofs.add_part.Goals as goal

pub loop-r-init : goal.loop-r-init
loop-r-init c = part_none _ c.args.runs.now c.requires.0.long

pub add_run-requires : goal.add_run-requires
add_run-requires c = let p = c.requires in part_asks _ c.loop-r.invariant p.2 (omega arith) _ p.0 p.1

pub loop-r-preserved : goal.loop-r-preserved
loop-r-preserved c = part_more _ c.loop-r.invariant c.requires.2 (omega arith) _ c.add_run.ensures
