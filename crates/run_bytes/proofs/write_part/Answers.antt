use native.Mathlib.Omega.{arith}
use Rattle.run_bytes.proofs.WritingLaws.{part_none, part_room, part_more}
use Rattle.run_bytes.proofs.write_part.Goals as goal

pub loop-r-init : goal.loop-r-init
loop-r-init c = part_none _ _ _ c.args.runs.now

pub write_run-to-requires : goal.write_run-to-requires
write_run-to-requires c = let p = c.requires in (p.0 _ _ (omega arith), part_room _ _ c.loop-r.invariant (omega arith) _ p.1)

pub loop-r-preserved : goal.loop-r-preserved
loop-r-preserved c = part_more _ _ c.loop-r.invariant (omega arith) _ c.write_run-to.ensures
