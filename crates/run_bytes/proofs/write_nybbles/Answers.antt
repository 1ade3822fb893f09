use Rattle.run_bytes.proofs.WritingLaws.{writing_room, writing_more}
use Rattle.run_bytes.proofs.write_nybbles.Goals as goal

pub write_part-to-requires : goal.write_part-to-requires
write_part-to-requires c = rw c.runs.ensures (c.loop-f.invariant.part.walked.runs, writing_room _ c.loop-f.invariant)

pub loop-f-preserved : goal.loop-f-preserved
loop-f-preserved c = writing_more _ c.loop-f.invariant (rw c.runs.ensures at c.write_part-to.ensures) c.walk_on.ensures
