use Rattle.walk.proofs.LeftLaws.{is_entered}
use Rattle.walk.proofs.enter.Goals as goal

pub returns : goal.returns
returns c = is_entered c.requires.0 c.requires.1 c.repeats_of-r.ensures
