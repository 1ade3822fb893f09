use Rattle.size.proofs.LengthLaws.{is_over}
use Rattle.size.proofs.above.Goals as goal

pub returns : goal.returns
returns c = is_over _ _ c.requires.0 c.requires.1
