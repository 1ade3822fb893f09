use Rattle.size.proofs.LengthLaws.{is_two}
use Rattle.size.proofs.one_or_two.Goals as goal

pub returns : goal.returns
returns c = is_two _ _ c.requires.0 c.requires.1
