use Rattle.scan.proofs.WordLaws.{other_here}
use Rattle.scan.proofs.first_other.Goals as goal

pub returns : goal.returns
returns c = other_here _ _ _ _ _ c.first_unlike.ensures
