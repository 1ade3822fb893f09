use Rattle.scan.proofs.WordLaws.{difference_here}
use Rattle.scan.proofs.first_difference.Goals as goal

pub returns : goal.returns
returns c = difference_here _ _ _ _ _ c.first_unlike.ensures
