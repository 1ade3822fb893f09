use Rattle.find.proofs.RestLaws.{preamble_third}
use Rattle.find.proofs.GoingLaws.{first_is}
use Rattle.find.proofs.first_place.Goals as goal

pub bounds-font-2 : goal.bounds-font-2
bounds-font-2 c = (preamble_third _ _ c.requires.1).0

pub returns : goal.returns
returns c = first_is _ _ c.from.ensures
