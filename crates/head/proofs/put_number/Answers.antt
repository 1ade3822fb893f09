use mathlib.Core.Path.{refl}
use Rattle.head.proofs.FieldLaws.{number_put}
use Rattle.head.proofs.put_number.Goals as goal

pub returns : goal.returns
returns c = (refl, number_put _ _ _ _ c.requires.0 c.requires.1 c.requires.2 c.to_be_bytes-e.ensures c.copy_from_slice.ensures.after)
