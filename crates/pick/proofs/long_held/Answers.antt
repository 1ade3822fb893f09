use mir.Facts.{to_z-of_z}
use Rattle.pick.proofs.TestLaws.{long_all}
use Rattle.pick.proofs.long_held.Goals as goal

pub returns : goal.returns
returns c =
    long_all c.args.m (search to_z-of_z) (search to_z-of_z) (search to_z-of_z) (search to_z-of_z) (search to_z-of_z)
    c.magnitude.ensures.0 c.magnitude-2.ensures.0 c.magnitude-3.ensures.0 c.magnitude-4.ensures.0 c.magnitude-5.ensures.0
