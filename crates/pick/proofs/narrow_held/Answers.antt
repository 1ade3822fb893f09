use mir.Facts.{to_z-of_z}
use Rattle.pick.proofs.TestLaws.{narrow_all}
use Rattle.pick.proofs.narrow_held.Goals as goal

pub returns : goal.returns
returns c =
    narrow_all c.args.top c.args.half c.args.m c.args.dm _ (search to_z-of_z) (search to_z-of_z) (search to_z-of_z) (search to_z-of_z) (search to_z-of_z)
    c.from.ensures c.eq.ensures c.eq-2.ensures c.held_plain.ensures c.from-2.ensures c.magnitude.ensures.0 c.magnitude-2.ensures.0 c.magnitude-3.ensures.0 c.magnitude-4.ensures.0
