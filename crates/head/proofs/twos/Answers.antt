use mathlib.Core.Path.{ap, ◌∙◌}
use lib.Signed.{mag}
use mir.Syntax.{w64}
use mir.Facts.{to_z-of_z}
use Rattle.sign.proofs.SignLaws.{negative, natural}
use Rattle.head.proofs.ValueLaws.{twos_below, twos_above}
use Rattle.head.proofs.twos.Goals as goal

pub returns-then-z-lt0 : goal.returns-then-z-lt0
returns-then-z-lt0 c =
    let b = to_z-of_z {w = w64} c.ranges.z in
    twos_below c.args.k c.args.z c.values_of-top.ensures (c.magnitude-n.ensures.0 ∙ ap mag b) c.requires.1 (negative _ b c.if-z-lt0.true)

pub returns-else-z-lt0 : goal.returns-else-z-lt0
returns-else-z-lt0 c =
    let b = to_z-of_z {w = w64} c.ranges.z in
    twos_above c.args.k c.args.z (c.magnitude-n.ensures.0 ∙ ap mag b) (natural _ b c.if-z-lt0.false)
