use mathlib.Core.Path.{ap, ◌∙◌}
use lib.Signed.{mag}
use mir.Syntax.{w64}
use mir.Facts.{to_z-of_z}
use Rattle.sign.proofs.SignLaws.{negative, natural}
use Rattle.pack.proofs.TestLaws.{not_wide, not_high, limits_are}
use Rattle.pack.proofs.within_limits.Goals as goal

pub returns-then-w-lt0 : goal.returns-then-w-lt0
returns-then-w-lt0 c = not_wide _ _ (negative _ (to_z-of_z {w = w64} c.ranges.w) c.if-w-lt0.true)

pub returns-then-h-lt0 : goal.returns-then-h-lt0
returns-then-h-lt0 c = not_high _ _ (negative _ (to_z-of_z {w = w64} c.ranges.h) c.if-h-lt0.true)

pub returns : goal.returns
returns c =
    let x = to_z-of_z {w = w64} c.ranges.w in
    let y = to_z-of_z {w = w64} c.ranges.h in
    limits_are _ _ _ _ _ (natural _ x c.if-w-lt0.false) (natural _ y c.if-h-lt0.false) (c.magnitude.ensures.0 ∙ ap mag x) (c.magnitude-2.ensures.0 ∙ ap mag y) c.in_limits.ensures
