use mathlib.Core.Path.{ap, ◌∙◌}
use lib.Signed.{mag}
use mir.Syntax.{w64}
use mir.Facts.{to_z-of_z}
use Rattle.sign.proofs.SignLaws.{negative, natural}
use Rattle.pack.proofs.TestLaws.{no_code, code_is}
use Rattle.pack.proofs.is_code.Goals as goal

pub returns-then-code-lt0 : goal.returns-then-code-lt0
returns-then-code-lt0 c = no_code _ (negative _ (to_z-of_z {w = w64} c.ranges.code) c.if-code-lt0.true)

pub returns : goal.returns
returns c =
    let b = to_z-of_z {w = w64} c.ranges.code in
    code_is _ _ (natural _ b c.if-code-lt0.false) (c.magnitude.ensures.0 ∙ ap mag b)
