use mathlib.Core.Path.{◌≡◌, ap, ◌∙◌}
use mathlib.Core.Bool.{true, false}
use lib.Signed.{mag}
use mir.Facts.{to_z-of_z}
use borrow.Author.Tests.{lt-ltb, le-ltb}
use Rattle.sign.proofs.SignLaws.{at64, negative, natural}
use Rattle.escapement.proofs.WholeLaws.{whole_below, whole_above}
use Rattle.escapement.proofs.Scaled.whole.Goals as goal

pub returns-then-self-lt0 : goal.returns-then-self-lt0
returns-then-self-lt0 c = whole_below _ (negative _ (search to_z-of_z) c.if-self-lt0.true)

pub returns-then-n-gt65535 : goal.returns-then-n-gt65535
returns-then-n-gt65535 c =
    let b : at64 c.args.self.0 ≡ c.args.self.0 = search to_z-of_z in
    whole_above _ true (natural _ b c.if-self-lt0.false) (c.magnitude-n.ensures.0 ∙ ap mag b) (lt-ltb 65535 _ c.if-n-gt65535.true)

pub returns : goal.returns
returns c =
    let b : at64 c.args.self.0 ≡ c.args.self.0 = search to_z-of_z in
    whole_above _ false (natural _ b c.if-self-lt0.false) (c.magnitude-n.ensures.0 ∙ ap mag b) (le-ltb 65535 _ c.if-n-gt65535.false)
