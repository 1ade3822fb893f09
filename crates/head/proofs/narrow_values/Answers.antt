use mathlib.Core.Path.{ap, ◌∙◌}
use mir.Syntax.{w64}
use mir.Facts.{to_z-of_z}
use Rattle.format.specs.Numbers.{twos}
use Rattle.head.proofs.ValueLaws.{narrow_all}
use Rattle.head.proofs.narrow_values.Goals as goal

pub returns : goal.returns
returns c =
    let a = c.args in
    narrow_all a.k a.m a.dm a.length (search to_z-of_z) (search to_z-of_z) (search to_z-of_z) (search to_z-of_z)
    c.magnitude-code.ensures.0 c.magnitude-tfm.ensures.0 c.from.ensures c.magnitude-w.ensures.0 c.magnitude-h.ensures.0
    (c.twos-hoff.ensures ∙ ap (twos a.k) (to_z-of_z {w = w64} c.ranges.x ∙ c.requires.3)) (c.twos-voff.ensures ∙ ap (twos a.k) (to_z-of_z {w = w64} c.ranges.y ∙ c.requires.4))
