use mathlib.Core.Path.{ap, ◌∙◌}
use mir.Syntax.{w64}
use mir.Facts.{to_z-of_z}
use Rattle.format.specs.Numbers.{twos}
use Rattle.head.proofs.ValueLaws.{long_all}
use Rattle.head.proofs.long_values.Goals as goal

pub returns : goal.returns
returns c =
    let a = c.args in
    long_all a.m a.length (search to_z-of_z) (search to_z-of_z) (search to_z-of_z) (search to_z-of_z) (search to_z-of_z) (search to_z-of_z)
    c.magnitude-code.ensures.0 c.twos-tfm.ensures c.twos-across.ensures c.twos-down.ensures
    c.magnitude-w.ensures.0 c.magnitude-h.ensures.0
    (c.twos-hoff.ensures ∙ ap (twos 4) (to_z-of_z {w = w64} c.ranges.x ∙ c.requires.5)) (c.twos-voff.ensures ∙ ap (twos 4) (to_z-of_z {w = w64} c.ranges.y ∙ c.requires.6))
