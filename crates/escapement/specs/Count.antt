-- The two counts as 01's. Assumes nothing: these are definitions.
use Rattle.std.specs.Prelude.{cond, ltb}
use Rattle.format.specs.Measures as Measures
use Rattle.escapement.specs.declared.Pixels.{Pixels}
use Rattle.escapement.specs.declared.Scaled.{Scaled}

abbrev pub whole_of : Pixels → Measures.Pixels
whole_of p = Measures.pixels p.0

abbrev pub scaled_of : Scaled → Measures.Scaled
scaled_of d = Measures.scaled d.0

-- The pixels, or 0 where they are more than 65,535.
abbrev pub capped : Measures.Pixels → Measures.Pixels
capped (Measures.pixels n) = Measures.pixels (cond (ltb 65535 n) 0 n)
