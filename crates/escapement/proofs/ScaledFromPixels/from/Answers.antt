use mir.Facts.{to_z_pos, to_z-of_z}
use Rattle.std.proofs.Common.{rules}
use Rattle.format.specs.Measures.{to_scaled}
use Rattle.escapement.proofs.ScaledFromPixels.from.Goals as goal

pub returns : goal.returns
unfolding to_scaled
returns c = search (rules, to_z_pos, to_z-of_z)
