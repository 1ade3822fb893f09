use Rattle.bit_bytes.proofs.EightLaws.{pixel_in}
use Rattle.bit_bytes.proofs.Pixels.pixel_at.Goals as goal

pub returns-then-i-self : goal.returns-then-i-self
returns-then-i-self c = pixel_in _ _ _ c.args.self.are c.from.ensures
