use Rattle.bit_bytes.proofs.EightLaws.{two_is}
use Rattle.bit_bytes.proofs.Pixels.two.Goals as goal

pub returns : goal.returns
returns c = two_is _ _ c.args.self.are c.from.ensures c.from-2.ensures
