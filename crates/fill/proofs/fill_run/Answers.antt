use Rattle.fill.proofs.Fill.{fill_is}
use Rattle.fill.proofs.fill_run.Goals as goal

pub returns : goal.returns
returns c = fill_is c.args.buf.now c.args.at c.args.n c.args.v c.requires (c.fill.ensures.after (λ y e. e))
