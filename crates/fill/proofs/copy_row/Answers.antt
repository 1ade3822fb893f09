use mathlib.Core.Path.{◌∙◌}
use Rattle.fill.proofs.RowLaws.{row_copied}
use Rattle.fill.proofs.copy_row.Goals as goal

pub returns : goal.returns
returns c = c.copy_within.ensures.after ∙ row_copied c.args.buf.now c.args.at c.args.w c.requires.0 c.requires.1
