use Rattle.items.proofs.ItemLaws.{item_short}
use Rattle.items.proofs.item_at.Goals as goal

pub returns-in-Some : goal.returns-in-Some
returns-in-Some c = item_short _ _ _ _ _ c.args.f.small (c.short_at.ensures.some _ c.in-Some.is)
