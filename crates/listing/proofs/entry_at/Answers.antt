use Rattle.packet.proofs.StandingLaws.{bytes_fit}
use Rattle.measures.proofs.StandLaws.{inside}
use Rattle.listing.proofs.HeadingLaws.{entry_is_lem}
use Rattle.listing.proofs.entry_at.Goals as goal

pub bounds-font-at : goal.bounds-font-at
bounds-font-at c = inside _ (bytes_fit _ c.type_inv.font) _ _ c.requires

pub returns : goal.returns
returns c =
    entry_is_lem _ (bytes_fit _ c.type_inv.font) _ _ c.requires c.of-form.result _ (rw c.from.ensures at c.of-form.ensures) c.measures_at-m.ensures
