use Rattle.std.proofs.lemmas.Result.{err_from_is_err_and}
use Rattle.packet.proofs.StandingLaws.{bytes_fit}
use Rattle.listing.proofs.HeadingLaws.{counted, font_listed, refused_listed}
use Rattle.listing.proofs.list_font.Goals as goal

pub heading_of-requires : goal.heading_of-requires
heading_of-requires c = counted _ (bytes_fit _ c.type_inv.font) _ c.in_ok-n.ensures

pub first_place-requires : goal.first_place-requires
first_place-requires c = let t = counted c.args.font.now (bytes_fit _ c.type_inv.font) _ c.in_ok-n.ensures in (t.0, t.1)

pub returns : goal.returns
returns c =
    let u = counted c.args.font.now (bytes_fit _ c.type_inv.font) _ c.in_ok-n.ensures in
    let e = font_listed _ _ u _ _ c.heading_of.ensures c.first_place.ensures in
    record { result_value = e.0; starts = e.1 }

pub returns-in_err-n : goal.returns-in_err-n
returns-in_err-n c =
    let p = err_from_is_err_and c.from_residual.result c.from_residual.ensures.1 in
    rw (p.1, p.2) (record { result_value = refused_listed _ _ c.in_err-n.ensures; starts = tt })
