use Rattle.std.proofs.lemmas.Result.{err_from_is_err_and}
use Rattle.packet.proofs.StandingLaws.{bytes_fit}
use Rattle.draw.proofs.CodeLaws.{accepted, refused_answer, refused_pixels}
use Rattle.draw.proofs.draw.Goals as goal

pub returns-in_err-check : goal.returns-in_err-check
returns-in_err-check c =
    let p = err_from_is_err_and c.from_residual.result c.from_residual.ensures.1 in
    record {
      result_value = rw (p.1, p.2) (refused_answer _ _ _ _ _ c.in_err-check.was c.check.ensures);
      pixels_after = refused_pixels _ _ _ _ _ c.in_err-check.was c.check.ensures;
    }

pub draw_accepted-requires : goal.draw_accepted-requires
draw_accepted-requires c =
    accepted c.args.font.now (bytes_fit _ c.type_inv.font) _ _ c.in_ok-check.was c.check.ensures
