use mathlib.Core.Path.{refl}
use Rattle.packet.proofs.StandingLaws.{bytes_fit}
use Rattle.measures.specs.Said.{said}
use Rattle.refusals.proofs.AnswerLaws.{given, not_given}
use Rattle.zahrufin.proofs.FitLaws.{draw_fits}
use Rattle.zahrufin.proofs.HandedLaws.{drawn_says, drawn_refuses}
use Rattle.zahrufin.proofs.zahrufin_draw.Goals as goal

pub overflow_cast-result : goal.overflow_cast-result
overflow_cast-result c =
    let s = c.args.font.now in
    record { fits = (draw_fits s _ _ _ _ (bytes_fit _ c.type_inv.font) (not_given said _ _ c.draw.ensures.result_value _ c.in-Err.is)).1 }

pub returns-in-Ok-clause-value : goal.returns-in-Ok-clause-value
returns-in-Ok-clause-value c = drawn_says _ _ _ (given said _ _ c.draw.ensures.result_value _ c.in-Ok.is) c.from.ensures

pub returns-in-Err-clause-value : goal.returns-in-Err-clause-value
returns-in-Err-clause-value c = rw c.number.ensures (drawn_refuses _ _ _ _ (not_given said _ _ c.draw.ensures.result_value _ c.in-Err.is) refl)
