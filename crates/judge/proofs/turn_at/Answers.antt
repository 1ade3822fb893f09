use mathlib.Core.Path.{◌∙◌, sym, ap}
use Rattle.std.specs.Prelude.{Ok}
use Rattle.std.proofs.lemmas.Result.{err_from_is_err_and}
use Rattle.judge.proofs.TurnLaws.{turn_is}
use Rattle.judge.specs.Judgement.{on_to}
use Rattle.judge.proofs.turn_at.Goals as goal

pub returns-in_err-n : goal.returns-in_err-n
returns-in_err-n c =
    let p = err_from_is_err_and c.from_residual.result c.from_residual.ensures.1 in
    rw (p.1, p.2) (turn_is _ _ _ _ _ _ _ c.requires _ _ c.in_err-n.was c.item_at.ensures)

pub returns-in_err-run-in-Run : goal.returns-in_err-run-in-Run
returns-in_err-run-in-Run c =
    let r = c.from_residual-in_err-run-in-Run in
    let p = err_from_is_err_and r.result r.ensures.1 in
    rw (p.1, p.2) (ap (λ m. on_to m c.in-Run.next) (sym c.in_err-run-in-Run.was ∙ c.run.ensures)
    ∙ turn_is _ _ _ _ _ _ _ c.requires _ _ (c.in_ok-n.was ∙ ap Ok c.in-Run.is) c.item_at.ensures)

pub returns-in_err-repeat-in-Repeat : goal.returns-in_err-repeat-in-Repeat
returns-in_err-repeat-in-Repeat c =
    let r = c.from_residual-in_err-repeat-in-Repeat in
    let p = err_from_is_err_and r.result r.ensures.1 in
    rw (p.1, p.2) (ap (λ m. on_to m c.in-Repeat.next) (sym c.in_err-repeat-in-Repeat.was ∙ c.repeat.ensures)
    ∙ turn_is _ _ _ _ _ _ _ c.requires _ _ (c.in_ok-n.was ∙ ap Ok c.in-Repeat.is) c.item_at.ensures)

pub returns-in_ok-run-in-Run : goal.returns-in_ok-run-in-Run
returns-in_ok-run-in-Run c =
    ap (λ m. on_to m c.in-Run.next) (sym c.in_ok-run-in-Run.was ∙ c.run.ensures)
    ∙ turn_is _ _ _ _ _ _ _ c.requires _ _ (c.in_ok-n.was ∙ ap Ok c.in-Run.is) c.item_at.ensures

pub returns-in_ok-repeat-in-Repeat : goal.returns-in_ok-repeat-in-Repeat
returns-in_ok-repeat-in-Repeat c =
    ap (λ m. on_to m c.in-Repeat.next) (sym c.in_ok-repeat-in-Repeat.was ∙ c.repeat.ensures)
    ∙ turn_is _ _ _ _ _ _ _ c.requires _ _ (c.in_ok-n.was ∙ ap Ok c.in-Repeat.is) c.item_at.ensures
