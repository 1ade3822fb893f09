use mathlib.Core.Path.{sym, ap, ◌∙◌}
use native.Mathlib.Omega.{arith}
use Rattle.std.proofs.lemmas.Result.{err_from_is_err_and}
use Rattle.items.specs.Items.{wanted, as_run, as_repeat}
use Rattle.items.proofs.ItemLaws.{item_past, item_run, item_second, item_fifteen, item_fourteen}
use Rattle.items.proofs.other_at.Goals as goal

pub returns-then-s-at : goal.returns-then-s-at
returns-then-s-at c = item_past _ _ _ _ (omega arith)

pub returns-in_err-run : goal.returns-in_err-run
returns-in_err-run c =
    let p = err_from_is_err_and c.from_residual.result c.from_residual.ensures.1 in
    rw (p.1, p.2) (ap as_run (sym c.in_err-run.was) ∙ ap as_run c.number_at.ensures ∙ item_run _ _ _ _ c.nybble-x.result c.nybble-x.ensures.is (omega arith) (omega arith))

pub returns-then-x-lt14 : goal.returns-then-x-lt14
returns-then-x-lt14 c =
    ap as_run (sym c.in_ok-run.was) ∙ ap as_run c.number_at.ensures ∙ item_run _ _ _ _ c.nybble-x.result c.nybble-x.ensures.is (omega arith) (omega arith)

pub returns-then-repeat-gt0 : goal.returns-then-repeat-gt0
returns-then-repeat-gt0 c =
    item_second _ _ _ _ c.nybble-x.result c.nybble-x.ensures.is (omega arith) (omega arith) (omega arith)

pub returns-then-x-eq15 : goal.returns-then-x-eq15
returns-then-x-eq15 c =
    item_fifteen _ _ _ _ c.nybble-x.result c.nybble-x.ensures.is (omega arith) (omega arith) (omega arith)

pub returns-in-Some : goal.returns-in-Some
returns-in-Some c =
    ap (λ r. as_repeat (wanted r)) (sym (c.short_at.ensures.some _ c.in-Some.is))
    ∙ item_fourteen _ _ _ _ c.nybble-x.result c.nybble-x.ensures.is (omega arith) (omega arith) (λ e. omega arith) (omega arith)

pub returns-in_err-number : goal.returns-in_err-number
returns-in_err-number c =
    let p = err_from_is_err_and c.from_residual-in_err-number.result c.from_residual-in_err-number.ensures.1 in
    rw (p.1, p.2) (ap as_repeat (sym c.in_err-number.was) ∙ ap as_repeat c.number_at-2.ensures
    ∙ item_fourteen _ _ _ _ c.nybble-x.result c.nybble-x.ensures.is (omega arith) (omega arith) (λ e. omega arith) (omega arith))

pub returns : goal.returns
returns c =
    ap as_repeat (sym c.in_ok-number.was) ∙ ap as_repeat c.number_at-2.ensures
    ∙ item_fourteen _ _ _ _ c.nybble-x.result c.nybble-x.ensures.is (omega arith) (omega arith) (λ e. omega arith) (omega arith)
