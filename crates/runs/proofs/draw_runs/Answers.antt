use mathlib.Core.Path.{ap, ◌∙◌}
use Rattle.std.specs.Prelude.{Ok}
use native.Mathlib.Omega.{arith}
use borrow.Author.Rules.{rules}
use Rattle.format.proofs.FieldLaws.{bytes_of_lem}
use Rattle.runs.proofs.LeftLaws.{left_start, run_fits, left_run, left_repeat, left_sound, left_end}
use Rattle.runs.proofs.draw_runs.Goals as goal

pub loop-state-init : goal.loop-state-init
loop-state-init c =
    let a = c.args in
    left_start _ _ _ _ _ _ _ (omega arith) (omega arith) (omega arith) (bytes_of_lem a.s.now (λ i. omega (arith, c.type_inv.s i))) (search rules) c.start-state.ensures

pub draw_run-requires : goal.draw_run-requires
draw_run-requires c =
    let l = c.loop-state.invariant in
    let k = run_fits l (omega arith) (omega arith) (omega arith) _ c.item_at.ensures _ _ (c.in-Ok-Run.is ∙ ap Ok c.in-Ok-Run.field-0-is) in
    (l.inside.wide, omega (arith, k.0, l.long))

pub past-state-requires : goal.past-state-requires
past-state-requires c =
    let l = c.loop-state.invariant in
    let k = run_fits l (omega arith) (omega arith) (omega arith) _ c.item_at.ensures _ _ (c.in-Ok-Run.is ∙ ap Ok c.in-Ok-Run.field-0-is) in
    (omega arith, omega (arith, k.0), k.1)

pub loop-state-smaller-in-Ok-Run : goal.loop-state-smaller-in-Ok-Run
loop-state-smaller-in-Ok-Run c =
    let l = c.loop-state.invariant in
    let t = left_run l (omega arith) (omega arith) (omega arith) _ c.item_at.ensures _ _ (c.in-Ok-Run.is ∙ ap Ok c.in-Ok-Run.field-0-is) _ _ c.draw_run.ensures (search rules) c.past-state.ensures in
    omega (arith, t.0, t.1.low)

pub loop-state-preserved-in-Ok-Run : goal.loop-state-preserved-in-Ok-Run
loop-state-preserved-in-Ok-Run c =
    let l = c.loop-state.invariant in
    (left_run l (omega arith) (omega arith) (omega arith) _ c.item_at.ensures _ _ (c.in-Ok-Run.is ∙ ap Ok c.in-Ok-Run.field-0-is) _ _ c.draw_run.ensures (search rules) c.past-state.ensures).1

pub loop-state-smaller : goal.loop-state-smaller
loop-state-smaller c =
    let l = c.loop-state.invariant in
    let t = left_repeat l (omega arith) (omega arith) (omega arith) _ c.item_at.ensures _ _ (c.in-Ok-Repeat.is ∙ ap Ok c.in-Ok-Repeat.field-0-is) _ c.repeated-state.ensures in
    omega (arith, t.0, t.1.low)

pub loop-state-preserved : goal.loop-state-preserved
loop-state-preserved c =
    let l = c.loop-state.invariant in
    (left_repeat l (omega arith) (omega arith) (omega arith) _ c.item_at.ensures _ _ (c.in-Ok-Repeat.is ∙ ap Ok c.in-Ok-Repeat.field-0-is) _ c.repeated-state.ensures).1

pub unreachable-requires : goal.unreachable-requires
unreachable-requires c = left_sound c.loop-state.invariant (omega arith) (omega arith) (omega arith) _ c.item_at.ensures _ c.in-Err.is

pub returns : goal.returns
returns c = left_end c.loop-state.invariant (omega arith)
