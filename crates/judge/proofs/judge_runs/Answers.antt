use mathlib.Core.Path.{sym, subst}
use native.Mathlib.Omega.{arith}
use Rattle.format.proofs.FieldLaws.{bytes_of_lem}
use Rattle.std.proofs.lemmas.Result.{err_from_is_err_and}
use Rattle.state.specs.Moves.{plain}
use Rattle.judge.proofs.LeftLaws.{Left, left_start, left_turn, left_stop, left_end}
use Rattle.judge.proofs.judge_runs.Goals as goal

pub loop-state-init : goal.loop-state-init
loop-state-init c =
    let a = c.args in
    subst (λ x. Left a.s.now a.f.n a.w a.h 0 (plain x)) (sym c.start-state.ensures)
    (left_start _ _ _ _ (bytes_of_lem a.s.now (λ i. omega (arith, c.type_inv.s i))) (omega arith) (omega arith))

pub loop-state-smaller : goal.loop-state-smaller
loop-state-smaller c =
    let t = left_turn c.loop-state.invariant (omega arith) c.loop-state.state.black _ _ _ c.args.f.small (omega arith) c.in_ok-state.was c.turn_at.ensures in
    omega (arith, t.0, t.1.low)

pub loop-state-preserved : goal.loop-state-preserved
loop-state-preserved c =
    (left_turn c.loop-state.invariant (omega arith) c.loop-state.state.black _ _ _ c.args.f.small (omega arith) c.in_ok-state.was c.turn_at.ensures).1

pub returns-in_err-state : goal.returns-in_err-state
returns-in_err-state c =
    let p = err_from_is_err_and c.from_residual.result c.from_residual.ensures.1 in
    rw (p.1, p.2) (left_stop c.loop-state.invariant (omega arith) c.loop-state.state.black _ _ c.in_err-state.was c.turn_at.ensures)

pub returns : goal.returns
returns c = left_end c.loop-state.invariant _ (omega arith) c.finish.ensures
