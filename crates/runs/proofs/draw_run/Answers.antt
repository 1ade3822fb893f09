use native.Mathlib.Omega.{arith}
use borrow.Author.Rules.{rules}
use Rattle.runs.proofs.RunLaws.{run_short, run_full}
use Rattle.runs.proofs.draw_run.Goals as goal

pub returns-then-n-room : goal.returns-then-n-room
returns-then-n-room c = run_short _ _ _ _ _ _ _ (search rules) (omega arith) c.fill_run.ensures

pub returns : goal.returns
returns c =
    let f1 = c.fill_run-2 in
    let cr = c.copy_rows-next in
    run_full _ _ _ _ _ f1.new.buf cr.new.buf _ _ cr.result (search rules) (omega arith) (omega arith) (omega arith)
    f1.ensures cr.ensures.0 cr.ensures.1 c.fill_run-3.ensures
