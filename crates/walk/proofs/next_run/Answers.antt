use native.Mathlib.Omega.{arith}
use Rattle.walk.proofs.RunLaws.{row_counted, row_open, rows_counted, items_done}
use Rattle.walk.proofs.LeftLaws.{left_over_lem}
use Rattle.walk.proofs.next_run.Goals as goal

pub returns-then-rows-c : goal.returns-then-rows-c
returns-then-rows-c c = items_done _ _ _ (left_over_lem c.requires (omega arith) (omega arith))

pub returns-then-d : goal.returns-then-d
returns-then-d c = row_counted c.requires c.run_in_row-t.ensures (omega arith)

pub across-requires : goal.across-requires
across-requires c = row_open c.requires c.run_in_row-t.ensures (omega arith)

pub returns : goal.returns
returns c = rows_counted c.across.result c.requires c.run_in_row-t.ensures c.across.ensures
