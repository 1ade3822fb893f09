use Prim.Native.Nat.{◌-◌, ◌≤◌}
use mathlib.Core.Path.{◌≡◌}
use lib.ListN.{take}
use Rattle.fill.specs.Rows.{last_row}
use Rattle.fill.proofs.RowLaws.{after}
use Rattle.fill.proofs.copy_rows.Given as goal

abbrev pub invariant-loop-done : goal.invariant-loop-done
invariant-loop-done l = (l.buf ≡ after l.initial.buf l.at l.w (last_row l.w (take l.at l.initial.buf)) l.done) × (l.done ≤ l.t)

abbrev pub decreases-loop-done : goal.decreases-loop-done
decreases-loop-done l = l.t - l.done
