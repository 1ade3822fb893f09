use mathlib.Core.Path.{refl}
use native.Mathlib.Omega.{arith}
use Rattle.walk.proofs.BeginLaws.{begin_inside}
use Rattle.size.proofs.ChosenLaws.{counted, choose_none, choose_bits, choose_runs}
use Rattle.size.proofs.choose.Goals as goal

pub returns-then-b-eq0-clause-chosen : goal.returns-then-b-eq0-clause-chosen
returns-then-b-eq0-clause-chosen c = choose_none _ _ _ _ c.if-b-eq0.true c.args.b.small refl (omega arith)

pub restart-requires : goal.restart-requires
restart-requires c = let b = c.args.b in begin_inside _ _ _ (omega arith) b.size b.small

pub returns-then-bits-bytes-clause-chosen : goal.returns-then-bits-bytes-clause-chosen
returns-then-bits-bytes-clause-chosen c =
    let b = c.args.b in
    let s = c.sizes-t.ensures in
    choose_bits _ _ _ _ _ _ (omega arith) b.size b.small (counted _ (omega arith) b.size s) c.least_of-f.ensures (omega arith) refl (omega arith)

pub returns-clause-chosen : goal.returns-clause-chosen
returns-clause-chosen c =
    let b = c.args.b in
    let s = c.sizes-t.ensures in
    choose_runs _ _ _ _ _ (omega arith) b.size b.small (counted _ (omega arith) b.size s) c.least_of-f.ensures (omega arith) (omega arith)
