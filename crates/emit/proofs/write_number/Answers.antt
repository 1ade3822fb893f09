use mathlib.Core.Path.{ap}
use native.Mathlib.Omega.{arith}
use lib.ListN.{length}
use Rattle.emit.proofs.PutLaws.{number_one, first_within, number_two, number_large}
use Rattle.emit.proofs.write_number.Goals as goal

pub returns-then-n-f : goal.returns-then-n-f
returns-then-n-f c = number_one _ _ _ _ _ (omega arith) c.put_nybble.ensures

pub returns-then-k-f-lt13 : goal.returns-then-k-f-lt13
returns-then-k-f-lt13 c = number_two _ _ _ _ _ _ (omega arith) (first_within _ _ (omega arith) (omega arith) (omega arith)) c.put_nybble-then-k-f-lt13.ensures c.put_nybble-then-k-f-lt13-2.ensures

pub write_large-requires : goal.write_large-requires
write_large-requires c = let a = c.args in omega (arith, ap length (number_large a.f.n a.n _ (omega arith) (omega arith) (omega arith) c.limit_of-m.ensures))

pub returns : goal.returns
returns c =
    let a = c.args in
    rw (number_large a.f.n a.n _ (omega arith) (omega arith) (omega arith) c.limit_of-m.ensures) c.write_large.ensures
