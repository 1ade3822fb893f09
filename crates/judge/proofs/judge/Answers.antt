use mathlib.Core.Path.{refl}
use native.Mathlib.Omega.{arith}
use Rattle.format.proofs.FillLaws.{limited}
use Rattle.judge.proofs.WholeLaws.{none_whole, none_wanted_lem, in_bits_lem, in_runs_lem}
use Rattle.judge.proofs.judge.Goals as goal

pub returns-then-is_empty : goal.returns-then-is_empty
returns-then-is_empty c = none_whole _ _ _ _ (omega arith) (grind arith)

pub returns-else-is_empty : goal.returns-else-is_empty
returns-else-is_empty c = none_wanted_lem _ _ _ _ (omega arith) (grind arith)

pub overflow_mul-w : goal.overflow_mul-w
overflow_mul-w c = omega (arith, (limited c.args.w c.args.h c.requires.1 (λ e. omega arith)).small)

pub judge_bits-requires : goal.judge_bits-requires
judge_bits-requires c =
    let z = limited c.args.w c.args.h c.requires.1 (λ e. omega arith) in
    (z.some, z.small)

pub judge_runs-requires : goal.judge_runs-requires
judge_runs-requires c =
    let z = limited c.args.w c.args.h c.requires.1 (λ e. omega arith) in
    (omega arith, z.high, z.small)

pub returns-in-None : goal.returns-in-None
returns-in-None c = in_bits_lem _ _ _ _ _ (λ e. omega arith) (omega (arith, c.in-None.ensures.none.0 refl)) c.judge_bits.ensures

pub returns-in-Some : goal.returns-in-Some
returns-in-Some c = in_runs_lem _ _ _ _ _ _ (λ e. omega arith) c.in-Some.ensures.some (omega arith) c.judge_runs.ensures
