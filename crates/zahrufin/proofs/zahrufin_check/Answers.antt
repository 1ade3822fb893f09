use Prim.Native.Nat.{ℕ}
use Rattle.packet.proofs.StandingLaws.{bytes_fit}
use Rattle.refusals.proofs.AnswerLaws.{given, not_given}
use Rattle.zahrufin.proofs.FitLaws.{chars_fit, check_fits}
use Rattle.zahrufin.proofs.HandedLaws.{checked_says, checked_refuses}
use Rattle.zahrufin.proofs.zahrufin_check.Goals as goal

pub overflow_cast-result : goal.overflow_cast-result
overflow_cast-result c =
    let s = c.args.font.now in
    record { fits = chars_fit s _ (bytes_fit _ c.type_inv.font) (given (λ (n : ℕ). n) _ _ c.check.ensures _ c.in-Ok.is) }

pub overflow_cast-result-in-Err : goal.overflow_cast-result-in-Err
overflow_cast-result-in-Err c =
    let s = c.args.font.now in
    record { fits = (check_fits s _ _ (bytes_fit _ c.type_inv.font) (not_given (λ (n : ℕ). n) _ _ c.check.ensures _ c.in-Err.is)).1 }

pub returns-in-Ok : goal.returns-in-Ok
returns-in-Ok c = checked_says _ _ (given (λ (n : ℕ). n) _ _ c.check.ensures _ c.in-Ok.is)

pub returns-in-Err : goal.returns-in-Err
returns-in-Err c = rw c.number.ensures (checked_refuses _ _ _ (not_given (λ (n : ℕ). n) _ _ c.check.ensures _ c.in-Err.is))
