-- What C is handed, from the answers of the three calls. Assumes nothing.
use Prim.Native.Nat.{ℕ}
use mathlib.Core.Path.{◌≡◌, ap}
use Rattle.format.specs.Refusals.{Told, says, refuses}
use Rattle.format.specs.Measures as F
use Rattle.zahrufin.specs.Handed.{plain_of, no_measures, checked_for, drawn_for, packed_for}
use Rattle.zahrufin.specs.declared.PlainMeasures.{PlainMeasures}
use Rattle.zahrufin.specs.declared.PlainChecked.{PlainChecked}
use Rattle.zahrufin.specs.declared.PlainDrawn.{PlainDrawn}
use Rattle.zahrufin.specs.declared.PlainPacked.{PlainPacked}

-- The structs.
pub checked_says : (n : ℕ) (t : Told ℕ) → says n ≡ t → ◌≡◌ {A = PlainChecked} record { refusal = 0; place = 0; chars = n } (checked_for t)
unfolding checked_for
checked_says n t e = ap checked_for e

pub checked_refuses : (x p : ℕ) (t : Told ℕ) → refuses x p ≡ t → ◌≡◌ {A = PlainChecked} record { refusal = x; place = p; chars = 0 } (checked_for t)
unfolding checked_for
checked_refuses x p t e = ap checked_for e

pub drawn_says : (m : F.Measures) (k : PlainMeasures) (t : Told F.Measures) → says m ≡ t → k ≡ plain_of m → ◌≡◌ {A = PlainDrawn} record { refusal = 0; place = 0; measures = k } (drawn_for t)
unfolding drawn_for
drawn_says m k t e q = rw q (ap drawn_for e)

pub drawn_refuses : (x p : ℕ) (k : PlainMeasures) (t : Told F.Measures) → refuses x p ≡ t → k ≡ no_measures → ◌≡◌ {A = PlainDrawn} record { refusal = x; place = p; measures = k } (drawn_for t)
unfolding drawn_for
drawn_refuses x p k t e q = rw q (ap drawn_for e)

pub packed_says : (n : ℕ) (t : Told ℕ) → says n ≡ t → ◌≡◌ {A = PlainPacked} record { refusal = 0; place = 0; length = n } (packed_for t)
unfolding packed_for
packed_says n t e = ap packed_for e

pub packed_refuses : (x p : ℕ) (t : Told ℕ) → refuses x p ≡ t → ◌≡◌ {A = PlainPacked} record { refusal = x; place = p; length = 0 } (packed_for t)
unfolding packed_for
packed_refuses x p t e = ap packed_for e
