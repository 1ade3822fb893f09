-- What holds of a refusal, if a result or an answer is one, carried through tests and through one reading after another. Assumes nothing.
use Prim.Native.Nat.{ℕ}
use mathlib.Core.Path.{◌≡◌, refl}
use mathlib.Core.Bool.{Bool, true, false, cond}
use Rattle.format.specs.Refusals.{Refusal, Answer, gives, refused, answers, Result, ok, fault, ◌>>=◌, need}

-- P holds of the refusal, if the result is one.
abbrev pub IfFault : {A : Type 0} → (Refusal → Type 0) → Result A → Type 0
IfFault P (ok a) = Unit {0}
IfFault P (fault x) = P x

pub fault_to : {A : Type 0} {P Q : Refusal → Type 0} (r : Result A) → ((x : Refusal) → P x → Q x) → IfFault P r → IfFault Q r
fault_to (ok a) f p = tt
fault_to (fault x) f p = f x p

-- One after the other: what follows may use the first's value.
pub bind_fault : {A B : Type 0} (P : Refusal → Type 0) (m : Result A) (f : A → Result B) → IfFault P m → ((a : A) → m ≡ ok a → IfFault P (f a)) → IfFault P (m >>= f)
unfolding ◌>>=◌
bind_fault P (ok a) f p k = k a refl
bind_fault P (fault x) f p k = p

-- A test: what follows may use that it holds.
pub need_case : {B : Type 0} (P : Result B → Type 0) (b : Bool) (x : Refusal) (f : Unit {0} → Result B)
    → (b ≡ false → P (fault x)) → (b ≡ true → P (f tt)) → P (need b x >>= f)
unfolding need ◌>>=◌
need_case P true x f g h = h refl
need_case P false x f g h = g refl

-- P holds of the refusal and its place, if the answer is one.
abbrev pub IfRefused : {A : Type 0} → (Refusal → ℕ → Type 0) → Answer A → Type 0
IfRefused P (gives a) = Unit {0}
IfRefused P (refused x place) = P x place

pub refused_to : {A : Type 0} {P Q : Refusal → ℕ → Type 0} (r : Answer A) → ((x : Refusal) (place : ℕ) → P x place → Q x place) → IfRefused P r → IfRefused Q r
refused_to (gives a) f p = tt
refused_to (refused x place) f p = f x place p

pub refused_answers : {A B : Type 0} (P : Refusal → ℕ → Type 0) (f : A → B) (r : Answer A) → IfRefused P r → IfRefused P (answers f r)
unfolding answers
refused_answers P f (gives a) p = tt
refused_answers P f (refused x place) p = p

-- Either branch may use its test.
pub cond_case : {A : Type 0} (P : A → Type 0) (b : Bool) (x y : A) → (b ≡ true → P x) → (b ≡ false → P y) → P (cond b x y)
cond_case P true x y f g = f refl
cond_case P false x y f g = g refl
