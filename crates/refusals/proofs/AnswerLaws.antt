-- Laws of answers in the table's numbers. Assumes nothing.
use Rattle.std.specs.Prelude.{ℕ, ◌≡◌, Ok, Err}
use mathlib.Core.Path.{refl, sym, ap, ◌∙◌}
use Rattle.std.specs.declared.result.Result.{Result}
use Rattle.format.specs.Refusals.{Answer, gives, refused, Told, says, refuses, told, number_and_place}
use Rattle.refusals.specs.Names.{number_of}
use Rattle.refusals.specs.Answers.{to_result, numbers}
use Rattle.refusals.specs.declared.Refusal.{Refusal}
use Rattle.refusals.specs.declared.Refused.{Refused}
use Rattle.refusals.proofs.NameLaws.{number_coded, number_one}

-- An answer r that is t in numbers.
module _ {A B : Type 0} (f : A → B) (r : Result A Refused) (t : Told B) (promised : numbers f r ≡ t) where
  pub given : (a : A) → r ≡ Ok a → says (f a) ≡ t
  unfolding numbers
  given a e = sym (ap (numbers f) e) ∙ promised

  pub not_given : (x : Refused) → r ≡ Err x → refuses (number_of x.refusal) x.place ≡ t
  unfolding numbers
  not_given x e = sym (ap (numbers f) e) ∙ promised

-- An answer is told by its numbers.
pub one_numbers : {A B : Type 0} (f : A → B) → ((a b : A) → f a ≡ f b → a ≡ b) → (r t : Result A Refused) → numbers f r ≡ numbers f t → r ≡ t
unfolding numbers
one_numbers {A} {B} f one (Ok a) (Ok b) e = let z : f a ≡ f b = cc in ap Ok (one a b z)
one_numbers {A} {B} f one (Ok a) (Err y) e = cc
one_numbers {A} {B} f one (Err x) (Ok b) e = cc
one_numbers {A} {B} f one (Err x) (Err y) e =
    let i : number_of x.refusal ≡ number_of y.refusal = cc in
    let p : x.place ≡ y.place = cc in
    let z : x ≡ y = ap (λ (k : Refusal). record { refusal = k; place = x.place }) (number_one x.refusal y.refusal i) ∙ ap (λ (n : ℕ). record { refusal = y.refusal; place = n }) p in
    ap Err z

-- The answer of the definitions, told.
pub result_told : {A : Type 0} (a : Answer A) → ((x : _) (place : ℕ) → a ≡ refused x place → place ≡ (number_and_place x place).1) → numbers (λ (y : A). y) (to_result a) ≡ told a
unfolding numbers to_result told
result_told (gives a) h = refl
result_told (refused x place) h = rw (number_coded x place, ← h x place refl) refl
