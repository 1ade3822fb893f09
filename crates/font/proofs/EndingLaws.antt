-- Laws of the ending, one for each answer. Assumes nothing.
use Prim.Native.Nat.{ℕ, ◌+◌, ◌-◌, ◌%◌, ◌<◌}
use mathlib.Core.Path.{◌≡◌, refl, sym, ap, ◌∙◌}
use mathlib.Core.Bool.{Bool, true, false, ◌&&◌}
use mathlib.Core.Logic.{inr}
use mathlib.Core.List.{List, [], ◌∷◌}
use native.Mathlib.Omega.{arith}
use lib.Dec.{eqb}
use lib.ListN.{length, take, drop, length-drop}
use Rattle.std.proofs.Math.Seq.{take-length}
use borrow.Author.Tests.{eq-eqb, ne_eqb}
use Rattle.format.specs.Lists.{all}
use Rattle.format.specs.Refusals.{bad_ending, no_packet, answers}
use Rattle.format.specs.Cut.{packets}
use Rattle.format.specs.Verdict.{is_nil, ending}
use Rattle.format.proofs.Tests.{false_and}
use Rattle.std.specs.Prelude.{Ok, Err, nat_eq}
use Rattle.std.specs.List.{list_all}
use Rattle.refusals.specs.Answers.{refused_at, to_result}
use Rattle.font.specs.Turns.{IsEnding}

-- Only 246: each byte is, as a chain over the bytes says it.
pub list_all_is : (c : ℕ) (xs : List ℕ) → list_all (λ (x : ℕ). nat_eq x c) xs ≡ all c xs
unfolding all
list_all_is c [] = refl
list_all_is c (x ∷ xs) = ap (λ (t : Bool). nat_eq x c && t) (list_all_is c xs)

-- The bytes from n on, as a slice has them.
pub from_there : (s : List ℕ) (n : ℕ) → take (length s - n) (drop n s) ≡ drop n s
from_there s n = ap (λ (k : ℕ). take k (drop n s)) (sym (length-drop n s)) ∙ take-length (drop n s)

-- The answers.

some_codes : (codes : List ℕ) (n : ℕ) → length codes ≡ n → (n ≡ 0 → ⊥) → is_nil codes ≡ false
unfolding is_nil
some_codes [] n e z = absurd (z (sym e))
some_codes (c ∷ codes) n e z = refl

no_codes : (codes : List ℕ) → length codes ≡ 0 → is_nil codes ≡ true
unfolding is_nil
no_codes [] e = refl
no_codes (c ∷ codes) e = absurd (omega arith)

module _ (s : List ℕ) (at n : ℕ) where
  pub ending_none : n ≡ 0 → IsEnding s at n (Err (refused_at no_packet at))
  unfolding to_result answers ending
  ending_none z a codes e = rw (no_codes codes (e ∙ z)) refl

  module _ (l : at < length s) (z : n ≡ 0 → ⊥) where
    whole : at + 1 + length (drop (at + 1) s) ≡ length s
    whole = rw (length-drop (at + 1) s) (omega arith)

    pub ending_four : (length s % 4 ≡ 0 → ⊥) → IsEnding s at n (Err (refused_at bad_ending at))
    unfolding to_result answers ending
    ending_four f a codes e = rw (some_codes codes n e z, whole, false_and (all 246 (drop (at + 1) s)) (eqb (length s % 4) 0) (inr (ne_eqb (length s % 4) 0 f))) refl

    pub ending_other : false ≡ all 246 (drop (at + 1) s) → IsEnding s at n (Err (refused_at bad_ending at))
    unfolding to_result answers ending
    ending_other f a codes e = rw (some_codes codes n e z, ← f) refl

    pub ending_whole : length s % 4 ≡ 0 → true ≡ all 246 (drop (at + 1) s) → IsEnding s at n (Ok n)
    unfolding to_result answers ending packets
    ending_whole f g a codes e = rw (some_codes codes n e z, whole, ← g, eq-eqb (length s % 4) 0 f) (ap Ok (omega arith))
