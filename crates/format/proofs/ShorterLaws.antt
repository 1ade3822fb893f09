-- What follows a piece is shorter, so that the verdict's bound on its depth is enough. Assumes nothing.
use Prim.Native.Nat.{ℕ, zero, suc, ◌+◌, ◌-◌, ◌<◌}
use mathlib.Core.Path.{◌≡◌, refl}
use mathlib.Core.List.{List, [], ◌∷◌, ◌++◌}
use native.Mathlib.Omega.{arith}
use lib.Dec.{ltb, leb, eqb}
use lib.IntN.{ℤ, nat_abs}
use lib.ListN.{length, drop, length-drop}
use Rattle.format.specs.Limits.{within_limits, is_code}
use Rattle.format.specs.Refusals.{Refusal, file_ends, bad_length, outside_limits, bad_code, Answer, Result, ok, fault}
use Rattle.format.specs.Numbers.{size}
use Rattle.format.specs.Pieces.{Preamble, Form, kinds, fixed, Piece, bytes_of, length_kind}
use Rattle.format.specs.Decoding.{number, value_of, read_fields}
use Rattle.format.specs.Cut.{packets, codes, Parts}
use Rattle.format.specs.Verdict.{Front, piece, last, at_least, form_of, Header, header, raster_at, packet_at, special_at, numeric_at, step, next, onward_f, onward}
use Rattle.format.proofs.RefusalLaws.{need_case, cond_case}

-- The rest behind a piece is shorter than s.
pub data Less (s : List ℕ) : Result Front → Type 0 where
  to : {p : Piece} {r : List ℕ} → length r < length s → Less s (ok (piece p r))
  ended : {r : List ℕ} → Less s (ok (last r))
  none : {x : Refusal} → Less s (fault x)

pub less_rest : {s : List ℕ} {p : Piece} {r : List ℕ} → Less s (ok (piece p r)) → length r < length s
less_rest (to h) = h

drop_less : (b m n : ℕ) (s : List ℕ) → length (drop n (drop m s)) < length (b ∷ s)
drop_less b m n s = rw (length-drop, length-drop) (omega arith)

packet_less : (b : ℕ) (k : Form) (x : Header) (s : List ℕ) → Less (b ∷ s) (packet_at b k x s)
unfolding packet_at raster_at
packet_less b k x s =
    let P = Less (b ∷ s) in
    let n = nat_abs x.length - fixed k in
    need_case P (leb (size (kinds k)) (length s)) file_ends _ (λ _. none) λ _.
    need_case P (at_least (fixed k) x.length) bad_length _ (λ _. none) λ _.
    need_case P (leb n (length (drop (size (kinds k)) s))) file_ends _ (λ _. none) λ _.
    need_case P (within_limits x.w x.h) outside_limits _ (λ _. none) λ _.
    need_case P (is_code x.code) bad_code _ (λ _. none) λ _. to (drop_less b (size (kinds k)) n s)

special_less : (b k : ℕ) (z : ℤ) (s : List ℕ) → Less (b ∷ s) (special_at k z s)
unfolding special_at
special_less b k z s =
    let P = Less (b ∷ s) in
    need_case P (leb k (length s)) file_ends _ (λ _. none) λ _.
    need_case P (at_least 0 z) bad_length _ (λ _. none) λ _.
    need_case P (leb (nat_abs z) (length (drop k s))) file_ends _ (λ _. none) λ _. to (drop_less b k (nat_abs z) s)

numeric_less : (b : ℕ) (s : List ℕ) → Less (b ∷ s) (numeric_at s)
unfolding numeric_at
numeric_less b s = need_case (Less (b ∷ s)) (leb 4 (length s)) file_ends _ (λ _. none) λ _. to (drop_less b 0 4 s)

pub step_less : (s : List ℕ) → Less s (step s)
unfolding step
step_less [] = none
step_less (b ∷ s) =
    let P = Less (b ∷ s) in
    cond_case P (ltb b 240) _ _ (λ _. packet_less b (form_of b) (header (form_of b) b (read_fields (kinds (form_of b)) s)) s) λ _.
    cond_case P (ltb b 244) _ _ (λ _. special_less b (b - 239) (value_of (length_kind (b - 239)) (number (b - 239) s)) s) λ _.
    cond_case P (eqb b 244) _ _ (λ _. numeric_less b s) λ _.
    cond_case P (eqb b 245) _ _ (λ _. ended) λ _.
    cond_case P (eqb b 246) _ _ (λ _. to (omega arith)) λ _. none

-- The equation of `onward`, without a bound.

module _ (a : Preamble) where
  -- `next` asks `go` only of shorter lists.
  next_same : (go go' : ℕ → List ℕ → List ℕ → Answer Parts) (place : ℕ) (seen s : List ℕ) (x : Result Front) → Less s x
      → ((i : ℕ) (t r : List ℕ) → length r < length s → go i t r ≡ go' i t r) → next a go place seen x ≡ next a go' place seen x
  unfolding next
  next_same go go' place seen s (ok (piece p r)) (to l) e = rw (e (place + length (bytes_of p)) (codes (packets (p ∷ [])) ++ seen) r l) refl
  next_same go go' place seen s (ok (last r)) l e = refl
  next_same go go' place seen s (fault x) l e = refl

  enough : (g h place : ℕ) (seen s : List ℕ) → length s < g → length s < h → onward_f a g place seen s ≡ onward_f a h place seen s
  unfolding onward_f
  enough zero h place seen s p q = absurd (omega arith)
  enough (suc g) zero place seen s p q = absurd (omega arith)
  enough (suc g) (suc h) place seen s p q =
      next_same (onward_f a g) (onward_f a h) place seen s (step s) (step_less s) (λ i t r l. enough g h i t r (omega arith) (omega arith))

  pub onward_step : (place : ℕ) (seen s : List ℕ) → onward a place seen s ≡ next a (onward a) place seen (step s)
  unfolding onward onward_f
  onward_step place seen s =
      next_same (onward_f a (length s)) (onward a) place seen s (step s) (step_less s)
      (λ i t r l. enough (length s) (suc (length r)) i t r l (omega arith))
