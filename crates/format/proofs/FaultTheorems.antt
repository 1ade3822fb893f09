-- A font's refusal means what its row says, at its place, and everything before that place is in order (01, Numbers given back). Assumes nothing.
use Prim.Native.Nat.{ℕ, zero, suc, ◌+◌, ◌≤◌, ◌<◌}
use mathlib.Core.Path.{◌≡◌, refl, sym, ap, ◌∙◌, subst}
use mathlib.Core.Logic.{◌↔◌}
use mathlib.Core.List.{List, [], ◌∷◌, ◌++◌, append_assoc}
use native.Mathlib.Omega.{arith}
use lib.Dec.{ltb, eqb}
use lib.ListN.{length, take, drop, length-append}
use lib.Seq.{length-take-le}
use borrow.Author.Tests.{ltb-true, ltb-false, eqb-true, eqb-false}
use Rattle.format.specs.Limits.{most}
use Rattle.format.specs.Lists.{elem}
use Rattle.format.specs.Refusals.{Refusal, Answer, refused, number_and_place, Result, ok, fault}
use Rattle.format.specs.Numbers.{Bytes}
use Rattle.format.specs.Pieces.{Preamble, preamble_kinds, preamble_bytes, PreambleOk, Piece, bytes_of}
use Rattle.format.specs.Cut.{flat, AllOk, packets, AllFilled, codes, Parts}
use Rattle.format.specs.Decoding.{read_fields}
use Rattle.format.specs.Verdict.{Front, piece, last, step, checked, or_else, prepend, ending, next, onward, preamble_of, preamble_at, begin, verdict, check}
use Rattle.format.specs.Faults.{unfinished, over, another, left, RasterFault, in_items, few_bytes, many_bytes, spare_bits, none_wanted, PieceFault, file_ends_here, none_such, wrong_length, limits, code, twice, bad_raster, bad_end, none_before, one, two, some, Blames, Means, over_long, empty, first_byte, second_byte, cut_short, at_piece}
use Rattle.format.proofs.FieldLaws.{bytes_drop}
use Rattle.format.proofs.RefusalLaws.{IfFault, fault_to, IfRefused, refused_to, refused_answers, cond_case}
use Rattle.format.proofs.PieceLaws.{Found, Is, step_is}
use Rattle.format.proofs.ShorterLaws.{Less, less_rest, step_less, onward_step}
use Rattle.format.proofs.CodeLaws.{Fresh, seen_after, fresh_distinct, elem_seen, none_seen}
use Rattle.format.proofs.OnwardLaws.{bytes_right, Good, checked_good, with_piece}
use Rattle.format.proofs.CutTheorems.{preamble_length, preamble_is}
use Rattle.format.proofs.PieceFaultLaws.{Tells, step_tells, checked_tells, ending_tells}

-- From a place on.

-- The bytes s, at a place behind packets with the codes seen, are pieces in order and then, at the place `to`, a piece at fault.
record Later (place : ℕ) (seen s : List ℕ) (x : Refusal) (to : ℕ) : Type 0 where
  before : List Piece
  rest : List ℕ
  whole : s ≡ flat before ++ rest
  at : to ≡ place + length (flat before)
  allowed : AllOk before
  filled : AllFilled (packets before)
  fresh : Fresh seen (packets before)
  fault : PieceFault to (seen_after (packets before) seen) rest x

-- The piece at the place itself is at fault,
here : (place : ℕ) (seen s : List ℕ) (x : Refusal) → PieceFault place seen s x → Later place seen s x place
unfolding flat packets
here place seen s x e =
    record { before = []; rest = s; whole = refl; at = omega arith; allowed = tt; filled = tt; fresh = tt; fault = e }

-- or one behind it.
behind : (place : ℕ) (seen s : List ℕ) (p : Piece) (r : List ℕ) → Found s p r → Good seen p → (x : Refusal) (to : ℕ)
    → Later (place + length (bytes_of p)) (codes (packets (p ∷ [])) ++ seen) r x to → Later place seen s x to
unfolding flat
behind place seen s p r f g x to b =
    let u = with_piece seen p b.before g b.filled b.fresh in
    record {
      before = p ∷ b.before;
      rest = b.rest;
      whole = f.whole ∙ rw (append_assoc (bytes_of p) (flat b.before) b.rest) (ap (λ (y : List ℕ). bytes_of p ++ y) b.whole);
      at = b.at ∙ rw (length-append (bytes_of p) (flat b.before)) (omega arith);
      allowed = (f.ok, b.allowed);
      filled = u.filled;
      fresh = u.fresh;
      fault = subst (λ (y : List ℕ). PieceFault to y b.rest x) (sym u.after) b.fault;
    }

-- A fault at the place, or a refusal of what follows.
or_else_lem : {A : Type 0} (P : Refusal → ℕ → Type 0) (place : ℕ) (r : Result A) (y : Answer Parts) → IfFault (λ x. P x place) r → ((a : A) → r ≡ ok a → IfRefused P y)
    → IfRefused P (or_else place r y)
unfolding or_else
or_else_lem P place (ok a) y p k = k a refl
or_else_lem P place (fault x) y p k = p

module _ (a : Preamble) where
  -- g bounds the bytes.
  onward_later : (g place : ℕ) (seen s : List ℕ) → length s < g → Bytes s → IfRefused (Later place seen s) (onward a place seen s)
  unfolding next
  onward_later zero place seen s l b = absurd (omega arith)
  onward_later (suc g) place seen s l b = rw (onward_step a place seen s) (go (onward_later g) (step s) (step_is s b) (step_less s) (step_tells s))
    where
      go : ((place : ℕ) (seen s : List ℕ) → length s < g → Bytes s → IfRefused (Later place seen s) (onward a place seen s))
          → (f : Result Front) → Is s f → Less s f → Tells s f → IfRefused (Later place seen s) (next a (onward a) place seen f)
      go ih (ok (piece p r)) k m t =
          let to = place + length (bytes_of p) in
          let seen' = codes (packets (p ∷ [])) ++ seen in
          let c = checked seen (packets (p ∷ [])) in
          let h = subst Bytes k.whole b in
          let n = less_rest m in
          or_else_lem (Later place seen s) place c _ (fault_to c (here place seen s) (checked_tells place seen s p r t k.ok h)) λ is e.
          refused_answers (Later place seen s) (prepend p) (onward a to seen' r)
          (refused_to (onward a to seen' r) (behind place seen s p r k (checked_good seen p r is k.ok h e)) (ih to seen' r (omega arith) (bytes_right (bytes_of p) r h)))
      go ih (ok (last r)) k m t =
          refused_to (ending a place seen r) (λ x to q. subst (Later place seen s x) q.0 (here place seen s x (rw k q.1))) (ending_tells a place seen r)
      go ih (fault x) k m t = here place seen s x (t place seen)

-- The font.

-- What is said of the codes seen is said of the packets' codes.
pub reseen : (place : ℕ) (seen seen' s : List ℕ) (x : Refusal) → ((c : ℕ) → elem c seen ≡ elem c seen') → ((seen ≡ []) ↔ (seen' ≡ []))
    → PieceFault place seen s x → PieceFault place seen' s x
reseen place seen seen' _ x f g (file_ends_here e) = file_ends_here e
reseen place seen seen' _ x f g (none_such e) = none_such e
reseen place seen seen' _ x f g (wrong_length e) = wrong_length e
reseen place seen seen' _ x f g (limits st e) = limits st e
reseen place seen seen' _ x f g (code st e) = code st e
reseen place seen seen' _ x f g (twice {c = c} st e) = twice st (sym (f c) ∙ e)
reseen place seen seen' _ x f g (bad_raster {c = c} st e q) = bad_raster st (sym (f c) ∙ e) q
reseen place seen seen' _ x f g (none_before e) = none_before (g.0 e)
reseen place seen seen' _ x f g (bad_end n e) = bad_end (λ z. n (g.1 z)) e

later_blames : (s : List ℕ) (a : Preamble) (r : List ℕ) (x : Refusal) (to : ℕ) → length s ≤ most → s ≡ preamble_bytes a ++ r → PreambleOk a
    → Later (length (preamble_bytes a)) [] r x to → Blames s x to
later_blames s a r x to l e o b =
    let ps = packets b.before in
    record {
      preamble = a;
      before = b.before;
      rest = b.rest;
      whole = e ∙ ap (λ (y : List ℕ). preamble_bytes a ++ y) b.whole;
      small = l;
      at = b.at ∙ sym (length-append (preamble_bytes a) (flat b.before));
      allowed = (o, b.allowed);
      filled = b.filled;
      distinct = fresh_distinct ps b.fresh;
      fault = reseen to (seen_after ps []) (codes ps) b.rest x (λ c. elem_seen c ps) (none_seen ps) b.fault;
    }

preamble_means : (s : List ℕ) → length (247 ∷ 89 ∷ s) ≤ most → Bytes s → IfRefused (Means (247 ∷ 89 ∷ s)) (preamble_at s)
unfolding preamble_at
preamble_means [] l b = cut_short l two
preamble_means (k ∷ s) l b =
    let a = preamble_of (take k s) (read_fields preamble_kinds (drop k s)) in
    let r = drop (k + 16) s in
    cond_case (IfRefused (Means (247 ∷ 89 ∷ k ∷ s))) (ltb (length s) (k + 16)) _ _ (λ e. cut_short l (some (ltb-true (length s) (k + 16) e))) λ e.
    let m = ltb-false (length s) (k + 16) e in
    let p = preamble_is k s b.0 b.1 m in
    let n : length (preamble_bytes a) ≡ k + 19 = preamble_length a ∙ ap (λ (i : ℕ). i + 19) (length-take-le k s (omega arith)) in
    refused_to (onward a (k + 19) [] r)
    (λ x to q. at_piece (later_blames (247 ∷ 89 ∷ k ∷ s) a r x to l p.0 p.1 (subst (λ (i : ℕ). Later i [] r x to) (sym n) q)))
    (onward_later a (suc (length r)) (k + 19) [] r (omega arith) (bytes_drop (k + 16) s b.1))

begin_means : (s : List ℕ) → length s ≤ most → Bytes s → IfRefused (Means s) (begin s)
unfolding begin
begin_means [] l b = empty refl
begin_means (x ∷ []) l b =
    cond_case (IfRefused (Means (x ∷ []))) (eqb x 247) _ _ (λ e. rw (eqb-true x 247 e) (cut_short (omega arith) one)) (λ e. first_byte refl l (eqb-false x 247 e))
begin_means (x ∷ y ∷ s) l b =
    cond_case (IfRefused (Means (x ∷ y ∷ s))) (eqb x 247) _ _
    (λ e. cond_case (IfRefused (Means (x ∷ y ∷ s))) (eqb y 89) _ _
    (λ q. rw (eqb-true x 247 e, eqb-true y 89 q) (preamble_means s l b.1.1))
    (λ q. rw (eqb-true x 247 e) (second_byte refl l (eqb-false y 89 q))))
    (λ e. first_byte refl l (eqb-false x 247 e))

verdict_means : (s : List ℕ) → Bytes s → IfRefused (Means s) (verdict s)
unfolding verdict
verdict_means s b =
    cond_case (IfRefused (Means s)) (ltb most (length s)) _ _ (λ e. over_long (ltb-true most (length s) e)) (λ e. begin_means s (ltb-false most (length s) e) b)

-- A refusal's row holds at its place, and everything before that place is in order.
pub refusal_means : (s : List ℕ) (x : Refusal) (place : ℕ) → Bytes s → verdict s ≡ refused x place → Means s x place
refusal_means s x place b e = subst (IfRefused (Means s)) e (verdict_means s b)

-- So it is with what a check answers.
pub check_means : (s : List ℕ) (x : Refusal) (place : ℕ) → Bytes s → check s ≡ refused x place → Means s x place
unfolding check
check_means s x place b e = subst (IfRefused (Means s)) e (refused_answers (Means s) _ (verdict s) (verdict_means s b))

-- The place.

raster_place : {f w h : ℕ} {bytes : List ℕ} (x : Refusal) (place : ℕ) → RasterFault f w h bytes x → number_and_place x place ≡ ((number_and_place x 0).0, place)
raster_place _ place (in_items s xs p l e (unfinished m u)) = refl
raster_place _ place (in_items s xs p l e (over i r m a u)) = refl
raster_place _ place (in_items s xs p l e (another m u)) = refl
raster_place _ place (in_items s xs p l e (left m u v)) = refl
raster_place _ place (few_bytes p e l) = refl
raster_place _ place (many_bytes p e l) = refl
raster_place _ place (spare_bits p e l u) = refl
raster_place _ place (none_wanted p e l) = refl

piece_place : {seen s : List ℕ} (x : Refusal) (place : ℕ) → PieceFault place seen s x → number_and_place x place ≡ ((number_and_place x 0).0, place)
piece_place _ place (file_ends_here e) = refl
piece_place _ place (none_such e) = refl
piece_place _ place (wrong_length e) = refl
piece_place _ place (limits st e) = refl
piece_place _ place (code st e) = refl
piece_place _ place (twice st e) = refl
piece_place x place (bad_raster st e q) = raster_place x place q
piece_place _ place (none_before e) = refl
piece_place _ place (bad_end n e) = refl

-- Rows 1 to 3 are at 0, and the others give their place.
pub place_given : (s : List ℕ) (x : Refusal) (place : ℕ) → Means s x place → number_and_place x place ≡ ((number_and_place x 0).0, place)
place_given s _ _ (over_long l) = refl
place_given s _ _ (empty e) = refl
place_given s _ _ (first_byte e l n) = refl
place_given s _ _ (second_byte e l n) = refl
place_given s _ _ (cut_short l e) = refl
place_given s x place (at_piece b) = piece_place x place b.fault
