-- What each refusal means is refused so: with `refusal_means`, a font's refusals are known exactly (01, Numbers given back). Assumes nothing.
use Prim.Native.Nat.{ℕ, ◌+◌, ◌≤◌}
use mathlib.Core.Path.{◌≡◌, refl, sym, ap, ◌∙◌, subst}
use mathlib.Core.List.{List, [], ◌∷◌, ◌++◌}
use mathlib.Core.Logic.Iff
use mathlib.Core.Logic.{◌↔◌, ◌⊎◌, inl, inr}
use lib.ListN.{length, length-append}
use borrow.Author.Tests.{lt-ltb, le-ltb, ne_eqb}
use Rattle.format.specs.Limits.{most}
use Rattle.format.specs.Refusals.{Refusal, file_ends, no_preamble, Answer, gives, refused, answers}
use Rattle.format.specs.Numbers.{Bytes}
use Rattle.format.specs.Pieces.{preamble_bytes}
use Rattle.format.specs.Cut.{flat, packets, codes, Parts, Cut}
use Rattle.format.specs.Verdict.{onward, preamble_at, begin, verdict, check}
use Rattle.format.specs.Faults.{PreambleEnds, one, two, some, Blames, Means, over_long, empty, first_byte, second_byte, cut_short, at_piece}
use Rattle.format.proofs.ShorterLaws.{onward_step}
use Rattle.format.proofs.CodeLaws.{seen_after, distinct_fresh, elem_seen, none_seen}
use Rattle.format.proofs.OnwardLaws.{refused≢, bytes_right, in_front, front_refused, pieces_onward}
use Rattle.format.proofs.CutTheorems.{preamble_verdict, cut_verdict, verdict_cut}
use Rattle.format.proofs.PieceFaultConverse.{piece_refused}
use Rattle.format.proofs.FaultTheorems.{reseen, refusal_means, check_means}

-- 1 to 3, and a preamble cut short.

begin_first : (b : ℕ) (t : List ℕ) → (b ≡ 247 → ⊥) → begin (b ∷ t) ≡ refused no_preamble 0
unfolding begin
begin_first b [] n = rw (ne_eqb b 247 n) refl
begin_first b (c ∷ t) n = rw (ne_eqb b 247 n) refl

begin_ends : (s : List ℕ) → PreambleEnds s → begin s ≡ refused file_ends 0
unfolding begin preamble_at
begin_ends _ one = refl
begin_ends _ two = refl
begin_ends _ (some {k = k} {t = t} l) = rw (lt-ltb (length t) (k + 16) l) refl

judged : (s : List ℕ) → length s ≤ most → verdict s ≡ begin s
unfolding verdict
judged s l = rw (le-ltb most (length s) l) refl

-- A piece at fault, behind pieces in order.

blames_refused : (s : List ℕ) (x : Refusal) (place : ℕ) → Bytes s → Blames s x place → verdict s ≡ refused x place
blames_refused s x place h b =
    let a = b.preamble in
    let ps = packets b.before in
    let seen = seen_after ps [] in
    let r = flat b.before ++ b.rest in
    let to = length (preamble_bytes a) + length (flat b.before) in
    let h' = bytes_right (flat b.before) b.rest (bytes_right (preamble_bytes a) r (subst Bytes b.whole h)) in
    let at : place ≡ to = b.at ∙ length-append (preamble_bytes a) (flat b.before) in
    let q = reseen place (codes ps) seen b.rest x (λ c. sym (elem_seen c ps)) (Iff.symm (none_seen ps)) b.fault in
    let e : onward a to seen b.rest ≡ refused x place = onward_step a to seen b.rest ∙ rw (← at) (piece_refused a (onward a) place seen b.rest x h' q) in
    preamble_verdict s a r b.small b.whole b.allowed.0
    ∙ pieces_onward a b.before (length (preamble_bytes a)) [] b.rest b.allowed.1 b.filled (distinct_fresh ps b.distinct)
    ∙ ap (in_front b.before) e
    ∙ front_refused x place b.before

-- The font.

-- What a refusal means is refused so.
pub means_refusal : (s : List ℕ) (x : Refusal) (place : ℕ) → Bytes s → Means s x place → verdict s ≡ refused x place
unfolding verdict begin
means_refusal s _ _ h (over_long l) = rw (lt-ltb most (length s) l) refl
means_refusal s _ _ h (empty e) = rw e refl
means_refusal s _ _ h (first_byte {b = b} {t = t} e l n) = judged s l ∙ rw e (begin_first b t n)
means_refusal s _ _ h (second_byte {b = b} {t = t} e l n) = judged s l ∙ rw (e, ne_eqb b 89 n) refl
means_refusal s _ _ h (cut_short l e) = judged s l ∙ begin_ends s e
means_refusal s x place h (at_piece b) = blames_refused s x place h b

-- A font is refused exactly with what its refusal means,
pub refuses_exactly : (s : List ℕ) (x : Refusal) (place : ℕ) → Bytes s → (verdict s ≡ refused x place) ↔ Means s x place
refuses_exactly s x place h = (refusal_means s x place h, means_refusal s x place h)

-- and so it is with a check,
pub check_refuses : (s : List ℕ) (x : Refusal) (place : ℕ) → Bytes s → (check s ≡ refused x place) ↔ Means s x place
unfolding check answers
check_refuses s x place h = (check_means s x place h, (λ m. rw (means_refusal s x place h m) refl))

-- so that no font has two.
pub one_refusal : (s : List ℕ) (x y : Refusal) (p q : ℕ) → Bytes s → Means s x p → Means s y q → (x ≡ y) × (p ≡ q)
one_refusal s x y p q h m n =
    let e : ◌≡◌ {A = Answer Parts} (refused x p) (refused y q) = sym (means_refusal s x p h m) ∙ means_refusal s y q h n in
    (cc, cc)

-- A font that meets no row is accepted, and one that is accepted meets none.
pub row_or_cut : (s : List ℕ) → Bytes s → ((x : Refusal) × (place : ℕ) × Means s x place) ⊎ ((x : Parts) × Cut s x)
row_or_cut s h = go (verdict s) refl
  where
    go : (r : Answer Parts) → verdict s ≡ r → ((x : Refusal) × (place : ℕ) × Means s x place) ⊎ ((x : Parts) × Cut s x)
    go (gives x) e = inr (x, verdict_cut s x h e)
    go (refused x place) e = inl (x, place, refusal_means s x place h e)

pub not_both : (s : List ℕ) (x : Refusal) (place : ℕ) (y : Parts) → Bytes s → Means s x place → Cut s y → ⊥
not_both s x place y h m c = refused≢ (sym (means_refusal s x place h m) ∙ cut_verdict s y c)
