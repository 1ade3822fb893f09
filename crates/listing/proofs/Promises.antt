-- What the promises mean: walked from the place behind the preamble on, the packets that come are the font's entries, all of them, in file order; and any two answers that a promise allows
-- are equal. Assumes nothing.
use Prim.Native.Nat.{ℕ, ◌+◌}
use mathlib.Core.Path.{◌≡◌, refl, sym, ap, ◌∙◌}
use mathlib.Core.Logic.{◌↔◌}
use mathlib.Core.List.{List, [], ◌∷◌, ◌++◌, map}
use lib.ListN.{length, drop}
use Rattle.std.specs.declared.option.Option.TheVariants.{None, Some}
use Rattle.std.specs.declared.result.Result.TheVariants.{Ok, Err}
use Rattle.refusals.specs.Answers.{numbers}
use Rattle.refusals.proofs.AnswerLaws.{one_numbers}
use Rattle.format.specs.Refusals.{Answer, gives, refused, number_and_place, says, refuses, told}
use Rattle.format.specs.Numbers.{Bytes}
use Rattle.format.specs.Pieces as F
use Rattle.format.specs.Pieces.{bytes_of}
use Rattle.format.specs.Cut.{Parts, Cut}
use Rattle.format.specs.Verdict.{step, check}
use Rattle.format.specs.Listing as L
use Rattle.format.specs.Listing.{heading_of, entries_of, heading_answer}
use Rattle.format.proofs.PieceLaws.{step_piece}
use Rattle.format.proofs.ListTheorems.{heading_exactly, heading_refused}
use Rattle.measures.proofs.SaidLaws.{one_measures}
use Rattle.packet.specs.Outlines.{form_is}
use Rattle.listing.specs.Listed.{Listed, heading_is, in_numbers, Ahead, Between, Starts, Coming, Next, Comes, IsNext, entry_is}
use Rattle.packet.specs.declared.Form.{Form}
use Rattle.packet.specs.declared.Form.TheVariants.{Short, Extended, Long}
use Rattle.listing.specs.declared.Heading.{Heading}
use Rattle.listing.specs.declared.Entry.{Entry}

-- The whole listing.

-- From a place on, these packets come one after another, as the promise allows, and then none.
pub data Walked (s : List ℕ) : ℕ → List Entry → Type 0 where
  none : (at : ℕ) → IsNext s at None → Walked s at []
  more : (at : ℕ) (e : Entry) (to : ℕ) (es : List Entry) → IsNext s at (Some (e, to)) → Walked s to es → Walked s at (e ∷ es)

-- They are the entries that are ahead.
walked_all : (s : List ℕ) (at : ℕ) (es : List Entry) → Walked s at es → (ls : List L.Entry) → Ahead s at ls → map entry_is es ≡ ls
walked_all s _ _ (none at n) ls t = sym (n ls t)
walked_all s _ _ (more at e to es n w) ls t =
    let c = n ls t in
    ap (λ (x : List L.Entry). entry_is e ∷ x) (walked_all s to es w c.others c.ahead) ∙ sym c.next

-- From the place that the heading comes with they are those of the font's cut.
pub lists_all : (s : List ℕ) (h : Heading) (first : ℕ) → Starts s (Ok (h, first)) → (x : Parts) → Cut s x → (es : List Entry) → Walked s first es → map entry_is es ≡ entries_of x
lists_all s h first t x c es w = walked_all s first es w (entries_of x) (t.1 x c).1

-- One answer.

one_form : (a b : Form) → form_is a ≡ form_is b → a ≡ b
one_form Short Short e = refl
one_form Short Extended e = cc
one_form Short Long e = cc
one_form Extended Short e = cc
one_form Extended Extended e = refl
one_form Extended Long e = cc
one_form Long Short e = cc
one_form Long Extended e = cc
one_form Long Long e = refl

one_entry : (a b : Entry) → entry_is a ≡ entry_is b → a ≡ b
one_entry a b e =
    rw (
      ap (λ (x : L.Entry). x.at) e,
      one_form a.form b.form (ap (λ (x : L.Entry). x.form) e),
      ap (λ (x : L.Entry). x.f) e,
      ap (λ (x : L.Entry). x.black) e,
      one_measures a.m b.m (ap (λ (x : L.Entry). x.measures) e),
    )
    refl

one_heading : (a b : Heading) → heading_is a ≡ heading_is b → a ≡ b
one_heading a b e =
    rw (
      ap (λ (x : L.Heading). x.bytes) e,
      ap (λ (x : L.Heading). x.ds) e,
      ap (λ (x : L.Heading). x.cs) e,
      ap (λ (x : L.Heading). x.hppp) e,
      ap (λ (x : L.Heading). x.vppp) e,
      ap (λ (x : L.Heading). x.chars) e,
    )
    refl

-- Any two answers to a font are equal,
one_listed : (s : List ℕ) (r t : Listed) → in_numbers r ≡ in_numbers t → Starts s r → Starts s t → r ≡ t
unfolding numbers
one_listed s (Ok r) (Ok t) e a b =
    let z : heading_is r.0 ≡ heading_is t.0 = cc in
    let p = a.0.1 in
    rw (one_heading r.0 t.0 z, (a.1 p.parts p.cut).0 ∙ sym (b.1 p.parts p.cut).0) refl
one_listed s (Ok r) (Err y) e a b = cc
one_listed s (Err x) (Ok t) e a b = cc
one_listed s (Err x) (Err y) e a b =
    let z = one_numbers heading_is one_heading (Err x) (Err y) e in
    let q : x ≡ y = cc in
    ap Err q

pub one_answer : (s : List ℕ) (r t : Listed) → in_numbers r ≡ told (heading_answer s) → Starts s r → in_numbers t ≡ told (heading_answer s) → Starts s t → r ≡ t
one_answer s r t e a f b = one_listed s r t (e ∙ sym f) a b

-- and so are any two answers of what comes next.
pub one_next : (s : List ℕ) (at : ℕ) (r t : Next) → Between s at → IsNext s at r → IsNext s at t → r ≡ t
one_next s at r t (es, k) a b = go r t (a es k) (b es k)
  where
    behind_is : (d e : Entry) (to up : ℕ) (a : Coming s at es d to) (b : Coming s at es e up) → d ≡ e → to ≡ up
    behind_is d e to up a b q =
        let w : bytes_of (F.packet a.packet) ++ a.rest ≡ bytes_of (F.packet b.packet) ++ b.rest = sym a.stands ∙ ap (λ (x : Entry). drop x.at s) q ∙ b.stands in
        let y = sym (step_piece (F.packet a.packet) a.rest a.allowed) ∙ ap step w ∙ step_piece (F.packet b.packet) b.rest b.allowed in
        let p : a.packet ≡ b.packet = cc in
        a.behind ∙ ap (λ (x : Entry). x.at + length (bytes_of (F.packet a.packet))) q ∙ ap (λ (x : F.Packet). e.at + length (bytes_of (F.packet x))) p ∙ sym b.behind

    go : (r t : Next) → Comes s at es r → Comes s at es t → r ≡ t
    go (Some r) (Some t) a b =
        let y = sym a.next ∙ b.next in
        let z : entry_is r.0 ≡ entry_is t.0 = cc in
        let q = one_entry r.0 t.0 z in
        rw (q, behind_is r.0 t.0 r.1 t.1 a b q) refl
    go (Some r) None a b = cc (sym a.next ∙ b)
    go None (Some t) a b = cc (sym b.next ∙ a)
    go None None a b = refl

-- What an answer says.

-- An answer r that the promise allows of a font s, which is one of bytes.
module _ (s : List ℕ) (b : Bytes s) (r : Listed) (promised : in_numbers r ≡ told (heading_answer s)) where
  -- It is a heading exactly if the font has a cut with that heading.
  pub listed_exactly : (h : L.Heading) → (in_numbers r ≡ says h) ↔ ((x : Parts) × Cut s x × (heading_of s x ≡ h))
  unfolding told
  listed_exactly h = ((λ e. (heading_exactly s h b).0 (go (heading_answer s) (sym promised ∙ e))), (λ t. promised ∙ ap told ((heading_exactly s h b).1 t)))
    where
      go : (a : Answer L.Heading) → told a ≡ says h → a ≡ gives h
      go (gives k) e = let z : k ≡ h = cc in ap gives z
      go (refused x place) e = cc

  -- It is a refusal at a place exactly if the font, checked, is refused with that number there.
  pub refused_exactly : (n place : ℕ) → (in_numbers r ≡ refuses n place) ↔ (told (check s) ≡ refuses n place)
  unfolding told
  refused_exactly n place = ((λ e. there (heading_answer s) refl (sym promised ∙ e)), (λ e. back (check s) refl e))
    where
      there : (a : Answer L.Heading) → heading_answer s ≡ a → told a ≡ refuses n place → told (check s) ≡ refuses n place
      there (gives k) q e = cc
      there (refused x at) q e =
          let z : (number_and_place x at).0 ≡ n = cc in
          let i : (number_and_place x at).1 ≡ place = cc in
          ap told ((heading_refused s x at).0 q) ∙ rw (z, i) refl

      back : (a : Answer ℕ) → check s ≡ a → told a ≡ refuses n place → in_numbers r ≡ refuses n place
      back (gives k) q e = cc
      back (refused x at) q e =
          let z : (number_and_place x at).0 ≡ n = cc in
          let i : (number_and_place x at).1 ≡ place = cc in
          promised ∙ ap told ((heading_refused s x at).1 q) ∙ rw (z, i) refl
