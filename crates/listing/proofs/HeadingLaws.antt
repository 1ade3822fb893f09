-- The heading of a font that has a cut, and where its first piece stands. Assumes nothing.
use Prim.Native.Nat.{ℕ, suc, ◌+◌, ◌≤◌}
use mathlib.Core.Path.{◌≡◌, refl, sym, ap, ◌∙◌, subst}
use mathlib.Core.List.{List, [], ◌∷◌, ◌++◌, append_assoc}
use native.Mathlib.Omega.{arith}
use native.Mathlib.Nat.{add-zero}
use lib.IntN.{ℤ}
use mir.Syntax.{w64}
use mir.Val.{SFits, to_z, of_z}
use mir.Facts.{to_z-of_z}
use lib.ListN.{length, drop, get_or, replicate}
use lib.Seq.{drop-append_seam, drop-drop}
use Rattle.format.specs.Refusals.{Answer, gives, refused, says, refuses, told, answers, number_and_place}
use Rattle.format.specs.Numbers.{Bytes, signed, field_bytes}
use Rattle.format.specs.Decoding.{number, value_of, read_fields}
use Rattle.format.specs.Pieces as F
use Rattle.format.specs.Pieces.{preamble_kinds, preamble_values, preamble_bytes, short, extended, long}
use Rattle.format.specs.Cut.{flat, Parts, chars, join, Cut}
use Rattle.format.specs.Verdict.{form_of, verdict, check}
use Rattle.format.specs.Listing.{heading_of, entries_of, heading_answer}
use Rattle.format.proofs.FieldLaws.{read_fields_lem}
use Rattle.format.proofs.CutLaws.{one_cut}
use Rattle.format.proofs.CutTheorems.{accepts}
use Rattle.std.specs.declared.result.Result.TheVariants.{Ok, Err}
use Rattle.refusals.specs.Names.{number_of}
use Rattle.refusals.specs.Answers.{numbers}
use Rattle.refusals.specs.declared.Refused.{Refused}
use Rattle.font.specs.Answer as A
use Rattle.font.proofs.Promises.{accepted_exactly}
use Rattle.find.specs.Places.{IsFirst}
use Rattle.find.proofs.RestLaws.{rest_start, preamble_third}
use Rattle.packet.specs.Standing.{StandsAt}
use Rattle.packet.specs.declared.Outline.{Outline}
use Rattle.measures.specs.Said.{IsSaid}
use Rattle.measures.specs.declared.Measures.{Measures}
use Rattle.measures.proofs.StandLaws.{flag_told}
use Rattle.listing.specs.Listed.{in_numbers, Counted, IsHeading, Ahead, Starts, IsEntry}
use Rattle.packet.specs.declared.Form.{Form}
use Rattle.packet.specs.Outlines.{form_is}
use Rattle.listing.specs.declared.Heading.{Heading}

-- The preamble.

module _ (s : List ℕ) (x : Parts) (c : Cut s x) where
  -- The font is as long as its preamble says.
  pub preamble_room : get_or s 2 0 + 19 ≤ length s
  preamble_room = subst (λ (n : ℕ). n ≤ length s) (sym (preamble_third s x c).1) (rest_start s x c).upto

  -- The four numbers stand behind the comment.
  numbers_at : drop (get_or s 2 0 + 3) s ≡ field_bytes preamble_kinds (preamble_values x.preamble) ++ (flat x.pieces ++ 245 ∷ replicate x.pad 246)
  unfolding join preamble_bytes
  numbers_at =
      let a = x.preamble in
      let t = flat x.pieces ++ 245 ∷ replicate x.pad 246 in
      let n = length a.comment in
      let e : n + 3 ≡ suc (suc (suc n)) = omega arith in
      rw (c.whole, e, append_assoc a.comment (field_bytes preamble_kinds (preamble_values a)) t)
      (drop-append_seam a.comment (field_bytes preamble_kinds (preamble_values a) ++ t))

  values : read_fields preamble_kinds (drop (get_or s 2 0 + 3) s) ≡ preamble_values x.preamble
  values = ap (read_fields preamble_kinds) numbers_at ∙ read_fields_lem preamble_kinds (preamble_values x.preamble) (flat x.pieces ++ 245 ∷ replicate x.pad 246) c.preamble.fields

  -- Read one by one they are the preamble's.
  pub ds_is : value_of (signed 4) (number 4 (drop (get_or s 2 0 + 3) s)) ≡ x.preamble.ds
  unfolding read_fields
  ds_is = ap (λ v. v.0) values

  pub cs_is : value_of (signed 4) (number 4 (drop (get_or s 2 0 + 3 + 4) s)) ≡ x.preamble.cs
  unfolding read_fields
  cs_is = rw (← drop-drop 4 (get_or s 2 0 + 3) s) (ap (λ v. v.1.0) values)

  pub hppp_is : value_of (signed 4) (number 4 (drop (get_or s 2 0 + 3 + 8) s)) ≡ x.preamble.hppp
  unfolding read_fields
  hppp_is =
      let e : get_or s 2 0 + 3 + 8 ≡ get_or s 2 0 + 3 + 4 + 4 = omega arith in
      rw (e, ← drop-drop 4 (get_or s 2 0 + 3 + 4) s, ← drop-drop 4 (get_or s 2 0 + 3) s) (ap (λ v. v.1.1.0) values)

  pub vppp_is : value_of (signed 4) (number 4 (drop (get_or s 2 0 + 3 + 12) s)) ≡ x.preamble.vppp
  unfolding read_fields
  vppp_is =
      let e : get_or s 2 0 + 3 + 12 ≡ get_or s 2 0 + 3 + 4 + 4 + 4 = omega arith in
      rw (e, ← drop-drop 4 (get_or s 2 0 + 3 + 4 + 4) s, ← drop-drop 4 (get_or s 2 0 + 3 + 4) s, ← drop-drop 4 (get_or s 2 0 + 3) s) (ap (λ v. v.1.1.1.0) values)

-- What the functions answer.

-- A signed number of four bytes, as the machine reads it back.
read_back : {z v : ℤ} → SFits w64 z → z ≡ v → to_z w64 (of_z w64 z) ≡ v
read_back f e = to_z-of_z {w = w64} f ∙ e

pub heading_is_lem : (s : List ℕ) (n k : ℕ) (ds cs hppp vppp : ℤ) → Counted s n → k ≡ get_or s 2 0
    → SFits w64 ds → SFits w64 cs → SFits w64 hppp → SFits w64 vppp
    → ds ≡ value_of (signed 4) (number 4 (drop (k + 3) s)) → cs ≡ value_of (signed 4) (number 4 (drop (k + 3 + 4) s))
    → hppp ≡ value_of (signed 4) (number 4 (drop (k + 3 + 8) s)) → vppp ≡ value_of (signed 4) (number 4 (drop (k + 3 + 12) s))
    → IsHeading s
    (record { bytes = length s; ds = to_z w64 (of_z w64 ds); cs = to_z w64 (of_z w64 cs); hppp = to_z w64 (of_z w64 hppp); vppp = to_z w64 (of_z w64 vppp); chars = n })
heading_is_lem s n k ds cs hppp vppp (y, d, m) e f1 f2 f3 f4 e1 e2 e3 e4 x c =
    let p : chars x ≡ n = ap chars (one_cut s x y c d) ∙ m in
    rw (
      read_back f1 (rw e at e1 ∙ ds_is s x c),
      read_back f2 (rw e at e2 ∙ cs_is s x c),
      read_back f3 (rw e at e3 ∙ hppp_is s x c),
      read_back f4 (rw e at e4 ∙ vppp_is s x c),
      ← p,
    )
    refl

-- All entries are ahead of the place behind the preamble.
ahead_start : (s : List ℕ) (x : Parts) → Cut s x → (first : ℕ) → first ≡ length (preamble_bytes x.preamble) → Ahead s first (entries_of x)
unfolding flat
ahead_start s x c first e =
    subst (λ (i : ℕ). Ahead s i (entries_of x)) (sym e)
    (record { parts = x; cut = c; before = []; left = x.pieces; pieces = refl; place = sym (add-zero (length (preamble_bytes x.preamble))); are = refl })

-- A font whose characters are told is accepted, with so many.
pub counted : (s : List ℕ) → Bytes s → (n : ℕ) → A.in_numbers (Ok n) ≡ told (check s) → Counted s n
counted s b n h = (accepted_exactly s b (Ok n) h n).0 refl

pub font_listed : (s : List ℕ) (n : ℕ) → Counted s n → (h : Heading) (first : ℕ) → IsHeading s h → IsFirst s first
    → (in_numbers (Ok (h, first)) ≡ told (heading_answer s)) × Starts s (Ok (h, first))
unfolding numbers heading_answer told answers
font_listed s n (x, c, m) h first i f =
    (rw ((accepts s x c.bytes).1 c) (ap says (i x c)), ((entries_of x, ahead_start s x c first (f x c)), λ y d. (f y d, ahead_start s y d first (f y d))))

-- The font's own refusal is given.
refused_told : (s : List ℕ) (v : Answer Parts) (number place : ℕ) → refuses number place ≡ told (answers chars v) → refuses number place ≡ told (answers (heading_of s) v)
unfolding told answers
refused_told s (gives x) number place e = cc
refused_told s (refused y at) number place e =
    let i : number ≡ (number_and_place y at).0 = cc in
    let j : place ≡ (number_and_place y at).1 = cc in
    rw (i, j) refl

pub refused_listed : (s : List ℕ) (x : Refused) → A.in_numbers (Err x) ≡ told (check s) → in_numbers (Err x) ≡ told (heading_answer s)
unfolding numbers heading_answer check
refused_listed s x h = refused_told s (verdict s) (number_of x.refusal) x.place h

-- An entry.

pub entry_is_lem : (s : List ℕ) → Bytes s → (at : ℕ) (x : Outline) → StandsAt s at x → (k : Form) (m : Measures) → form_is k ≡ form_of (get_or s at 0) → IsSaid s at m
    → IsEntry s at (record { at = at; form = k; f = x.f; black = x.black; m = m })
entry_is_lem s b at x t k m f i p rest e =
    let q = sym t.here ∙ e in
    let z : t.packet ≡ p = cc in
    let g : form_is k ≡ p.form = f ∙ flag_told s b at x t ∙ ap (λ (y : F.Packet). y.form) z in
    let u : x.f ≡ p.f = ap (λ (y : Outline). y.f) t.outline ∙ ap (λ (y : F.Packet). y.f) z in
    let v : x.black ≡ p.black = ap (λ (y : Outline). y.black) t.outline ∙ ap (λ (y : F.Packet). y.black) z in
    rw (g, u, v, i p rest e) refl
