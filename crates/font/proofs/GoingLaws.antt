-- The loop over the pieces: what is answered from here on is what is answered from the start, and each turn keeps it so. Assumes nothing.
use Prim.Native.Nat.{ℕ, zero, suc, ◌+◌, ◌-◌, ◌≤◌, ◌<◌}
use mathlib.Core.Path.{◌≡◌, refl, sym, ap, ◌∙◌, subst}
use mathlib.Core.Bool.{Bool, true, false}
use mathlib.Core.List.{List, [], ◌∷◌, ◌++◌}
use native.Mathlib.Omega.{arith}
use lib.Dec.{eqb}
use lib.ListN.{length, drop, get_or, set, replicate, length-append, length-drop, length-set, length-replicate}
use lib.Seq.{drop-drop, drop-append_seam, get_or-set_same, get_or-set_other}
use borrow.Author.Tests.{eqb-true, eqb-false}
use Rattle.format.specs.Lists.{elem}
use Rattle.std.specs.Prelude.{Ok, Err}
use Rattle.std.specs.declared.result.Result.{Result}
use Rattle.format.specs.Refusals as R
use Rattle.format.specs.Refusals.{Answer, gives, refused, answers, ok, fault}
use Rattle.format.specs.Numbers.{Bytes}
use Rattle.format.specs.Pieces as F
use Rattle.format.specs.Pieces.{Preamble, bytes_of}
use Rattle.format.specs.Rasters.{Item}
use Rattle.format.specs.Cut.{packets, codes, Parts, chars}
use Rattle.format.specs.Verdict.{Front, piece, last, step, checked, or_else, prepend, next, onward}
use Rattle.format.proofs.Tests.{test}
use Rattle.format.proofs.FieldLaws.{bytes_drop}
use Rattle.format.proofs.PieceLaws as P
use Rattle.format.proofs.PieceLaws.{Is, step_is}
use Rattle.format.proofs.ShorterLaws.{Less, less_rest, step_less, onward_step}
use Rattle.refusals.specs.Answers.{refused_at, to_result}
use Rattle.refusals.specs.declared.Refusal.{Refusal}
use Rattle.refusals.specs.declared.Refused.{Refused}
use Rattle.packet.proofs.StandingLaws.{code_small}
use Rattle.font.specs.Turns.{chars_after, Marks, judged_turn, turn_for, to_turn, IsTurn, IsEnding, IsOnward}
use Rattle.font.specs.declared.Turn.{Turn}
use Rattle.font.specs.declared.Turn.TheVariants.{Packet, Command, Last}

-- The codes seen.

marks_none : Marks (replicate 256 false) []
unfolding elem
marks_none = record { places = length-replicate {A = Bool} 256 false; marked = λ c l. none 256 c }
  where
    none : (n c : ℕ) → get_or (replicate n false) c false ≡ false
    none zero c = refl
    none (suc n) zero = refl
    none (suc n) (suc c) = none n c

marks_more : (seen : List Bool) (cs : List ℕ) (c : ℕ) → c < 256 → Marks seen cs → Marks (set seen c true) (c ∷ cs)
unfolding elem
marks_more seen cs c l m =
    let p = m.places in
    record {
      places = length-set seen c true ∙ p;
      marked = λ d k. test (eqb d c)
          (λ t. let e = eqb-true d c t in rw (t, e) (get_or-set_same seen c true false (omega arith)))
          (λ t. get_or-set_other seen c d true false (eqb-false d c t) ∙ m.marked d k ∙ rw t refl);
    }

-- The answer from here on.

-- At a place of the font s, behind n characters with the codes marked, what is answered from the start on is answered from here on.
pub record Going (s : List ℕ) (start at n : ℕ) (seen : List Bool) : Type 0 where
  pub bytes : Bytes s
  pub upto : at ≤ length s
  pub before : List ℕ
  pub marks : Marks seen before
  pub count : length before ≡ n
  pub few : n ≤ at
  pub same : (a : Preamble) → to_result (answers chars (onward a start [] (drop start s))) ≡ to_result (answers (chars_after n) (onward a at before (drop at s)))

none_more : (r : Answer Parts) → answers chars r ≡ answers (chars_after 0) r
unfolding answers
none_more (gives x) = ap gives (omega arith)
none_more (refused x place) = refl

pub going_start : (s : List ℕ) (start : ℕ) (seen : List Bool) → Bytes s → start ≤ length s → seen ≡ replicate 256 false → Going s start start 0 seen
going_start s start seen b l e =
    record {
      bytes = b;
      upto = l;
      before = [];
      marks = subst (λ (x : List Bool). Marks x []) (sym e) marks_none;
      count = refl;
      few = omega arith;
      same = λ a. ap to_result (none_more (onward a start [] (drop start s)));
    }

-- A piece in order.

packets_more : (p : F.Piece) (ps : List F.Piece) → length (packets (p ∷ ps)) ≡ length (packets (p ∷ [])) + length (packets ps)
unfolding packets
packets_more (F.special k xs) ps = omega arith
packets_more (F.numeric xs) ps = omega arith
packets_more F.noop ps = omega arith
packets_more (F.packet p) ps = omega arith

length-codes : (ps : List F.Packet) → length (codes ps) ≡ length ps
unfolding codes
length-codes [] = refl
length-codes (p ∷ ps) = ap suc (length-codes ps)

-- A piece in front adds its packets to the characters.
chars_more : (n : ℕ) (p : F.Piece) (r : Answer Parts) → answers (chars_after n) (answers (prepend p) r) ≡ answers (chars_after (n + length (packets (p ∷ [])))) r
unfolding answers prepend
chars_more n p (gives x) = ap gives (omega (arith, packets_more p x.pieces))
chars_more n p (refused x place) = refl

-- The place behind a piece, and the rest from there on.
record Behind (s : List ℕ) (at : ℕ) (p : F.Piece) (r : List ℕ) : Type 0 where
  after : at < length s - length r
  place : at + length (bytes_of p) ≡ length s - length r
  rest : drop (length s - length r) s ≡ r
  packets_few : length (packets (p ∷ [])) ≤ length (bytes_of p)

one_packet : (p : F.Piece) → length (packets (p ∷ [])) ≤ 1
unfolding packets
one_packet (F.special k xs) = omega arith
one_packet (F.numeric xs) = omega arith
one_packet F.noop = omega arith
one_packet (F.packet p) = omega arith

behind_piece : (s : List ℕ) (at : ℕ) (p : F.Piece) (r : List ℕ) → at ≤ length s → P.Found (drop at s) p r → length r < length (drop at s) → Behind s at p r
behind_piece s at p r l k m =
    let d = length-drop at s in
    let e = ap length k.whole ∙ length-append (bytes_of p) r in
    let j : length s - length r ≡ at + length (bytes_of p) = omega arith in
    record {
      after = omega arith;
      place = omega arith;
      rest = rw (j, ← drop-drop (length (bytes_of p)) at s, k.whole) (drop-append_seam (bytes_of p) r);
      packets_few = omega (arith, one_packet p);
    }

-- The codes seen grow by those of the piece.
going_on : (s : List ℕ) (start at n : ℕ) (seen seen' : List Bool) (g : Going s start at n seen) (p : F.Piece) (r : List ℕ) (is : List Item)
    → step (drop at s) ≡ ok (piece p r) → checked g.before (packets (p ∷ [])) ≡ ok is → Marks seen' (codes (packets (p ∷ [])) ++ g.before)
    → Going s start (length s - length r) (n + length (packets (p ∷ []))) seen'
unfolding next or_else
going_on s start at n seen seen' g p r is e c m =
    let k = subst (Is (drop at s)) e (step_is (drop at s) (bytes_drop at s g.bytes)) in
    let l = less_rest (subst (Less (drop at s)) e (step_less (drop at s))) in
    let b = behind_piece s at p r g.upto k l in
    let a = b.after in
    let f = b.place in
    record {
      bytes = g.bytes;
      upto = omega arith;
      before = codes (packets (p ∷ [])) ++ g.before;
      marks = m;
      count = omega (arith, length-append (codes (packets (p ∷ []))) g.before, length-codes (packets (p ∷ [])), g.count);
      few = omega (arith, g.few, b.packets_few);
      same = λ q.
          g.same q ∙ ap (λ (x : Answer Parts). to_result (answers (chars_after n) x)) (onward_step q at g.before (drop at s))
          ∙ rw (e, c, b.place, b.rest) (ap to_result (chars_more n p (onward q (length s - length r) (codes (packets (p ∷ [])) ++ g.before) r)));
    }

-- What each turn gives.

abbrev pub Goes : List ℕ → ℕ → ℕ → ℕ → List Bool → Result Turn Refusal → Type 0
Goes s start at n seen (Ok (Packet code to)) = (at < to) × (code < 256) × Going s start to (n + 1) (set seen code true)
Goes s start at n seen (Ok (Command to)) = (at < to) × Going s start to n seen
Goes s start at n seen (Ok Last) = (at < length s) × ((r : Result ℕ Refused) → IsEnding s at n r → IsOnward s start r)
Goes s start at n seen (Err x) = IsOnward s start (Err (record { refusal = x; place = at }))

module _ (s : List ℕ) (start at n : ℕ) (seen : List Bool) (g : Going s start at n seen) where
  -- A fault of the piece, or of its raster.
  stops : (x : R.Refusal) → ((a : Preamble) → onward a at g.before (drop at s) ≡ refused x at) → IsOnward s start (Err (refused_at x at))
  unfolding to_result answers
  stops x e a = sym (g.same a ∙ rw (e a) refl)

  -- Behind a piece that is found.
  behind : (p : F.Piece) (r : List ℕ) → step (drop at s) ≡ ok (piece p r) → P.Found (drop at s) p r × Behind s at p r
  behind p r e =
      let k = subst (Is (drop at s)) e (step_is (drop at s) (bytes_drop at s g.bytes)) in
      (k, behind_piece s at p r g.upto k (less_rest (subst (Less (drop at s)) e (step_less (drop at s)))))

  -- A piece without a packet.
  command_goes : (p : F.Piece) (r : List ℕ) (is : List Item) → packets (p ∷ []) ≡ [] → step (drop at s) ≡ ok (piece p r) → checked g.before (packets (p ∷ [])) ≡ ok is
      → (at < length s - length r) × Going s start (length s - length r) n seen
  unfolding codes
  command_goes p r is z e c =
      let m = subst (λ (ps : List F.Packet). Marks seen (codes ps ++ g.before)) (sym z) g.marks in
      let k : n + length (packets (p ∷ [])) ≡ n = omega (arith, ap length z) in
      ((behind p r e).1.after, subst (λ (i : ℕ). Going s start (length s - length r) i seen) k (going_on s start at n seen seen g p r is e c m))

  piece_goes : (p : F.Piece) (r : List ℕ) (c : R.Result (List Item)) → step (drop at s) ≡ ok (piece p r) → checked g.before (packets (p ∷ [])) ≡ c
      → Goes s start at n seen (judged_turn (turn_for (length s - length r) (packets (p ∷ []))) c)
  unfolding judged_turn next or_else packets codes
  piece_goes p r (fault x) e c = stops x (λ a. onward_step a at g.before (drop at s) ∙ rw (e, c) refl)
  piece_goes (F.special i xs) r (ok is) e c = command_goes (F.special i xs) r is refl e c
  piece_goes (F.numeric xs) r (ok is) e c = command_goes (F.numeric xs) r is refl e c
  piece_goes F.noop r (ok is) e c = command_goes F.noop r is refl e c
  piece_goes (F.packet p) r (ok is) e c =
      let b = behind (F.packet p) r e in
      let l = code_small p b.0.ok in
      (b.1.after, l, going_on s start at n seen (set seen p.code true) g (F.packet p) r is e c (marks_more seen g.before p.code l g.marks))

  last_goes : (r : List ℕ) → step (drop at s) ≡ ok (last r) → Goes s start at n seen (Ok Last)
  unfolding next
  last_goes r e =
      let k : drop at s ≡ 245 ∷ r = subst (Is (drop at s)) e (step_is (drop at s) (bytes_drop at s g.bytes)) in
      let m = length-drop at s in
      let j = ap length k in
      let q : drop (at + 1) s ≡ r = sym (drop-drop 1 at s) ∙ ap (drop 1) k in (
        omega arith,
        λ x h a. h a g.before g.count
            ∙ sym (g.same a ∙ ap (λ (y : Answer Parts). to_result (answers (chars_after n) y)) (onward_step a at g.before (drop at s)) ∙ rw (e, q) refl),
      )

  front_goes : (f : R.Result Front) → step (drop at s) ≡ f → Goes s start at n seen (to_turn (length s) g.before f)
  unfolding to_turn next
  front_goes (ok (piece p r)) e = piece_goes p r (checked g.before (packets (p ∷ []))) e refl
  front_goes (ok (last r)) e = last_goes r e
  front_goes (fault x) e = stops x (λ a. onward_step a at g.before (drop at s) ∙ rw e refl)

  -- Each turn gives what it must.
  pub goes : (t q : Result Turn Refusal) → IsTurn seen (length s) (step (drop at s)) t → t ≡ q → Goes s start at n seen q
  goes t q h e = subst (Goes s start at n seen) (sym (h g.before g.marks) ∙ e) (front_goes (step (drop at s)) refl)
