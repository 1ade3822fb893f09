-- A font is accepted exactly when its bytes have a cut, and all that is answered is read off it (the letter's third demand). Assumes nothing.
use Prim.Native.Nat.{ℕ, suc, ◌+◌, ◌≤◌, ◌<◌}
use mathlib.Core.Path.{◌≡◌, refl, sym, ap, ◌∙◌, subst}
use mathlib.Core.List.{List, [], ◌∷◌, ◌++◌, append_assoc}
use mathlib.Core.Bool.{false}
use mathlib.Core.Logic.{◌↔◌}
use native.Mathlib.Omega.{arith}
use lib.Dec.{ltb, eqb}
use lib.ListN.{length, take, drop, replicate, length-append, length-drop, take-append-drop}
use lib.Seq.{length-take-le, take-append_seam, drop-append_seam, drop_at, drop-drop}
use borrow.Author.Tests.{ltb-false, eqb-true, eqb-false, le-ltb, ne_eqb}
use Rattle.format.specs.Refusals.{gives, answers, too_long, no_preamble, wrong_id, file_ends}
use Rattle.format.specs.Numbers.{Bytes, field_bytes}
use Rattle.format.specs.Pieces.{Preamble, preamble_kinds, preamble_values, preamble_bytes, PreambleOk}
use Rattle.format.specs.Cut.{flat, packets, Parts, chars, join, Cut}
use Rattle.format.specs.Decoding.{read_fields}
use Rattle.format.specs.Verdict.{is_nil, onward, preamble_of, preamble_at, begin, verdict, check}
use Rattle.format.proofs.FieldLaws.{bytes_drop, length_fields, read_fields_lem, fields_read}
use Rattle.format.proofs.CodeLaws.{seen_after, fresh_distinct, distinct_fresh, length_seen}
use Rattle.format.proofs.OnwardLaws.{refused≢, or_refused, else_refused, answers_gives, Tail, onward_tail, tail_onward}

nil_length : (xs : List ℕ) → is_nil xs ≡ eqb (length xs) 0
unfolding is_nil
nil_length [] = refl
nil_length (x ∷ xs) = sym (ne_eqb (suc (length xs)) 0 (λ q. omega arith))

-- A cut is accepted.

preamble_read : (a : Preamble) (t : List ℕ) → PreambleOk a
    → preamble_at (length a.comment ∷ (a.comment ++ (field_bytes preamble_kinds (preamble_values a) ++ t))) ≡ onward a (length a.comment + 19) [] t
unfolding preamble_at
preamble_read a t o =
    let x = a.comment in
    let b = field_bytes preamble_kinds (preamble_values a) in
    let l : length b ≡ 16 = length_fields preamble_kinds (preamble_values a) in
    let m : length (x ++ (b ++ t)) ≡ length x + (length b + length t) = length-append x (b ++ t) ∙ ap (λ (n : ℕ). length x + n) (length-append b t) in
    rw (
      le-ltb (length (x ++ (b ++ t))) (length x + 16) (omega arith),
      ← drop-drop 16 (length x) (x ++ (b ++ t)),
      take-append_seam x (b ++ t),
      drop-append_seam x (b ++ t),
      drop_at b t 16 l,
      read_fields_lem preamble_kinds (preamble_values a) t o.fields,
    )

pub preamble_length : (a : Preamble) → length (preamble_bytes a) ≡ length a.comment + 19
unfolding preamble_bytes
preamble_length a = rw (length-append a.comment (field_bytes preamble_kinds (preamble_values a)), length_fields preamble_kinds (preamble_values a)) (omega arith)

-- A font with a preamble is judged by what follows it.
pub preamble_verdict : (s : List ℕ) (a : Preamble) (t : List ℕ) → length s ≤ 65536 → s ≡ preamble_bytes a ++ t → PreambleOk a
    → verdict s ≡ onward a (length (preamble_bytes a)) [] t
unfolding verdict begin preamble_bytes
preamble_verdict s a t l e o =
    rw (le-ltb 65536 (length s) l, e, append_assoc a.comment (field_bytes preamble_kinds (preamble_values a)) t, preamble_length a) (preamble_read a t o)

cut_tail : (s : List ℕ) (x : Parts) → Cut s x → Tail (length (preamble_bytes x.preamble)) [] (flat x.pieces ++ 245 ∷ replicate x.pad 246) x.pieces x.pad
unfolding join
cut_tail s x c =
    let t = flat x.pieces ++ 245 ∷ replicate x.pad 246 in
    let ps = packets x.pieces in
    let l = ap length c.whole ∙ length-append (preamble_bytes x.preamble) t in
    record {
      whole = refl;
      four = omega (arith, c.four);
      pieces = c.pieces;
      filled = c.filled;
      fresh = distinct_fresh ps c.distinct;
      any = nil_length (seen_after ps []) ∙ ne_eqb (length (seen_after ps [])) 0 (λ q. omega (arith, length_seen ps [], c.any));
    }

pub cut_verdict : (s : List ℕ) (x : Parts) → Cut s x → verdict s ≡ gives x
unfolding join
cut_verdict s x c =
    let a = x.preamble in
    let t = flat x.pieces ++ 245 ∷ replicate x.pad 246 in
    preamble_verdict s a t c.small c.whole c.preamble ∙ tail_onward a x.pieces x.pad (length (preamble_bytes a)) [] t (cut_tail s x c)

-- What is accepted is cut.

-- The preamble that is read stands there.
pub preamble_is : (k : ℕ) (s : List ℕ) → k < 256 → Bytes s → k + 16 ≤ length s
    → (247 ∷ 89 ∷ k ∷ s ≡ preamble_bytes (preamble_of (take k s) (read_fields preamble_kinds (drop k s))) ++ drop (k + 16) s)
    × PreambleOk (preamble_of (take k s) (read_fields preamble_kinds (drop k s)))
unfolding preamble_bytes
preamble_is k s hk hs l =
    let w = fields_read preamble_kinds (drop k s) (bytes_drop k s hs) (rw length-drop (omega arith)) in
    let m : length (take k s) ≡ k = length-take-le k s (omega arith) in
    let z : (take k s ++ take 16 (drop k s)) ++ drop (k + 16) s ≡ s =
    append_assoc (take k s) (take 16 (drop k s)) (drop (k + 16) s)
    ∙ rw (← drop-drop 16 k s, take-append-drop 16 (drop k s)) (take-append-drop k s) in
    (rw (m, w.whole, z), record { comment = rw m hk; fields = w.held })

preamble_cut : (k : ℕ) (s : List ℕ) (x : Parts) → length (247 ∷ 89 ∷ k ∷ s) ≤ 65536 → Bytes (247 ∷ 89 ∷ k ∷ s) → preamble_at (k ∷ s) ≡ gives x → Cut (247 ∷ 89 ∷ k ∷ s) x
unfolding preamble_at join
preamble_cut k s x small hs e =
    let b = hs.1.1.1 in
    let u = or_refused x (ltb (length s) (k + 16)) file_ends 0 _ e in
    let l = ltb-false (length s) (k + 16) u.0 in
    let a = preamble_of (take k s) (read_fields preamble_kinds (drop k s)) in
    let p = preamble_is k s hs.1.1.0 b l in
    let y = onward_tail a (suc (length (drop (k + 16) s))) (k + 19) [] (drop (k + 16) s) x (omega arith) (bytes_drop (k + 16) s b) u.1 in
    let t = y.1 in
    let n = length-drop (k + 16) s in
    let ps = packets x.pieces in
    let q : eqb (length (seen_after ps [])) 0 ≡ false = sym (nil_length (seen_after ps [])) ∙ t.any in
    let j = eqb-false (length (seen_after ps [])) 0 q in
    record {
      bytes = hs;
      whole = p.0 ∙ ap (λ (v : List ℕ). preamble_bytes a ++ v) t.whole ∙ ap (λ (v : Preamble). preamble_bytes v ++ (flat x.pieces ++ 245 ∷ replicate x.pad 246)) (sym y.0);
      small = small;
      four = omega (arith, t.four);
      preamble = subst PreambleOk (sym y.0) p.1;
      pieces = t.pieces;
      filled = t.filled;
      distinct = fresh_distinct ps t.fresh;
      any = omega (arith, length_seen ps []);
    }

begin_cut : (s : List ℕ) (x : Parts) → length s ≤ 65536 → Bytes s → begin s ≡ gives x → Cut s x
unfolding begin preamble_at
begin_cut [] x small hs e = absurd (refused≢ e)
begin_cut (a ∷ []) x small hs e = absurd (refused≢ (else_refused x (eqb a 247) no_preamble 0 _ e).1)
begin_cut (a ∷ b ∷ []) x small hs e =
    let u = else_refused x (eqb a 247) no_preamble 0 _ e in
    absurd (refused≢ (else_refused x (eqb b 89) wrong_id 0 _ u.1).1)
begin_cut (a ∷ b ∷ k ∷ s) x small hs e =
    let u = else_refused x (eqb a 247) no_preamble 0 _ e in
    let v = else_refused x (eqb b 89) wrong_id 0 _ u.1 in
    let p = eqb-true a 247 u.0 in
    let q = eqb-true b 89 v.0 in
    rw (p, q) (preamble_cut k s x small (omega arith, (omega arith, hs.1.1)) v.1)

pub verdict_cut : (s : List ℕ) (x : Parts) → Bytes s → verdict s ≡ gives x → Cut s x
unfolding verdict
verdict_cut s x hs e =
    let u = or_refused x (ltb 65536 (length s)) too_long 0 _ e in
    begin_cut s x (ltb-false 65536 (length s) u.0) hs u.1

-- Accepted exactly when a cut exists.

-- The parts that are found are those of the cut.
pub accepts : (s : List ℕ) (x : Parts) → Bytes s → (verdict s ≡ gives x) ↔ Cut s x
accepts s x b = (verdict_cut s x b, cut_verdict s x)

-- The number of characters answered is the cut's.
pub counts_chars : (s : List ℕ) (n : ℕ) → Bytes s → (check s ≡ gives n) ↔ ((x : Parts) × Cut s x × (chars x ≡ n))
unfolding check answers
counts_chars s n b = (
  (λ e. let t = answers_gives chars (verdict s) n e in (t.0, verdict_cut s t.0 b t.1, t.2)),
  (λ t. rw (cut_verdict s t.0 t.1) (ap gives t.2)),
)
