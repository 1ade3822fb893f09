-- The pieces that the verdict finds from a place on are those of a cut, and the other way round. Assumes nothing.
use Prim.Native.Nat.{ℕ, zero, suc, ◌+◌, ◌%◌, ◌<◌}
use mathlib.Core.Path.{◌≡◌, refl, sym, ap, ◌∙◌, subst}
use mathlib.Core.List.{List, [], ◌∷◌, ◌++◌, append_assoc}
use mathlib.Core.Bool.{Bool, true, false, cond, not, ◌&&◌}
use native.Mathlib.Omega.{arith}
use lib.Dec.{eqb}
use lib.ListN.{length, replicate, length-append, length-replicate}
use borrow.Author.Tests.{eqb-true, not-true}
use Rattle.format.specs.Lists.{all, elem}
use Rattle.format.specs.Refusals.{Refusal, code_twice, no_packet, bad_ending, Answer, gives, refused, answers, Result, ok, fault, ◌>>=◌, need}
use Rattle.format.specs.Numbers.{Bytes, field_bytes}
use Rattle.format.specs.Pieces.{Preamble, kinds, Packet, fields, flag, Piece, special, numeric, noop, packet, bytes_of, PieceOk}
use Rattle.format.specs.Rasters.{Item}
use Rattle.format.specs.Cut.{flat, AllOk, packets, codes, AllFilled, Parts}
use Rattle.format.specs.Verdict.{Front, piece, last, step, checked, or_else, prepend, is_nil, ending, next, onward}
use Rattle.format.proofs.Tests.{and_true}
use Rattle.format.proofs.PieceLaws.{Found, Is, step_piece, step_is}
use Rattle.format.proofs.BitLaws.{all_is, all_same, need_ok}
use Rattle.format.proofs.FillLaws.{draws_items, items_draws}
use Rattle.format.proofs.ShorterLaws.{Less, less_rest, step_less, onward_step}
use Rattle.format.proofs.CodeLaws.{Fresh, seen_after}

-- Taking answers apart.

pub refused≢ : {A : Type 0} {x : Refusal} {place : ℕ} {a : A} → refused x place ≡ gives a → ⊥
refused≢ e = let z : ◌≡◌ {A = ℕ} 0 1 = cc in omega arith

pub or_refused : {A : Type 0} (a : A) (b : Bool) (x : Refusal) (place : ℕ) (r : Answer A) → cond b (refused x place) r ≡ gives a → (b ≡ false) × (r ≡ gives a)
or_refused a true x place r e = absurd (refused≢ e)
or_refused a false x place r e = (refl, e)

pub else_refused : {A : Type 0} (a : A) (b : Bool) (x : Refusal) (place : ℕ) (r : Answer A) → cond b r (refused x place) ≡ gives a → (b ≡ true) × (r ≡ gives a)
else_refused a true x place r e = (refl, e)
else_refused a false x place r e = absurd (refused≢ e)

or_else_lem : {A : Type 0} (y : Parts) (place : ℕ) (r : Result A) (x : Answer Parts) → or_else place r x ≡ gives y → (a : A) × (r ≡ ok a) × (x ≡ gives y)
unfolding or_else
or_else_lem y place (ok a) x e = (a, refl, e)
or_else_lem y place (fault r) x e = absurd (refused≢ e)

pub answers_gives : {A B : Type 0} (f : A → B) (r : Answer A) (b : B) → answers f r ≡ gives b → (a : A) × (r ≡ gives a) × (f a ≡ b)
unfolding answers
answers_gives f (gives a) b e = (a, refl, cc)
answers_gives f (refused x place) b e = absurd (refused≢ e)

pub bytes_left : (xs r : List ℕ) → Bytes (xs ++ r) → Bytes xs
bytes_left [] r h = tt
bytes_left (x ∷ xs) r h = (h.0, bytes_left xs r h.1)

pub bytes_right : (xs r : List ℕ) → Bytes (xs ++ r) → Bytes r
bytes_right [] r h = h
bytes_right (x ∷ xs) r h = bytes_right xs r h.1

pub raster_bytes : (p : Packet) (r : List ℕ) → Bytes (bytes_of (packet p) ++ r) → Bytes p.raster
unfolding bytes_of
raster_bytes p r h = bytes_right (field_bytes (kinds p.form) (fields p)) p.raster (bytes_left (flag p ∷ (field_bytes (kinds p.form) (fields p) ++ p.raster)) r h).1

-- One piece.

-- The packets of a piece are fresh, and their rasters filled.
abbrev pub Good : List ℕ → Piece → Type 0
Good seen p = Fresh seen (packets (p ∷ [])) × AllFilled (packets (p ∷ []))

pub checked_good : (seen : List ℕ) (p : Piece) (r : List ℕ) (is : List Item) → PieceOk p → Bytes (bytes_of p ++ r) → checked seen (packets (p ∷ [])) ≡ ok is → Good seen p
unfolding checked packets
checked_good seen (special k xs) r is o b e = (tt, tt)
checked_good seen (numeric xs) r is o b e = (tt, tt)
checked_good seen noop r is o b e = (tt, tt)
checked_good seen (packet p) r is o b e =
    let t = need_ok (not (elem p.code seen)) code_twice _ e in
    let d = items_draws p.f p.black p.w p.h p.raster is o.f o.limits (raster_bytes p r b) t.1 in
    ((not-true (elem p.code seen) t.0, tt), (d, tt))

good_checked : (seen : List ℕ) (p : Piece) → PieceOk p → Good seen p → (is : List Item) × (checked seen (packets (p ∷ [])) ≡ ok is)
unfolding checked packets need ◌>>=◌
good_checked seen (special k xs) o g = ([], refl)
good_checked seen (numeric xs) o g = ([], refl)
good_checked seen noop o g = ([], refl)
good_checked seen (packet p) o g =
    let d = draws_items p.f p.black p.w p.h p.raster g.1.0.0 o.limits g.1.0.1 in
    (d.0, rw g.0.0 d.1)

-- The pieces from a place on.

-- The bytes s, at a place behind packets with the codes seen, are pieces and an ending.
pub record Tail (place : ℕ) (seen s : List ℕ) (ps : List Piece) (pad : ℕ) : Type 0 where
  pub whole : s ≡ flat ps ++ 245 ∷ replicate pad 246
  pub four : (place + length s) % 4 ≡ 0
  pub pieces : AllOk ps
  pub filled : AllFilled (packets ps)
  pub fresh : Fresh seen (packets ps)
  pub any : is_nil (seen_after (packets ps) seen) ≡ false

-- What is said of the packets behind a piece, and of them with it.
pub record With (seen : List ℕ) (p : Piece) (ps : List Piece) : Type 0 where
  pub filled : AllFilled (packets (p ∷ ps))
  pub fresh : Fresh seen (packets (p ∷ ps))
  pub after : seen_after (packets (p ∷ ps)) seen ≡ seen_after (packets ps) (codes (packets (p ∷ [])) ++ seen)

pub with_piece : (seen : List ℕ) (p : Piece) (ps : List Piece) → Good seen p → AllFilled (packets ps) → Fresh (codes (packets (p ∷ [])) ++ seen) (packets ps) → With seen p ps
unfolding packets codes
with_piece seen (special k xs) ps g a f = record { filled = a; fresh = f; after = refl }
with_piece seen (numeric xs) ps g a f = record { filled = a; fresh = f; after = refl }
with_piece seen noop ps g a f = record { filled = a; fresh = f; after = refl }
with_piece seen (packet p) ps g a f = record { filled = (g.1.0, a); fresh = (g.0.0, f); after = refl }

record Without (seen : List ℕ) (p : Piece) (ps : List Piece) : Type 0 where
  good : Good seen p
  filled : AllFilled (packets ps)
  fresh : Fresh (codes (packets (p ∷ [])) ++ seen) (packets ps)
  after : seen_after (packets (p ∷ ps)) seen ≡ seen_after (packets ps) (codes (packets (p ∷ [])) ++ seen)

without_piece : (seen : List ℕ) (p : Piece) (ps : List Piece) → AllFilled (packets (p ∷ ps)) → Fresh seen (packets (p ∷ ps)) → Without seen p ps
unfolding packets codes
without_piece seen (special k xs) ps a f = record { good = (tt, tt); filled = a; fresh = f; after = refl }
without_piece seen (numeric xs) ps a f = record { good = (tt, tt); filled = a; fresh = f; after = refl }
without_piece seen noop ps a f = record { good = (tt, tt); filled = a; fresh = f; after = refl }
without_piece seen (packet p) ps a f = record { good = ((f.0, tt), (a.0, tt)); filled = a.1; fresh = f.1; after = refl }

longer : (s : List ℕ) (p : Piece) (r : List ℕ) → s ≡ bytes_of p ++ r → length s ≡ length (bytes_of p) + length r
longer s p r e = ap length e ∙ length-append (bytes_of p) r

tail_cons : (place : ℕ) (seen s : List ℕ) (p : Piece) (r : List ℕ) (ps : List Piece) (pad : ℕ) → Found s p r → Good seen p
    → Tail (place + length (bytes_of p)) (codes (packets (p ∷ [])) ++ seen) r ps pad → Tail place seen s (p ∷ ps) pad
unfolding flat
tail_cons place seen s p r ps pad f g t =
    let l = longer s p r f.whole in
    let u = with_piece seen p ps g t.filled t.fresh in
    record {
      whole = f.whole ∙ rw append_assoc (ap (λ (x : List ℕ). bytes_of p ++ x) t.whole);
      four = omega (arith, t.four);
      pieces = (f.ok, t.pieces);
      filled = u.filled;
      fresh = u.fresh;
      any = ap is_nil u.after ∙ t.any;
    }

ended_well : (a : Preamble) (x : Parts) (place : ℕ) (seen r : List ℕ) → ending a place seen r ≡ gives x
    → (x ≡ record { preamble = a; pieces = []; pad = length r }) × (is_nil seen ≡ false) × (r ≡ replicate (length r) 246) × ((place + 1 + length r) % 4 ≡ 0)
unfolding ending
ended_well a x place seen r e =
    let p = or_refused x (is_nil seen) no_packet place _ e in
    let q = else_refused x (all 246 r && eqb ((place + 1 + length r) % 4) 0) bad_ending place _ p.1 in
    let z = and_true (all 246 r) (eqb ((place + 1 + length r) % 4) 0) q.0 in
    (cc q.1, p.0, all_is 246 r z.0, eqb-true ((place + 1 + length r) % 4) 0 z.1)

last_tail : (place : ℕ) (seen s r : List ℕ) → s ≡ 245 ∷ r → r ≡ replicate (length r) 246 → (place + length s) % 4 ≡ 0 → is_nil seen ≡ false → Tail place seen s [] (length r)
unfolding flat packets
last_tail place seen s r e f g h =
    record { whole = e ∙ ap (λ (y : List ℕ). 245 ∷ y) f; four = g; pieces = tt; filled = tt; fresh = tt; any = h }

-- Pieces in front of what the rest answers.
abbrev pub in_front : List Piece → Answer Parts → Answer Parts
in_front [] r = r
in_front (p ∷ ps) r = answers (prepend p) (in_front ps r)

front_gives : (a : Preamble) (pad : ℕ) (ps : List Piece)
    → in_front ps (gives (record { preamble = a; pieces = []; pad = pad })) ≡ gives (record { preamble = a; pieces = ps; pad = pad })
unfolding answers prepend
front_gives a pad [] = refl
front_gives a pad (p ∷ ps) = rw (front_gives a pad ps) refl

pub front_refused : (x : Refusal) (place : ℕ) (ps : List Piece) → in_front ps (refused x place) ≡ refused x place
unfolding answers
front_refused x place [] = refl
front_refused x place (p ∷ ps) = rw (front_refused x place ps) refl

module _ (a : Preamble) where
  -- What is found from a place on are the pieces there. g bounds the bytes.
  pub onward_tail : (g place : ℕ) (seen s : List ℕ) (x : Parts) → length s < g → Bytes s → onward a place seen s ≡ gives x → (x.preamble ≡ a) × Tail place seen s x.pieces x.pad
  unfolding next prepend
  onward_tail zero place seen s x l b e = absurd (omega arith)
  onward_tail (suc g) place seen s x l b e = go (onward_tail g) (step s) (step_is s b) (step_less s) (sym (onward_step a place seen s) ∙ e)
    where
      go : ((place : ℕ) (seen s : List ℕ) (x : Parts) → length s < g → Bytes s → onward a place seen s ≡ gives x → (x.preamble ≡ a) × Tail place seen s x.pieces x.pad)
          → (f : Result Front) → Is s f → Less s f → next a (onward a) place seen f ≡ gives x → (x.preamble ≡ a) × Tail place seen s x.pieces x.pad
      go ih (ok (piece p r)) k m q =
          let u = or_else_lem x place (checked seen (packets (p ∷ []))) _ q in
          let v = answers_gives (prepend p) (onward a (place + length (bytes_of p)) (codes (packets (p ∷ [])) ++ seen) r) x u.2 in
          let n = less_rest m in
          let h = subst Bytes k.whole b in
          let t = ih (place + length (bytes_of p)) (codes (packets (p ∷ [])) ++ seen) r v.0 (omega arith) (bytes_right (bytes_of p) r h) v.1 in
          subst (λ (y : Parts). (y.preamble ≡ a) × Tail place seen s y.pieces y.pad) v.2
          (t.0, tail_cons place seen s p r v.0.pieces v.0.pad k (checked_good seen p r u.0 k.ok h u.1) t.1)
      go ih (ok (last r)) k m q =
          let t = ended_well a x place seen r q in
          let n : length s ≡ suc (length r) = ap length k in
          let f = t.3 in
          subst (λ (y : Parts). (y.preamble ≡ a) × Tail place seen s y.pieces y.pad) (sym t.0)
          (refl, last_tail place seen s r k t.2 (omega arith) t.1)
      go ih (fault y) k m q = absurd (refused≢ q)

  -- Pieces in order are found, and then what the rest answers.
  pub pieces_onward : (ps : List Piece) (place : ℕ) (seen rest : List ℕ) → AllOk ps → AllFilled (packets ps) → Fresh seen (packets ps)
      → onward a place seen (flat ps ++ rest) ≡ in_front ps (onward a (place + length (flat ps)) (seen_after (packets ps) seen) rest)
  unfolding next flat packets or_else
  pieces_onward [] place seen rest o d f = let z : place + 0 ≡ place = omega arith in rw z refl
  pieces_onward (p ∷ ps) place seen rest o d f =
      let u = without_piece seen p ps d f in
      let c = good_checked seen p o.0 u.good in
      let i = pieces_onward ps (place + length (bytes_of p)) (codes (packets (p ∷ [])) ++ seen) rest o.1 u.filled u.fresh in
      let n : place + length (bytes_of p ++ flat ps) ≡ place + length (bytes_of p) + length (flat ps) = rw length-append (omega arith) in
      onward_step a place seen (flat (p ∷ ps) ++ rest)
      ∙ rw (append_assoc (bytes_of p) (flat ps) rest, step_piece p (flat ps ++ rest) o.0, c.1, i, n, u.after) refl

  -- The pieces of a cut are found.
  pub tail_onward : (ps : List Piece) (pad place : ℕ) (seen s : List ℕ) → Tail place seen s ps pad → onward a place seen s ≡ gives (record { preamble = a; pieces = ps; pad = pad })
  unfolding next ending step
  tail_onward ps pad place seen s t =
      let to = place + length (flat ps) in
      let r : List ℕ = 245 ∷ replicate pad 246 in
      let l : length s ≡ length (flat ps) + suc pad = ap length t.whole ∙ length-append (flat ps) r ∙ rw (length-replicate {A = ℕ} pad 246) refl in
      let m : (to + 1 + pad) % 4 ≡ 0 = omega (arith, t.four) in
      ap (onward a place seen) t.whole
      ∙ pieces_onward ps place seen r t.pieces t.filled t.fresh
      ∙ rw (onward_step a to (seen_after (packets ps) seen) r, t.any, all_same 246 pad, length-replicate {A = ℕ} pad 246, m) (front_gives a pad ps)
