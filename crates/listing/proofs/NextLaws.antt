-- The packets of a font, one after another: a place between two pieces, and what the piece that stands there gives. Assumes nothing.
use Prim.Native.Nat.{ℕ, ◌+◌, ◌-◌, ◌≤◌, ◌<◌}
use mathlib.Core.Path.{◌≡◌, refl, sym, ap, ◌∙◌, subst}
use mathlib.Core.List.{List, [], ◌∷◌, ◌++◌, append_assoc, append-nil}
use native.Mathlib.Omega.{arith}
use lib.ListN.{length, drop, replicate, length-append}
use lib.Seq.{drop-append_seam}
use Rattle.std.specs.declared.option.Option.TheVariants.{None, Some}
use Rattle.std.specs.declared.result.Result.{Result}
use Rattle.std.specs.declared.result.Result.TheVariants.{Ok, Err}
use Rattle.refusals.specs.declared.Refusal.{Refusal}
use Rattle.format.specs.Refusals.{ok}
use Rattle.format.specs.Pieces as F
use Rattle.format.specs.Pieces.{preamble_bytes, bytes_of}
use Rattle.format.specs.Cut.{flat, AllOk, join}
use Rattle.format.specs.Verdict.{piece, step}
use Rattle.format.specs.Listing as L
use Rattle.format.specs.Listing.{entry_of, entries}
use Rattle.format.proofs.ListTheorems.{flat_append}
use Rattle.packet.specs.Outlines.{piece_of}
use Rattle.packet.specs.Standing.{StandsAt}
use Rattle.packet.specs.declared.Piece.{Piece}
use Rattle.packet.specs.declared.Piece.TheVariants.{Packet, Command, Last}
use Rattle.find.proofs.RestLaws.{Rest, rest_next, rest_last}
use Rattle.find.proofs.RestLaws as R
use Rattle.listing.specs.Listed.{Listed, Ahead, Between, Starts, Coming, Next, Comes, IsNext, IsEntry}
use Rattle.listing.specs.declared.Entry.{Entry}
use Rattle.listing.specs.declared.Heading.{Heading}

all_later : (ps qs : List F.Piece) → AllOk (ps ++ qs) → AllOk qs
all_later [] qs a = a
all_later (p ∷ ps) qs a = all_later ps qs a.1

-- The first pieces and the ending behind them, at the place.
pub ahead_rest : {s : List ℕ} {at : ℕ} {es : List L.Entry} (t : Ahead s at es) → Rest s at t.left t.parts.pad
unfolding join
ahead_rest {s} {at} t =
    let a = preamble_bytes t.parts.preamble in
    let e = flat t.left ++ 245 ∷ replicate t.parts.pad 246 in
    let w : s ≡ (a ++ flat t.before) ++ e =
    t.cut.whole ∙ ap (λ (ps : List F.Piece). a ++ (flat ps ++ 245 ∷ replicate t.parts.pad 246)) t.pieces
    ∙ ap (λ (y : List ℕ). a ++ (y ++ 245 ∷ replicate t.parts.pad 246)) (flat_append t.before t.left) ∙ simp append_assoc refl in
    let n : length (a ++ flat t.before) ≡ at = length-append a (flat t.before) ∙ sym t.place in
    let l = ap length w ∙ length-append (a ++ flat t.before) e in
    record {
      upto = omega arith;
      whole = rw (w, ← n) (drop-append_seam (a ++ flat t.before) e);
      pieces = all_later t.before t.left (subst AllOk t.pieces t.cut.pieces);
    }

-- Behind the first of them.
ahead_next : {s : List ℕ} {at : ℕ} {es : List L.Entry} (t : Ahead s at es) (p : F.Piece) (ps : List F.Piece) → t.left ≡ p ∷ ps → (to : ℕ) → at + length (bytes_of p) ≡ to → Ahead s to (entries to ps)
unfolding flat
ahead_next {at = at} t p ps e to q =
    record {
      parts = t.parts;
      cut = t.cut;
      before = t.before ++ p ∷ [];
      left = ps;
      pieces = t.pieces ∙ ap (λ (x : List F.Piece). t.before ++ x) e ∙ simp append_assoc refl;
      place = let n = ap length (flat_append t.before (p ∷ []) ∙ ap (λ (y : List ℕ). flat t.before ++ y) (append-nil (bytes_of p))) ∙ length-append (flat t.before) (bytes_of p) in omega (arith, t.place);
      are = refl;
    }

-- The walk over commands.

-- From the start on, nothing but commands was passed: the same entries are ahead.
pub record Going (s : List ℕ) (start at : ℕ) : Type 0 where
  pub upto : start ≤ at
  pub some : Between s at
  pub same : (es : List L.Entry) → Ahead s start es → Ahead s at es

pub going_start : (s : List ℕ) (start : ℕ) → Between s start → Going s start start
going_start s start b = record { upto = omega arith; some = b; same = λ es t. t }

-- What each piece gives.
abbrev pub Goes : List ℕ → ℕ → ℕ → Result Piece Refusal → Type 0
Goes s start at (Ok (Packet x)) = StandsAt s at x × ((e : Entry) → IsEntry s at e → IsNext s start (Some (e, x.end)))
Goes s start at (Ok (Command to)) = (at < to) × (to ≤ length s) × Going s start to
Goes s start at (Ok Last) = IsNext s start None
Goes s start at (Err x) = ⊥

-- The bytes of the first piece stand at the place, and it is one that 01 allows.
rest_found : (s : List ℕ) (at : ℕ) (p : F.Piece) (ps : List F.Piece) (pad : ℕ) → Rest s at (p ∷ ps) pad → (r : List ℕ) × (drop at s ≡ bytes_of p ++ r) × F.PieceOk p
unfolding flat
rest_found s at p ps pad t = (flat ps ++ 245 ∷ replicate pad 246, t.whole ∙ append_assoc (bytes_of p) (flat ps) (245 ∷ replicate pad 246), t.pieces.0)

-- The same, of one list of entries.
abbrev Gives : List ℕ → ℕ → List L.Entry → Result Piece Refusal → Type 0
Gives s at es (Ok (Packet x)) = StandsAt s at x × ((e : Entry) → IsEntry s at e → Coming s at es e x.end)
Gives s at es (Ok (Command to)) = (at < to) × (to ≤ length s) × Ahead s to es
Gives s at es (Ok Last) = es ≡ []
Gives s at es (Err x) = ⊥

module _ (s : List ℕ) (at : ℕ) (es : List L.Entry) (t : Ahead s at es) where
  -- A piece in front.
  piece_gives : (p : F.Piece) (ps : List F.Piece) → t.left ≡ p ∷ ps → (n : R.Next s at p ps t.parts.pad) → Gives s at es (piece_of (length s) (ok (piece p n.rest)))
  unfolding piece_of entries
  piece_gives (F.special k xs) ps e n =
      (n.after, omega arith, subst (Ahead s (length s - length n.rest)) (sym (t.are ∙ ap (entries at) e ∙ ap (λ (i : ℕ). entries i ps) n.place)) (ahead_next t (F.special k xs) ps e (length s - length n.rest) n.place))
  piece_gives (F.numeric xs) ps e n =
      (n.after, omega arith, subst (Ahead s (length s - length n.rest)) (sym (t.are ∙ ap (entries at) e ∙ ap (λ (i : ℕ). entries i ps) n.place)) (ahead_next t (F.numeric xs) ps e (length s - length n.rest) n.place))
  piece_gives F.noop ps e n =
      (n.after, omega arith, subst (Ahead s (length s - length n.rest)) (sym (t.are ∙ ap (entries at) e ∙ ap (λ (i : ℕ). entries i ps) n.place)) (ahead_next t F.noop ps e (length s - length n.rest) n.place))
  piece_gives (F.packet p) ps e n = (
    record { packet = p; rest = n.rest; here = n.here; outline = refl },
    λ r i.
        let to = length s - length n.rest in
        let q = i p n.rest n.here in
        let k : r.at ≡ at = ap (λ (y : L.Entry). y.at) q in
        let f = rest_found s at (F.packet p) ps t.parts.pad (subst (λ (x : List F.Piece). Rest s at x t.parts.pad) e (ahead_rest t)) in
        record {
          others = entries to ps;
          next = t.are ∙ ap (entries at) e ∙ ap (λ (j : ℕ). entry_of at p ∷ entries j ps) n.place ∙ ap (λ (y : L.Entry). y ∷ entries to ps) (sym q);
          packet = p;
          rest = f.0;
          stands = rw k f.1;
          allowed = f.2;
          behind = sym (ap (λ (j : ℕ). j + length (bytes_of (F.packet p))) k ∙ n.place);
          further = n.after;
          ahead = ahead_next t (F.packet p) ps e to n.place;
        },
  )

  -- The first piece that is ahead stands at the place; where none is, the 245 does, and nothing is refused.
  gives : Gives s at es (piece_of (length s) (step (drop at s)))
  unfolding piece_of entries
  gives = go t.left refl
    where
      go : (ps : List F.Piece) → t.left ≡ ps → Gives s at es (piece_of (length s) (step (drop at s)))
      go [] e = rw (rest_last s at t.parts.pad (subst (λ (ps : List F.Piece). Rest s at ps t.parts.pad) e (ahead_rest t))) (t.are ∙ ap (entries at) e)
      go (p ∷ ps) e =
          let n = rest_next s at p ps t.parts.pad (subst (λ (x : List F.Piece). Rest s at x t.parts.pad) e (ahead_rest t)) in
          rw n.here (piece_gives p ps e n)

-- Each piece gives what it must.
pub goes : (s : List ℕ) (start at : ℕ) (r : Result Piece Refusal) → Going s start at → r ≡ piece_of (length s) (step (drop at s)) → Goes s start at r
goes s start at r g e = go r (sym e)
  where
    all : (r : Result Piece Refusal) → piece_of (length s) (step (drop at s)) ≡ r → (es : List L.Entry) → Ahead s at es → Gives s at es r
    all r y es t = subst (Gives s at es) y (gives s at es t)

    go : (r : Result Piece Refusal) → piece_of (length s) (step (drop at s)) ≡ r → Goes s start at r
    go (Ok (Packet x)) y = (
      (all (Ok (Packet x)) y g.some.0 g.some.1).0,
      λ d i es t.
          let u = (all (Ok (Packet x)) y es (g.same es t)).1 d i in
          record { others = u.others; next = u.next; packet = u.packet; rest = u.rest; stands = u.stands; allowed = u.allowed; behind = u.behind; further = omega (arith, g.upto, u.further); ahead = u.ahead },
    )
    go (Ok (Command to)) y =
        let u = all (Ok (Command to)) y g.some.0 g.some.1 in (
          u.0,
          u.1,
          record { upto = let k = u.0 in omega (arith, g.upto); some = (g.some.0, u.2); same = λ es t. (all (Ok (Command to)) y es (g.same es t)).2 },
        )
    go (Ok Last) y = λ es t. all (Ok Last) y es (g.same es t)
    go (Err x) y = all (Err x) y g.some.0 g.some.1

-- For who walks on.

-- A packet that comes: the place behind it is further on in the font, and a piece or the ending begins there.
pub comes_on : (s : List ℕ) (at : ℕ) (q : Next) (e : Entry) (to : ℕ) → Between s at → IsNext s at q → q ≡ Some (e, to) → (at < to) × (to ≤ length s) × Between s to
comes_on s at q e to (es, t) n z =
    let u = subst (Comes s at es) z (n es t) in
    (u.further, (ahead_rest u.ahead).upto, (u.others, u.ahead))

-- The place behind the preamble is such a place.
pub starts_on : (s : List ℕ) (q : Listed) (h : Heading) (first : ℕ) → Starts s q → q ≡ Ok (h, first) → Between s first
starts_on s q h first t z = (subst (Starts s) z t).0
