-- What is listed is read off the cut: the heading is given exactly if the font has a cut, each packet has one entry, at the place where its flag stands. Assumes nothing.
use Prim.Native.Nat.{ℕ, suc, ◌+◌}
use mathlib.Core.Path.{◌≡◌, refl, sym, ap, ◌∙◌}
use mathlib.Core.Logic.{◌↔◌}
use mathlib.Core.List.{List, [], ◌∷◌, ◌++◌, append_assoc}
use native.Mathlib.Omega.{arith}
use native.Mathlib.Nat.{add-zero, add_assoc}
use lib.ListN.{length, drop, replicate, length-append}
use lib.Seq.{drop-append_seam}
use Rattle.format.specs.Refusals.{Refusal, Answer, gives, refused, answers}
use Rattle.format.specs.Numbers.{Bytes}
use Rattle.format.specs.Pieces.{preamble_bytes, Packet, Piece, special, numeric, noop, packet, bytes_of}
use Rattle.format.specs.Cut.{flat, packets, Parts, chars, join, Cut}
use Rattle.format.specs.Verdict.{verdict, check}
use Rattle.format.specs.Listing.{Heading, heading_of, Entry, entry_of, entries, entries_of, heading_answer}
use Rattle.format.proofs.OnwardLaws.{answers_gives}
use Rattle.format.proofs.CutTheorems.{accepts}

-- The heading is that of the font's cut.
pub heading_exactly : (s : List ℕ) (h : Heading) → Bytes s → (heading_answer s ≡ gives h) ↔ ((x : Parts) × Cut s x × (heading_of s x ≡ h))
unfolding heading_answer answers
heading_exactly s h b = (
  (λ e. let t = answers_gives (heading_of s) (verdict s) h e in (t.0, (accepts s t.0 b).0 t.1, t.2)),
  (λ t. rw ((accepts s t.0 b).1 t.1) (ap gives t.2)),
)

-- A font that is refused is refused as it is checked.
pub heading_refused : (s : List ℕ) (x : Refusal) (place : ℕ) → (heading_answer s ≡ refused x place) ↔ (check s ≡ refused x place)
unfolding heading_answer check answers
heading_refused s x place = (there (verdict s), back (verdict s))
  where
    there : (v : Answer Parts) → answers (heading_of s) v ≡ refused x place → answers chars v ≡ refused x place
    there (gives y) e = absurd (let z : ◌≡◌ {A = ℕ} 0 1 = cc in omega arith)
    there (refused y at) e = let z : y ≡ x = cc in let i : at ≡ place = cc in rw (z, i) refl

    back : (v : Answer Parts) → answers chars v ≡ refused x place → answers (heading_of s) v ≡ refused x place
    back (gives y) e = absurd (let z : ◌≡◌ {A = ℕ} 0 1 = cc in omega arith)
    back (refused y at) e = let z : y ≡ x = cc in let i : at ≡ place = cc in rw (z, i) refl

-- As many entries as packets.
length-entries : (at : ℕ) (ps : List Piece) → length (entries at ps) ≡ length (packets ps)
unfolding entries packets
length-entries at [] = refl
length-entries at (special k xs ∷ ps) = length-entries (at + length (bytes_of (special k xs))) ps
length-entries at (numeric xs ∷ ps) = length-entries (at + length (bytes_of (numeric xs))) ps
length-entries at (noop ∷ ps) = length-entries (at + length (bytes_of noop)) ps
length-entries at (packet p ∷ ps) = ap suc (length-entries (at + length (bytes_of (packet p))) ps)

pub entries_chars : (x : Parts) → length (entries_of x) ≡ chars x
entries_chars x = length-entries (length (preamble_bytes x.preamble)) x.pieces

-- The entries of pieces in two parts.
entries-append : (at : ℕ) (ps qs : List Piece) → entries at (ps ++ qs) ≡ entries at ps ++ entries (at + length (flat ps)) qs
unfolding entries flat
entries-append at [] qs = rw (add-zero at) refl
entries-append at (special k xs ∷ ps) qs = entries-append (at + length (bytes_of (special k xs))) ps qs ∙ rw (length-append (bytes_of (special k xs)) (flat ps), add_assoc at (length (bytes_of (special k xs))) (length (flat ps))) refl
entries-append at (numeric xs ∷ ps) qs = entries-append (at + length (bytes_of (numeric xs))) ps qs ∙ rw (length-append (bytes_of (numeric xs)) (flat ps), add_assoc at (length (bytes_of (numeric xs))) (length (flat ps))) refl
entries-append at (noop ∷ ps) qs = entries-append (at + length (bytes_of noop)) ps qs ∙ rw (length-append (bytes_of noop) (flat ps), add_assoc at (length (bytes_of noop)) (length (flat ps))) refl
entries-append at (packet p ∷ ps) qs =
    ap (λ (y : List Entry). entry_of at p ∷ y) (entries-append (at + length (bytes_of (packet p))) ps qs ∙ rw (length-append (bytes_of (packet p)) (flat ps), add_assoc at (length (bytes_of (packet p))) (length (flat ps))) refl)

pub flat_append : (ps qs : List Piece) → flat (ps ++ qs) ≡ flat ps ++ flat qs
unfolding flat
flat_append [] qs = refl
flat_append (p ∷ ps) qs = rw (flat_append ps qs, append_assoc (bytes_of p) (flat ps) (flat qs)) refl

-- The bytes up to a packet, its own, and the rest.
parted : (a : List ℕ) (before : List Piece) (p : Packet) (behind : List Piece) (end : List ℕ) → a ++ (flat (before ++ packet p ∷ behind) ++ end) ≡ (a ++ flat before) ++ (bytes_of (packet p) ++ (flat behind ++ end))
unfolding flat
parted a before p behind end = rw (flat_append before (packet p ∷ behind)) (simp append_assoc refl)

-- Each packet p of a font is listed, behind those before it, at the place where its bytes stand.
pub packet_listed : (s : List ℕ) (x : Parts) → Cut s x → (before behind : List Piece) (p : Packet) → x.pieces ≡ before ++ packet p ∷ behind
    → (at : ℕ) → at ≡ length (preamble_bytes x.preamble) + length (flat before)
    → (entries_of x ≡ entries (length (preamble_bytes x.preamble)) before ++ entry_of at p ∷ entries (at + length (bytes_of (packet p))) behind)
    × ((rest : List ℕ) × (drop at s ≡ bytes_of (packet p) ++ rest))
unfolding join entries
packet_listed s x c before behind p e at q =
    let a = preamble_bytes x.preamble in
    let end : List ℕ = 245 ∷ replicate x.pad 246 in
    let rest = flat behind ++ end in
    let w : s ≡ (a ++ flat before) ++ (bytes_of (packet p) ++ rest) = c.whole ∙ ap (λ (ps : List Piece). a ++ (flat ps ++ end)) e ∙ parted a before p behind end in
    let n : length (a ++ flat before) ≡ at = length-append a (flat before) ∙ sym q in
    (ap (entries (length a)) e ∙ entries-append (length a) before (packet p ∷ behind) ∙ rw (← q) refl, (rest, rw (w, ← n) (drop-append_seam (a ++ flat before) (bytes_of (packet p) ++ rest))))
