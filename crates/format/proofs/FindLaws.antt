-- The packet of a code is found wherever it stands, and no other: packets stand in any order. Assumes nothing.
use Prim.Native.Nat.{ℕ}
use mathlib.Core.Path.{◌≡◌, refl, ap, ◌∙◌}
use mathlib.Core.List.{List, [], ◌∷◌, ◌++◌}
use mathlib.Core.Bool.{false}
use lib.Dec.{eqb}
use borrow.Author.Tests.{eqb-true, eq-eqb}
use Rattle.format.specs.Lists.{elem}
use Rattle.format.specs.Refusals.{ok}
use Rattle.format.specs.Pieces.{Packet}
use Rattle.format.specs.Cut.{codes, Distinct}
use Rattle.format.specs.Drawing.{find}
use Rattle.format.proofs.Tests.{test, or_false, eqb_sym}
use Rattle.format.proofs.ItemLaws.{fault≢}

-- The code of a packet further on is not the first one's.
later : (c : ℕ) (ps qs : List Packet) (p : Packet) → elem c (codes (ps ++ p ∷ qs)) ≡ false → eqb c p.code ≡ false
unfolding elem codes
later c [] qs p e = (or_false (eqb c p.code) (elem c (codes qs)) e).0
later c (q ∷ ps) qs p e = later c ps qs p (or_false (eqb c q.code) (elem c (codes (ps ++ p ∷ qs))) e).1

-- Where no code stands twice, each packet is found by its code, whatever stands before and behind it.
pub found_anywhere : (ps qs : List Packet) (p : Packet) → Distinct (codes (ps ++ p ∷ qs)) → find p.code (ps ++ p ∷ qs) ≡ ok p
unfolding find codes
found_anywhere [] qs p d = rw (eq-eqb p.code p.code refl) refl
found_anywhere (q ∷ ps) qs p d =
    rw (eqb_sym q.code p.code (later q.code ps qs p d.0)) (found_anywhere ps qs p d.1)

-- The packet that is found is one of them, and has the code.
pub record Among (code : ℕ) (all : List Packet) (p : Packet) : Type 0 where
  pub before : List Packet
  pub behind : List Packet
  pub whole : all ≡ before ++ p ∷ behind
  pub has : code ≡ p.code

pub found_among_lem : (code : ℕ) (ps : List Packet) (p : Packet) → find code ps ≡ ok p → Among code ps p
unfolding find
found_among_lem code [] p e = absurd (fault≢ e)
found_among_lem code (q ∷ ps) p e =
    test (eqb code q.code)
    (λ t. let z : ok q ≡ ok p = rw t at e in
    let y : q ≡ p = cc in
    record { before = []; behind = ps; whole = ap (λ (x : Packet). x ∷ ps) y; has = eqb-true code q.code t ∙ ap (λ (x : Packet). x.code) y })
    (λ t. let r = found_among_lem code ps p (rw t at e) in
    record { before = q ∷ r.before; behind = r.behind; whole = ap (λ (x : List Packet). q ∷ x) r.whole; has = r.has })
