-- No code stands twice: as the verdict collects the codes seen, and as the cut says it. Assumes nothing.
use Prim.Native.Nat.{ℕ, ◌+◌}
use mathlib.Core.Path.{◌≡◌, refl, ap, ◌∙◌}
use mathlib.Core.List.{List, [], ◌∷◌}
use mathlib.Core.Bool.{Bool, true, false, ◌||◌}
use mathlib.Core.Logic.{◌↔◌}
use native.Mathlib.Omega.{arith}
use lib.Dec.{eqb}
use lib.ListN.{length}
use Rattle.format.specs.Lists.{elem}
use Rattle.format.specs.Pieces.{Packet}
use Rattle.format.specs.Cut.{codes, Distinct}
use Rattle.format.proofs.Tests.{or_false, eqb_sym}

-- No packet repeats a code that was seen, also in the packets before it.
abbrev pub Fresh : List ℕ → List Packet → Type 0
Fresh seen [] = Unit {0}
Fresh seen (p ∷ ps) = (elem p.code seen ≡ false) × Fresh (p.code ∷ seen) ps

-- The codes seen after packets.
abbrev pub seen_after : List Packet → List ℕ → List ℕ
seen_after [] seen = seen
seen_after (p ∷ ps) seen = seen_after ps (p.code ∷ seen)

abbrev Apart : List ℕ → List ℕ → Type 0
Apart seen [] = Unit {0}
Apart seen (c ∷ cs) = (elem c seen ≡ false) × Apart seen cs

apart_split : (c : ℕ) (seen cs : List ℕ) → Apart (c ∷ seen) cs → (elem c cs ≡ false) × Apart seen cs
unfolding elem
apart_split c seen [] a = (refl, tt)
apart_split c seen (d ∷ cs) a =
    let x = or_false (eqb d c) (elem d seen) a.0 in
    let y = apart_split c seen cs a.1 in
    (rw (eqb_sym d c x.0) y.0, (x.1, y.1))

apart_join : (c : ℕ) (seen cs : List ℕ) → elem c cs ≡ false → Apart seen cs → Apart (c ∷ seen) cs
unfolding elem
apart_join c seen [] e a = tt
apart_join c seen (d ∷ cs) e a =
    let x = or_false (eqb c d) (elem c cs) e in
    (rw (eqb_sym c d x.0) a.0, apart_join c seen cs x.1 a.1)

apart_nil : (cs : List ℕ) → Apart [] cs
unfolding elem
apart_nil [] = tt
apart_nil (c ∷ cs) = (refl, apart_nil cs)

fresh_both : (ps : List Packet) (seen : List ℕ) → Fresh seen ps → Distinct (codes ps) × Apart seen (codes ps)
unfolding codes
fresh_both [] seen f = (tt, tt)
fresh_both (p ∷ ps) seen f =
    let i = fresh_both ps (p.code ∷ seen) f.1 in
    let x = apart_split p.code seen (codes ps) i.1 in
    ((x.0, i.0), (f.0, x.1))

both_fresh : (ps : List Packet) (seen : List ℕ) → Distinct (codes ps) → Apart seen (codes ps) → Fresh seen ps
unfolding codes
both_fresh [] seen d a = tt
both_fresh (p ∷ ps) seen d a = (a.0, both_fresh ps (p.code ∷ seen) d.1 (apart_join p.code seen (codes ps) d.0 a.1))

pub fresh_distinct : (ps : List Packet) → Fresh [] ps → Distinct (codes ps)
fresh_distinct ps f = (fresh_both ps [] f).0

pub distinct_fresh : (ps : List Packet) → Distinct (codes ps) → Fresh [] ps
distinct_fresh ps d = both_fresh ps [] d (apart_nil (codes ps))

pub length_seen : (ps : List Packet) (seen : List ℕ) → length (seen_after ps seen) ≡ length ps + length seen
length_seen [] seen = omega arith
length_seen (p ∷ ps) seen = omega (arith, length_seen ps (p.code ∷ seen))

or_swap : (a b c : Bool) → (a || b) || c ≡ b || (a || c)
or_swap true true c = refl
or_swap true false c = refl
or_swap false b c = refl

-- The codes seen are those of the packets, in whatever order,
elem_after : (c : ℕ) (ps : List Packet) (seen : List ℕ) → elem c (seen_after ps seen) ≡ elem c seen || elem c (codes ps)
unfolding codes elem
elem_after c [] seen = or_none (elem c seen)
  where
    or_none : (b : Bool) → b ≡ b || false
    or_none true = refl
    or_none false = refl
elem_after c (p ∷ ps) seen = elem_after c ps (p.code ∷ seen) ∙ or_swap (eqb c p.code) (elem c seen) (elem c (codes ps))

pub elem_seen : (c : ℕ) (ps : List Packet) → elem c (seen_after ps []) ≡ elem c (codes ps)
unfolding elem
elem_seen c ps = elem_after c ps []

-- and none are seen just if there are none.
pub none_seen : (ps : List Packet) → (seen_after ps [] ≡ []) ↔ (codes ps ≡ [])
unfolding codes
none_seen [] = (λ e. e, λ e. e)
none_seen (p ∷ ps) = (
  (λ e. absurd (omega (arith, ap length e, length_seen ps (p.code ∷ [])))),
  (λ e. absurd (omega (arith, ap length e))),
)
