-- Pieces stand in any order (01 asks for none, of codes neither): a font with its pieces in another order is accepted still, with as many
-- characters and the same drawings. Assumes nothing.
use Prim.Native.Nat.{ℕ}
use mathlib.Core.Path.{◌≡◌, refl, sym, ap, ◌∙◌}
use mathlib.Core.List.{List, [], ◌∷◌, ◌++◌}
use mathlib.Core.Bool.{Bool, true, false, ◌||◌}
use native.Mathlib.Omega.{arith}
use lib.Dec.{eqb}
use lib.ListN.{length, replicate, length-append}
use borrow.Author.Tests.{eqb-true}
use Rattle.format.specs.Lists.{elem}
use Rattle.format.specs.Refusals.{gives, answers}
use Rattle.format.specs.Numbers.{Bytes}
use Rattle.format.specs.Pieces.{Packet, Piece, special, numeric, noop, packet, bytes_of, preamble_bytes}
use Rattle.format.specs.Cut.{flat, AllOk, packets, AllFilled, codes, Distinct, Parts, join, Cut}
use Rattle.format.specs.Verdict.{verdict, check}
use Rattle.format.specs.Drawing.{find, draw_from, draw}
use Rattle.format.proofs.Tests.{test, or_false, eqb_sym}
use Rattle.format.proofs.OnwardLaws.{bytes_left, bytes_right}
use Rattle.format.proofs.CutTheorems.{cut_verdict}
use Rattle.format.proofs.CommandLaws.{command_anywhere}

-- The same in another order: neighbours are exchanged, again and again.
pub data Reordered {A : Type 0} : List A → List A → Type 0 where
  alike : {xs : List A} → Reordered xs xs
  keeps : {xs ys : List A} (x : A) → Reordered xs ys → Reordered (x ∷ xs) (x ∷ ys)
  exchange : {xs : List A} (x y : A) → Reordered (x ∷ y ∷ xs) (y ∷ x ∷ xs)
  again : {xs ys zs : List A} → Reordered xs ys → Reordered ys zs → Reordered xs zs

-- The pieces.

ok_reordered : {ps qs : List Piece} → Reordered ps qs → AllOk ps → AllOk qs
ok_reordered alike a = a
ok_reordered (keeps p o) a = (a.0, ok_reordered o a.1)
ok_reordered (exchange p q) a = (a.1.0, (a.0, a.1.1))
ok_reordered (again o u) a = ok_reordered u (ok_reordered o a)

length_reordered : {ps qs : List Piece} → Reordered ps qs → length (flat ps) ≡ length (flat qs)
unfolding flat
length_reordered alike = refl
length_reordered (keeps {xs = ps} {ys = qs} p o) = omega (arith, length-append (bytes_of p) (flat ps), length-append (bytes_of p) (flat qs), length_reordered o)
length_reordered (exchange {xs = ps} p q) =
    omega (
      arith,
      length-append (bytes_of p) (bytes_of q ++ flat ps),
      length-append (bytes_of q) (bytes_of p ++ flat ps),
      length-append (bytes_of p) (flat ps),
      length-append (bytes_of q) (flat ps),
    )
length_reordered (again o u) = length_reordered o ∙ length_reordered u

bytes_both : (xs ys : List ℕ) → Bytes xs → Bytes ys → Bytes (xs ++ ys)
bytes_both [] ys h k = k
bytes_both (x ∷ xs) ys h k = (h.0, bytes_both xs ys h.1 k)

bytes_reordered : {ps qs : List Piece} → Reordered ps qs → Bytes (flat ps) → Bytes (flat qs)
unfolding flat
bytes_reordered alike h = h
bytes_reordered (keeps {xs = ps} {ys = qs} p o) h =
    bytes_both (bytes_of p) (flat qs) (bytes_left (bytes_of p) (flat ps) h) (bytes_reordered o (bytes_right (bytes_of p) (flat ps) h))
bytes_reordered (exchange {xs = ps} p q) h =
    let a = bytes_left (bytes_of p) (bytes_of q ++ flat ps) h in
    let b = bytes_right (bytes_of p) (bytes_of q ++ flat ps) h in
    bytes_both (bytes_of q) (bytes_of p ++ flat ps) (bytes_left (bytes_of q) (flat ps) b) (bytes_both (bytes_of p) (flat ps) a (bytes_right (bytes_of q) (flat ps) b))
bytes_reordered (again o u) h = bytes_reordered u (bytes_reordered o h)

-- Their packets.

packets_behind : (p : Piece) (ps qs : List Piece) → Reordered (packets ps) (packets qs) → Reordered (packets (p ∷ ps)) (packets (p ∷ qs))
unfolding packets
packets_behind (special k xs) ps qs o = o
packets_behind (numeric xs) ps qs o = o
packets_behind noop ps qs o = o
packets_behind (packet p) ps qs o = keeps p o

packets_exchange : (p q : Piece) (ps : List Piece) → Reordered (packets (p ∷ q ∷ ps)) (packets (q ∷ p ∷ ps))
unfolding packets
packets_exchange (special k xs) q ps = rw (command_anywhere (special k xs) tt (q ∷ []) ps) alike
packets_exchange (numeric xs) q ps = rw (command_anywhere (numeric xs) tt (q ∷ []) ps) alike
packets_exchange noop q ps = rw (command_anywhere noop tt (q ∷ []) ps) alike
packets_exchange (packet p) (special k xs) ps = alike
packets_exchange (packet p) (numeric xs) ps = alike
packets_exchange (packet p) noop ps = alike
packets_exchange (packet p) (packet q) ps = exchange p q

packets_reordered : {ps qs : List Piece} → Reordered ps qs → Reordered (packets ps) (packets qs)
packets_reordered alike = alike
packets_reordered (keeps {xs = ps} {ys = qs} p o) = packets_behind p ps qs (packets_reordered o)
packets_reordered (exchange {xs = ps} p q) = packets_exchange p q ps
packets_reordered (again o u) = again (packets_reordered o) (packets_reordered u)

filled_reordered : {ps qs : List Packet} → Reordered ps qs → AllFilled ps → AllFilled qs
filled_reordered alike a = a
filled_reordered (keeps p o) a = (a.0, filled_reordered o a.1)
filled_reordered (exchange p q) a = (a.1.0, (a.0, a.1.1))
filled_reordered (again o u) a = filled_reordered u (filled_reordered o a)

count_reordered : {ps qs : List Packet} → Reordered ps qs → length ps ≡ length qs
count_reordered alike = refl
count_reordered (keeps p o) = omega (arith, count_reordered o)
count_reordered (exchange p q) = refl
count_reordered (again o u) = count_reordered o ∙ count_reordered u

or_exchange : (a b c : Bool) → a || (b || c) ≡ b || (a || c)
or_exchange true true c = refl
or_exchange true false c = refl
or_exchange false b c = refl

elem_reordered : (c : ℕ) {ps qs : List Packet} → Reordered ps qs → elem c (codes ps) ≡ elem c (codes qs)
unfolding elem codes
elem_reordered c alike = refl
elem_reordered c (keeps p o) = rw (elem_reordered c o) refl
elem_reordered c (exchange {xs = ps} p q) = or_exchange (eqb c p.code) (eqb c q.code) (elem c (codes ps))
elem_reordered c (again o u) = elem_reordered c o ∙ elem_reordered c u

distinct_reordered : {ps qs : List Packet} → Reordered ps qs → Distinct (codes ps) → Distinct (codes qs)
unfolding elem codes
distinct_reordered alike d = d
distinct_reordered (keeps p o) d = (sym (elem_reordered p.code o) ∙ d.0, distinct_reordered o d.1)
distinct_reordered (exchange {xs = ps} p q) d =
    let a = or_false (eqb p.code q.code) (elem p.code (codes ps)) d.0 in
    (rw (eqb_sym p.code q.code a.0) d.1.0, (a.1, d.1.1))
distinct_reordered (again o u) d = distinct_reordered u (distinct_reordered o d)

-- Where no code stands twice, the same packet is found.
find_reordered : (c : ℕ) {ps qs : List Packet} → Reordered ps qs → Distinct (codes ps) → find c ps ≡ find c qs
unfolding find elem codes
find_reordered c alike d = refl
find_reordered c (keeps p o) d = rw (find_reordered c o d.1) refl
find_reordered c (exchange {xs = ps} p q) d =
    let a = or_false (eqb p.code q.code) (elem p.code (codes ps)) d.0 in
    test (eqb c p.code) (λ t. let n : eqb c q.code ≡ false = rw (eqb-true c p.code t) a.0 in rw (t, n) refl) (λ t. rw t refl)
find_reordered c (again o u) d = find_reordered c o d ∙ find_reordered c u (distinct_reordered o d)

-- The font.

-- The same parts with other pieces.
abbrev pub with_pieces : Parts → List Piece → Parts
with_pieces x qs = record { preamble = x.preamble; pieces = qs; pad = x.pad }

module _ (x : Parts) (qs : List Piece) (o : Reordered x.pieces qs) where
  length-join : length (join (with_pieces x qs)) ≡ length (join x)
  unfolding join
  length-join =
      let a = preamble_bytes x.preamble in
      let e : List ℕ = 245 ∷ replicate x.pad 246 in
      omega (
        arith,
        length-append a (flat qs ++ e),
        length-append a (flat x.pieces ++ e),
        length-append (flat qs) e,
        length-append (flat x.pieces) e,
        length_reordered o,
      )

  bytes-join : Bytes (join x) → Bytes (join (with_pieces x qs))
  unfolding join
  bytes-join h =
      let a = preamble_bytes x.preamble in
      let e : List ℕ = 245 ∷ replicate x.pad 246 in
      let b = bytes_right a (flat x.pieces ++ e) h in
      bytes_both a (flat qs ++ e) (bytes_left a (flat x.pieces ++ e) h)
      (bytes_both (flat qs) e (bytes_reordered o (bytes_left (flat x.pieces) e b)) (bytes_right (flat x.pieces) e b))

  -- With its pieces in another order a font is accepted still,
  pub reordered_accepted : Cut (join x) x → verdict (join (with_pieces x qs)) ≡ gives (with_pieces x qs)
  reordered_accepted k =
      let u = packets_reordered o in
      cut_verdict (join (with_pieces x qs)) (with_pieces x qs)
      (record {
        bytes = bytes-join k.bytes;
        whole = refl;
        small = rw length-join k.small;
        four = rw length-join k.four;
        preamble = k.preamble;
        pieces = ok_reordered o k.pieces;
        filled = filled_reordered u k.filled;
        distinct = distinct_reordered u k.distinct;
        any = rw (← count_reordered u) k.any;
      })

  -- with as many characters
  pub reordered_count : Cut (join x) x → check (join (with_pieces x qs)) ≡ check (join x)
  unfolding check answers
  reordered_count k = rw (reordered_accepted k, cut_verdict (join x) x k) (ap gives (sym (count_reordered (packets_reordered o))))

  -- and the same drawings.
  pub reordered_drawings : Cut (join x) x → (code room : ℕ) → draw (join (with_pieces x qs)) code room ≡ draw (join x) code room
  unfolding draw draw_from
  reordered_drawings k code room =
      rw (reordered_accepted k, cut_verdict (join x) x k, find_reordered code (packets_reordered o) k.distinct) refl
