-- No font has two cuts: the preamble, the pieces and the ending are determined by the bytes. Assumes nothing.
use Prim.Native.Nat.{ℕ}
use mathlib.Core.Path.{◌≡◌, refl, sym, ap, ◌∙◌}
use mathlib.Core.List.{List, [], ◌∷◌, ◌++◌, append_assoc}
use native.Mathlib.Omega.{arith}
use lib.ListN.{length, take, drop, length-replicate}
use lib.Seq.{take-append_seam, drop-append_seam, drop_at}
use Rattle.format.specs.Numbers.{field_bytes}
use Rattle.format.specs.Decoding.{read_fields}
use Rattle.format.specs.Pieces.{Preamble, preamble_kinds, preamble_values, preamble_bytes, PreambleOk, Piece, bytes_of}
use Rattle.format.specs.Cut.{flat, AllOk, Parts, join, Cut}
use Rattle.format.specs.Refusals.{ok}
use Rattle.format.specs.Verdict.{piece, last, step, preamble_of}
use Rattle.format.proofs.FieldLaws.{length_fields, read_fields_lem}
use Rattle.format.proofs.PieceLaws.{step_piece}

-- From the bytes of pieces and an ending the pieces are found again, and what follows the 245.
pub one_list : (ps qs : List Piece) (r t : List ℕ) → AllOk ps → AllOk qs → flat ps ++ 245 ∷ r ≡ flat qs ++ 245 ∷ t → (ps ≡ qs) × (r ≡ t)
unfolding flat step
one_list [] [] r t a b e = (refl, cc)
one_list [] (q ∷ qs) r t a b e =
    let x : ok (last r) ≡ ok (piece q (flat qs ++ 245 ∷ t)) = ap step (e ∙ append_assoc (bytes_of q) (flat qs) (245 ∷ t)) ∙ step_piece q (flat qs ++ 245 ∷ t) b.0 in
    absurd (let z : ◌≡◌ {A = ℕ} 0 1 = cc in omega arith)
one_list (p ∷ ps) [] r t a b e =
    let x : ok (piece p (flat ps ++ 245 ∷ r)) ≡ ok (last t) = sym (step_piece p (flat ps ++ 245 ∷ r) a.0) ∙ ap step (sym (append_assoc (bytes_of p) (flat ps) (245 ∷ r)) ∙ e) in
    absurd (let z : ◌≡◌ {A = ℕ} 0 1 = cc in omega arith)
one_list (p ∷ ps) (q ∷ qs) r t a b e =
    let x : ok (piece p (flat ps ++ 245 ∷ r)) ≡ ok (piece q (flat qs ++ 245 ∷ t)) =
    sym (step_piece p (flat ps ++ 245 ∷ r) a.0)
    ∙ ap step (sym (append_assoc (bytes_of p) (flat ps) (245 ∷ r)) ∙ e ∙ append_assoc (bytes_of q) (flat qs) (245 ∷ t))
    ∙ step_piece q (flat qs ++ 245 ∷ t) b.0 in
    let i = one_list ps qs r t a.1 b.1 (cc) in
    (cc, i.1)

-- The preamble at the front of the bytes, and what follows it.
front : List ℕ → Preamble × List ℕ
front [] = (preamble_of [] (read_fields preamble_kinds []), [])
front (a ∷ []) = (preamble_of [] (read_fields preamble_kinds []), [])
front (a ∷ b ∷ []) = (preamble_of [] (read_fields preamble_kinds []), [])
front (a ∷ b ∷ k ∷ s) = (preamble_of (take k s) (read_fields preamble_kinds (drop k s)), drop 16 (drop k s))

preamble_front : (a : Preamble) (t : List ℕ) → PreambleOk a → front (preamble_bytes a ++ t) ≡ (a, t)
unfolding front preamble_bytes
preamble_front a t o =
    let x = a.comment in
    let b = field_bytes preamble_kinds (preamble_values a) in
    rw (
      append_assoc x b t,
      take-append_seam x (b ++ t),
      drop-append_seam x (b ++ t),
      read_fields_lem preamble_kinds (preamble_values a) t o.fields,
      drop_at b t 16 (length_fields preamble_kinds (preamble_values a)),
    )

pub one_preamble : (a c : Preamble) (s t : List ℕ) → PreambleOk a → PreambleOk c → preamble_bytes a ++ s ≡ preamble_bytes c ++ t → (a ≡ c) × (s ≡ t)
one_preamble a c s t p q e =
    let x : ◌≡◌ {A = Preamble × List ℕ} (a, s) (c, t) = sym (preamble_front a s p) ∙ ap front e ∙ preamble_front c t q in
    (ap (λ (y : Preamble × List ℕ). y.0) x, ap (λ (y : Preamble × List ℕ). y.1) x)

-- No font has two cuts.
pub one_cut : (s : List ℕ) (x y : Parts) → Cut s x → Cut s y → x ≡ y
unfolding join
one_cut s x y c d =
    let a = one_preamble x.preamble y.preamble _ _ c.preamble d.preamble (sym c.whole ∙ d.whole) in
    let b = one_list x.pieces y.pieces _ _ c.pieces d.pieces a.1 in
    let n : x.pad ≡ y.pad = sym (length-replicate {A = ℕ} x.pad 246) ∙ ap length b.1 ∙ length-replicate {A = ℕ} y.pad 246 in
    same x.preamble y.preamble x.pieces y.pieces x.pad y.pad a.0 b.0 n
  where
    same : (a c : Preamble) (ps qs : List Piece) (m n : ℕ) → a ≡ c → ps ≡ qs → m ≡ n
        → ◌≡◌ {A = Parts} (record { preamble = a; pieces = ps; pad = m }) (record { preamble = c; pieces = qs; pad = n })
    same a c ps qs m n p q r = rw (p, q, r)
