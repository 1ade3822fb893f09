-- The pieces of a cut that stand from a place of a font on: the first of them is what stands at the place, and the others stand behind it.
-- Assumes nothing.
use Prim.Native.Nat.{ℕ, ◌+◌, ◌-◌, ◌≤◌, ◌<◌}
use mathlib.Core.Path.{◌≡◌, refl, sym, ap, ◌∙◌, subst}
use mathlib.Core.List.{List, [], ◌∷◌, ◌++◌, append_assoc}
use native.Mathlib.Omega.{arith}
use lib.ListN.{length, drop, get_or, replicate, length-append, length-drop}
use lib.Seq.{drop-drop, drop-append_seam}
use Rattle.format.specs.Refusals.{ok}
use Rattle.format.specs.Pieces.{preamble_bytes, Piece, bytes_of}
use Rattle.format.specs.Cut.{flat, AllOk, Parts, join, Cut}
use Rattle.format.specs.Verdict.{piece, last, step}
use Rattle.format.proofs.PieceLaws.{step_piece}
use Rattle.format.proofs.ShorterLaws.{Less, less_rest, step_less}
use Rattle.format.proofs.CutTheorems.{preamble_length}

-- From a place of the font s on stand these pieces and the ending.
pub record Rest (s : List ℕ) (at : ℕ) (ps : List Piece) (pad : ℕ) : Type 0 where
  pub upto : at ≤ length s
  pub whole : drop at s ≡ flat ps ++ 245 ∷ replicate pad 246
  pub pieces : AllOk ps

-- The first pieces.

-- All of them stand behind the preamble.
pub rest_start : (s : List ℕ) (x : Parts) → Cut s x → Rest s (length (preamble_bytes x.preamble)) x.pieces x.pad
unfolding join
rest_start s x c =
    let a = preamble_bytes x.preamble in
    let t = flat x.pieces ++ 245 ∷ replicate x.pad 246 in
    let l = ap length c.whole ∙ length-append a t in
    record { upto = omega arith; whole = rw c.whole (drop-append_seam a t); pieces = c.pieces }

-- The third byte of the font says how long the preamble is.
pub preamble_third : (s : List ℕ) (x : Parts) → Cut s x → (2 < length s) × (get_or s 2 0 + 19 ≡ length (preamble_bytes x.preamble))
unfolding join preamble_bytes
preamble_third s x c = rw c.whole (omega arith, sym (preamble_length x.preamble))

-- A piece.

-- At a place a piece is found, and the others stand behind it.
pub record Next (s : List ℕ) (at : ℕ) (p : Piece) (ps : List Piece) (pad : ℕ) : Type 0 where
  pub rest : List ℕ
  pub here : step (drop at s) ≡ ok (piece p rest)
  pub place : at + length (bytes_of p) ≡ length s - length rest
  pub after : at < length s - length rest
  pub others : Rest s (length s - length rest) ps pad

pub rest_next : (s : List ℕ) (at : ℕ) (p : Piece) (ps : List Piece) (pad : ℕ) → Rest s at (p ∷ ps) pad → Next s at p ps pad
unfolding flat
rest_next s at p ps pad t =
    let r = flat ps ++ 245 ∷ replicate pad 246 in
    let w : drop at s ≡ bytes_of p ++ r = t.whole ∙ append_assoc (bytes_of p) (flat ps) (245 ∷ replicate pad 246) in
    let e : step (drop at s) ≡ ok (piece p r) = ap step w ∙ step_piece p r t.pieces.0 in
    let m : length r < length (drop at s) = less_rest (subst (Less (drop at s)) e (step_less (drop at s))) in
    let k = ap length w ∙ length-append (bytes_of p) r in
    let l = length-drop at s in
    let u = t.upto in
    let j : length s - length r ≡ at + length (bytes_of p) = omega arith in
    record {
      rest = r;
      here = e;
      place = sym j;
      after = omega arith;
      others = record {
        upto = omega arith;
        whole = rw (j, ← drop-drop (length (bytes_of p)) at s, w) (drop-append_seam (bytes_of p) r);
        pieces = t.pieces.1;
      };
    }

-- The ending.

-- Where no piece is left the 245 stands.
pub rest_last : (s : List ℕ) (at pad : ℕ) → Rest s at [] pad → step (drop at s) ≡ ok (last (replicate pad 246))
unfolding flat step
rest_last s at pad t = rw t.whole refl
