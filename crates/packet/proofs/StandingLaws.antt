-- Laws of a packet that stands in a font: its outline is within the font, and its raster bytes are where the outline says. Assumes nothing.
use Prim.Native.Nat.{ℕ, ◌+◌, ◌-◌, ◌≤◌, ◌<◌}
use mathlib.Core.Path.{◌≡◌, refl, sym, ap, ◌∙◌, subst}
use mathlib.Core.List.{List, ◌∷◌, ◌++◌, append_assoc}
use native.Mathlib.Omega.{arith}
use mir.Syntax.{w8}
use mir.Val.{Fits}
use lib.ListN.{length, take, drop, get_or, length-append, take-append-drop}
use lib.Seq.{drop-append_seam, take-append_seam}
use borrow.Author.Tests.{ltb-true}
use Rattle.format.specs.Limits.{is_code}
use Rattle.format.specs.Numbers.{Bytes, field_bytes}
use Rattle.format.specs.Pieces as F
use Rattle.format.specs.Pieces.{kinds, fields, flag, bytes_of}
use Rattle.format.proofs.FieldLaws.{bytes_of_lem, bytes_drop}
use Rattle.format.proofs.PieceLaws as L
use Rattle.format.proofs.PieceLaws.{Is, step_is}
use Rattle.packet.specs.Outlines.{outline_of}
use Rattle.packet.specs.Standing.{StandsAt, InFont, raster_of}
use Rattle.packet.specs.declared.Outline.{Outline}

-- What the type of a slice says of it: its numbers are bytes.
pub bytes_fit : (s : List ℕ) → ((i : ℕ) → Fits w8 (get_or s i 0)) → Bytes s
bytes_fit s h = bytes_of_lem s (λ i. omega (arith, h i))

-- A packet that 01 allows has a code below 256.
pub code_small : (p : F.Packet) → F.PacketOk p → p.code < 256
unfolding is_code
code_small p o = ltb-true p.code 256 o.code

-- What stands before the rest r, at the end of what comes before.
part_before : (s a ys r : List ℕ) → s ≡ a ++ (ys ++ r) → (length ys + length r ≤ length s) × (take (length ys) (drop (length s - length r - length ys) s) ≡ ys)
part_before s a ys r e =
    let l = ap length e ∙ length-append a (ys ++ r) in
    let k = length-append ys r in
    let i : length s - length r - length ys ≡ length a = omega arith in
    (omega arith, rw (i, e, drop-append_seam a (ys ++ r), take-append_seam ys r) refl)

-- The font up to a packet's raster, its raster, and the rest.
raster_part : (s : List ℕ) (at : ℕ) (p : F.Packet) (r : List ℕ) → drop at s ≡ bytes_of (F.packet p) ++ r
    → s ≡ (take at s ++ flag p ∷ field_bytes (kinds p.form) (fields p)) ++ (p.raster ++ r)
unfolding bytes_of
raster_part s at p r e =
    sym (take-append-drop at s) ∙ ap (λ (x : List ℕ). take at s ++ x) e ∙ simp append_assoc refl

pub outline_found : (s : List ℕ) (at : ℕ) (p : F.Packet) (r : List ℕ) → L.Found (drop at s) (F.packet p) r
    → InFont s (outline_of p (length s - length r)) × (raster_of s (outline_of p (length s - length r)) ≡ p.raster)
outline_found s at p r i =
    let t = part_before s (take at s ++ flag p ∷ field_bytes (kinds p.form) (fields p)) p.raster r (raster_part s at p r i.whole) in
    let m = t.0 in
    let j : length s - length r - (length s - length r - length p.raster) ≡ length p.raster = omega arith in
    (record { f = i.ok.f; code = code_small p i.ok; limits = i.ok.limits; begin = omega arith; end = omega arith }, rw j t.1)

module _ (s : List ℕ) (b : Bytes s) (at : ℕ) (x : Outline) (t : StandsAt s at x) where
  -- The packet is one that 01 allows, and its bytes stand at the place.
  pub stands_is : L.Found (drop at s) (F.packet t.packet) t.rest
  stands_is = subst (Is (drop at s)) t.here (step_is (drop at s) (bytes_drop at s b))

  pub stands_found : InFont s x
  stands_found = subst (InFont s) (sym t.outline) (outline_found s at t.packet t.rest stands_is).0

  pub stands_raster : raster_of s x ≡ t.packet.raster
  stands_raster = ap (raster_of s) t.outline ∙ (outline_found s at t.packet t.rest stands_is).1
