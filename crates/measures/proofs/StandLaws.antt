-- The measures of a packet that stands in a font are those that its outline and the fields behind its flag say. Assumes nothing.
use Prim.Native.Nat.{ℕ, suc, ◌+◌, ◌≤◌, ◌<◌}
use mathlib.Core.Path.{◌≡◌, refl, sym, ap, ◌∙◌}
use mathlib.Core.List.{List, ◌∷◌, ◌++◌, append_assoc}
use native.Mathlib.Numerals.{add-one}
use native.Mathlib.Omega.{arith}
use lib.IntN.{pos}
use lib.ListN.{length, drop, get_or, length-append, length-drop}
use lib.Seq.{drop-cons}
use Rattle.format.specs.Numbers.{Bytes, size, field_bytes}
use Rattle.format.specs.Measures.{pixels, scaled}
use Rattle.format.specs.Pieces.{Form, short, extended, long, Escapement, kinds, Packet, packet_length, values, fields, flag, bytes_of, dx_of, dy_of, measures}
use Rattle.format.specs.Verdict.{form_of, header}
use Rattle.format.proofs.FieldLaws.{length_fields, read_fields_lem}
use Rattle.format.proofs.FillLaws.{limits_most}
use Rattle.format.proofs.PieceLaws.{fits_fields, flag_form}
use Rattle.packet.specs.Standing.{StandsAt}
use Rattle.packet.specs.declared.Outline.{Outline}
use Rattle.packet.proofs.StandingLaws.{stands_is, stands_found}
use Rattle.measures.specs.declared.Measures.{Measures}
use Rattle.measures.specs.Said.{said, said_of, said_by, Small, IsSaid}

-- A list that has a and then r at a place.
front : (s : List ℕ) (at a : ℕ) (r : List ℕ) → drop at s ≡ a ∷ r → (at < length s) × (get_or s at 0 ≡ a) × (drop (at + 1) s ≡ r)
front s at a r e =
    let l : at < length s = omega (arith, length-drop at s, ap length e) in
    let q : get_or s at 0 ∷ drop (suc at) s ≡ a ∷ r = sym (drop-cons s at 0 l) ∙ e in
    (l, (cc), rw (add-one at) (cc))

-- The values of a packet's fields say its measures, in each form.
said_values : (k : Form) (e : Escapement k) (p : Packet) (n : ℕ) (x : Outline) → x.code ≡ p.code → x.w ≡ p.w → x.h ≡ p.h
    → said_of x (header k 0 (values k e p n))
    ≡ record { code = pos p.code; w = pos p.w; h = pos p.h; tfm = p.tfm; dx = dx_of k e; dy = dy_of k e; hoff = p.hoff; voff = p.voff }
said_values short (pixels dm) p n x c w h = rw (c, w, h) refl
said_values extended (pixels dm) p n x c w h = rw (c, w, h) refl
said_values long (scaled dx, scaled dy) p n x c w h = rw (c, w, h) refl

module _ (s : List ℕ) (b : Bytes s) (at : ℕ) (x : Outline) (t : StandsAt s at x) where
  -- The bytes behind its flag: its fields, its raster and the rest.
  behind : List ℕ
  behind = field_bytes (kinds t.packet.form) (fields t.packet) ++ (t.packet.raster ++ t.rest)

  -- Its flag and those bytes stand at the place.
  fronted : (at < length s) × (get_or s at 0 ≡ flag t.packet) × (drop (at + 1) s ≡ behind)
  unfolding bytes_of behind
  fronted =
      let p = t.packet in
      front s at (flag p) behind
      ((stands_is s b at x t).whole ∙ ap (λ (y : List ℕ). flag p ∷ y) (append_assoc (field_bytes (kinds p.form) (fields p)) p.raster t.rest))

  pub inside : at < length s
  inside = fronted.0

  -- Its numbers are within the limits.
  pub small : Small x
  small =
      let f = stands_found s b at x t in
      let m = limits_most x.w x.h f.limits in
      record { code = f.code; wide = m.0; high = m.1 }

  -- Its flag tells its form.
  pub flag_told : form_of (get_or s at 0) ≡ t.packet.form
  flag_told = ap form_of fronted.1 ∙ flag_form t.packet (stands_is s b at x t).ok

  form_told : (k : Form) → k ≡ form_of (get_or s at 0) → t.packet.form ≡ k
  form_told k h = sym flag_told ∙ sym h

  -- Its fields are whole.
  pub room : (k : Form) → k ≡ form_of (get_or s at 0) → at + 1 + size (kinds k) ≤ length s
  unfolding behind
  room k h =
      let p = t.packet in
      let v = length-append (field_bytes (kinds p.form) (fields p)) (p.raster ++ t.rest) in
      let l = length_fields (kinds p.form) (fields p) in
      let e = ap (λ (j : Form). size (kinds j)) (form_told k h) in
      omega (arith, inside, ap length fronted.2, length-drop (at + 1) s, v, l, e)

  -- Its outline and its fields say its measures.
  told : said_by t.packet.form x (drop (at + 1) s) ≡ measures t.packet
  unfolding said_by measures behind
  told =
      let p = t.packet in
      rw (fronted.2, read_fields_lem (kinds p.form) (fields p) (p.raster ++ t.rest) (fits_fields p (stands_is s b at x t).ok))
      (said_values p.form p.escapement p (packet_length p) x (ap (λ (y : Outline). y.code) t.outline) (ap (λ (y : Outline). y.w) t.outline) (ap (λ (y : Outline). y.h) t.outline))

  -- What is said in the form that its flag tells are its measures.
  pub is_said : (k : Form) (r : Measures) → k ≡ form_of (get_or s at 0) → said r ≡ said_by k x (drop (at + 1) s) → IsSaid s at r
  is_said k r h e p rest q =
      let z : t.packet ≡ p = cc in
      e ∙ ap (λ (j : Form). said_by j x (drop (at + 1) s)) (sym (form_told k h)) ∙ told ∙ ap measures z
