-- What is found in a font that has a cut: the packet of the code stands at the place, and its raster is read whole; or no packet has the
-- code. Assumes nothing.
use Prim.Native.Nat.{ℕ, ◌-◌}
use mathlib.Core.Path.{◌≡◌, refl, sym, ap, ◌∙◌, subst}
use mathlib.Core.Bool.{true, false}
use mathlib.Core.List.{List, [], ◌∷◌}
use lib.Dec.{eqb}
use lib.ListN.{length}
use Rattle.std.specs.declared.option.Option.TheVariants.{None, Some}
use Rattle.format.specs.Refusals.{no_such_code, ok, fault}
use Rattle.format.specs.Numbers.{Bytes}
use Rattle.format.specs.Pieces as F
use Rattle.format.specs.Cut.{packets, AllFilled, Parts, Cut}
use Rattle.format.specs.Reading.{items}
use Rattle.format.specs.Drawing.{find}
use Rattle.format.proofs.Tests.{test}
use Rattle.format.proofs.FillLaws.{draws_items}
use Rattle.packet.specs.Outlines.{outline_of}
use Rattle.packet.specs.Standing.{StandsAt, Drawable}
use Rattle.packet.specs.declared.Outline.{Outline}
use Rattle.packet.proofs.StandingLaws.{stands_is, stands_raster}
use Rattle.find.specs.Places.{Found, found_among, found_in, IsFound}
use Rattle.find.proofs.RestLaws.{Rest, rest_start, Next, rest_next}
use Rattle.find.proofs.GoingLaws.{found_first}

-- The packet of the code stands at the place, and its raster is read whole.
pub record Stood (s : List ℕ) (code : ℕ) (all : List F.Packet) (at : ℕ) (x : Outline) : Type 0 where
  pub drawable : Drawable s at x
  pub first : find code all ≡ ok drawable.stands.packet

-- What each answer says of a font with these packets.
abbrev pub Meant : List ℕ → ℕ → List F.Packet → Found → Type 0
Meant s code all (Some r) = Stood s code all r.0 r.1
Meant s code all None = find code all ≡ fault no_such_code

module _ (s : List ℕ) (b : Bytes s) (code : ℕ) where
  -- A packet of the code.
  packet_stood : (at : ℕ) (p : F.Packet) (ps : List F.Piece) (pad : ℕ) (t : Next s at (F.packet p) ps pad) → AllFilled (packets (F.packet p ∷ ps)) → eqb code p.code ≡ true
      → Stood s code (packets (F.packet p ∷ ps)) at (outline_of p (length s - length t.rest))
  unfolding find packets
  packet_stood at p ps pad t a e =
      let x = outline_of p (length s - length t.rest) in
      let u : StandsAt s at x = record { packet = p; rest = t.rest; here = t.here; outline = refl } in
      let i = stands_is s b at x u in
      let d = draws_items p.f p.black p.w p.h p.raster a.0.0 i.ok.limits a.0.1 in
      record { drawable = record { stands = u; whole = (d.0, ap (items p.f p.w p.h) (stands_raster s b at x u) ∙ d.1) }; first = rw e refl }

  -- A packet of another code in front.
  means_more : (p : F.Packet) (ps : List F.Packet) (r : Found) → eqb code p.code ≡ false → Meant s code ps r → Meant s code (p ∷ ps) r
  unfolding find
  means_more p ps (Some r) e m = record { drawable = m.drawable; first = rw e m.first }
  means_more p ps None e m = rw e m

  -- A piece in front.
  piece_means : (at : ℕ) (p : F.Piece) (ps : List F.Piece) (pad : ℕ) (t : Next s at p ps pad) (r : Found) → AllFilled (packets (p ∷ ps))
      → (AllFilled (packets ps) → Meant s code (packets ps) r) → Meant s code (packets (p ∷ ps)) (found_among code at (length s - length t.rest) (packets (p ∷ [])) r)
  unfolding found_among packets
  piece_means at (F.special k xs) ps pad t r a m = m a
  piece_means at (F.numeric xs) ps pad t r a m = m a
  piece_means at F.noop ps pad t r a m = m a
  piece_means at (F.packet p) ps pad t r a m =
      test (eqb code p.code) (λ e. rw e (packet_stood at p ps pad t a e)) (λ e. rw e (means_more p (packets ps) r e (m a.1)))

  -- What is found in the pieces from a place on.
  left_means : (at : ℕ) (ps : List F.Piece) (pad : ℕ) → Rest s at ps pad → AllFilled (packets ps) → Meant s code (packets ps) (found_in code at ps)
  unfolding found_in packets find
  left_means at [] pad t a = refl
  left_means at (p ∷ ps) pad t a =
      let n = rest_next s at p ps pad t in
      let to = length s - length n.rest in
      subst (Meant s code (packets (p ∷ ps))) (sym (found_first code at to p ps n.place))
      (piece_means at p ps pad n (found_in code to ps) a (left_means to ps pad n.others))

-- What the finder answers means this of the font's packets.
pub found_means : (s : List ℕ) (code : ℕ) (x : Parts) (r t : Found) → Cut s x → IsFound s code r → r ≡ t → Meant s code (packets x.pieces) t
found_means s code x r t c h e =
    subst (Meant s code (packets x.pieces)) (sym (h x c) ∙ e) (left_means s c.bytes code _ x.pieces x.pad (rest_start s x c) c.filled)
