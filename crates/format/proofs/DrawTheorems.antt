-- A drawing is read off the cut (the letter's second and third demands): 16, 17, or measures and pixels, each exactly if the cut's packet of the
-- code says so, wherever it stands among the pieces. Assumes nothing.
use Prim.Native.Nat.{ℕ, ◌*◌, ◌≤◌, ◌<◌}
use mathlib.Core.Path.{◌≡◌, refl, sym, ap, ◌∙◌, subst}
use mathlib.Core.Logic.{◌⊎◌, inl, inr, ⊎_elim, ◌↔◌}
use mathlib.Core.List.{List, [], ◌∷◌, ◌++◌}
use native.Mathlib.Omega.{arith}
use lib.Dec.{eqb}
use borrow.Author.Tests.{le-leb, lt-leb, ltb-true}
use Rattle.format.specs.Limits.{is_code}
use Rattle.format.specs.Refusals.{Refusal, no_such_code, no_room, Answer, gives, refused, Result, ok, fault, ◌>>=◌, need, answer_at}
use Rattle.format.specs.Measures.{Measures}
use Rattle.format.specs.Pieces.{Packet, PacketOk, Piece, special, numeric, noop, packet, measures}
use Rattle.format.specs.Rasters.{Draws}
use Rattle.format.specs.Cut.{AllOk, packets, AllFilled, codes, Distinct, Parts, Cut}
use Rattle.format.specs.Codes.{PacketOf, NoPacketOf, SaidOf, NoRoomFor}
use Rattle.format.specs.Verdict.{verdict}
use Rattle.format.specs.Drawing.{pixels_of, find, drawn, draw_from, draw}
use Rattle.format.proofs.Tests.{test, split}
use Rattle.format.proofs.ItemLaws.{fault≢}
use Rattle.format.proofs.FindLaws.{found_anywhere, found_among_lem}
use Rattle.format.proofs.RasterLaws.{one_picture}
use Rattle.format.proofs.OnwardLaws.{refused≢}
use Rattle.format.proofs.PixelLaws.{draws_pixels}
use Rattle.format.proofs.CutTheorems.{cut_verdict}

-- The finder gives no other refusal than 16.
find_fault : (code : ℕ) (ps : List Packet) (r : Refusal) → find code ps ≡ fault r → r ≡ no_such_code
unfolding find
find_fault code [] r e = cc
find_fault code (q ∷ ps) r e =
    test (eqb code q.code)
    (λ t. let z : ok q ≡ fault r = rw t at e in absurd (fault≢ (sym z)))
    (λ t. find_fault code ps r (rw t at e))

-- A packet of the cut.

packets_at : (before behind : List Piece) (p : Packet) → packets (before ++ packet p ∷ behind) ≡ packets before ++ p ∷ packets behind
unfolding packets
packets_at [] behind p = refl
packets_at (special k xs ∷ ps) behind p = packets_at ps behind p
packets_at (numeric xs ∷ ps) behind p = packets_at ps behind p
packets_at (noop ∷ ps) behind p = packets_at ps behind p
packets_at (packet q ∷ ps) behind p = ap (λ (z : List Packet). q ∷ z) (packets_at ps behind p)

-- Pieces with a packet among their packets.
record Split (all : List Piece) (p : Packet) : Type 0 where
  before : List Piece
  behind : List Piece
  stands : all ≡ before ++ packet p ∷ behind

further : (q : Piece) (ps : List Piece) (p : Packet) → Split ps p → Split (q ∷ ps) p
further q ps p t = record { before = q ∷ t.before; behind = t.behind; stands = ap (λ (z : List Piece). q ∷ z) t.stands }

find_split : (code : ℕ) (all : List Piece) (p : Packet) → find code (packets all) ≡ ok p → Split all p
unfolding packets find
find_split code [] p e = absurd (fault≢ e)
find_split code (special k xs ∷ ps) p e = further (special k xs) ps p (find_split code ps p e)
find_split code (numeric xs ∷ ps) p e = further (numeric xs) ps p (find_split code ps p e)
find_split code (noop ∷ ps) p e = further noop ps p (find_split code ps p e)
find_split code (packet q ∷ ps) p e =
    test (eqb code q.code)
    (λ t. let z : ok q ≡ ok p = rw t at e in
    let y : q ≡ p = cc in
    record { before = []; behind = ps; stands = ap (λ (r : Packet). packet r ∷ ps) y })
    (λ t. further (packet q) ps p (find_split code ps p (rw t at e)))

find_of : (x : Parts) (code : ℕ) (p : Packet) → find code (packets x.pieces) ≡ ok p → PacketOf x code p
find_of x code p e =
    let t = find_split code x.pieces p e in
    record { before = t.before; behind = t.behind; stands = t.stands; has = (found_among_lem code (packets x.pieces) p e).has }

-- Each piece is one that 01 allows, and each raster is filled; so of one of them.
ok_at : (before behind : List Piece) (p : Packet) → AllOk (before ++ packet p ∷ behind) → PacketOk p
ok_at [] behind p a = a.0
ok_at (q ∷ before) behind p a = ok_at before behind p a.1

filled_at : (before behind : List Packet) (p : Packet) → AllFilled (before ++ p ∷ behind) → (pixels : List ℕ) × Draws p.f p.black p.w p.h p.raster pixels
filled_at [] behind p a = a.0
filled_at (q ∷ before) behind p a = filled_at before behind p a.1

module _ (s : List ℕ) (x : Parts) (c : Cut s x) where
  module _ (code : ℕ) (p : Packet) (o : PacketOf x code p) where
    packets_are : packets x.pieces ≡ packets o.before ++ p ∷ packets o.behind
    packets_are = ap packets o.stands ∙ packets_at o.before o.behind p

    -- It is the one that is found, so a code has one packet;
    pub of_find : find code (packets x.pieces) ≡ ok p
    of_find =
        ap (λ (z : List Packet). find code z) packets_are
        ∙ ap (λ (k : ℕ). find k (packets o.before ++ p ∷ packets o.behind)) o.has
        ∙ found_anywhere (packets o.before) (packets o.behind) p (subst (λ (z : List Packet). Distinct (codes z)) packets_are c.distinct)

    -- it is one that 01 allows,
    pub of_ok : PacketOk p
    of_ok = ok_at o.before o.behind p (subst AllOk o.stands c.pieces)

    -- and its raster draws its pixels.
    pub of_drawn : Draws p.f p.black p.w p.h p.raster (pixels_of p)
    unfolding pixels_of
    of_drawn =
        let t = filled_at (packets o.before) (packets o.behind) p (subst AllFilled packets_are c.filled) in
        subst (Draws p.f p.black p.w p.h p.raster) (draws_pixels p.f p.black p.w p.h p.raster t.0 of_ok.limits t.1) t.1

  module _ (code room : ℕ) where
    drawn_cut : draw s code room ≡ answer_at 0 (find code (packets x.pieces) >>= drawn room)
    unfolding draw draw_from
    drawn_cut = ap (draw_from code room) (cut_verdict s x c)

    -- Of the packet that is found,
    pub from_found : (p : Packet) → find code (packets x.pieces) ≡ ok p → draw s code room ≡ answer_at 0 (drawn room p)
    unfolding ◌>>=◌
    from_found p e = drawn_cut ∙ rw e refl

    -- and of none.
    pub from_none : find code (packets x.pieces) ≡ fault no_such_code → draw s code room ≡ refused no_such_code 0
    unfolding ◌>>=◌ answer_at
    from_none e = drawn_cut ∙ rw e refl

    fitting : (p : Packet) → p.w * p.h ≤ room → answer_at 0 (drawn room p) ≡ gives (measures p, pixels_of p)
    unfolding drawn need ◌>>=◌ answer_at
    fitting p l = rw (le-leb (p.w * p.h) room l) refl

    too_short_lem : (p : Packet) → room < p.w * p.h → answer_at 0 (drawn room p) ≡ refused no_room 0
    unfolding drawn need ◌>>=◌ answer_at
    too_short_lem p l = rw (lt-leb (p.w * p.h) room l) refl

    -- The drawing of the packet that is found, or 16.
    abbrev Off : Result Packet → Answer (Measures × List ℕ) → Type 0
    Off (ok p) a = ((p.w * p.h ≤ room) × (a ≡ gives (measures p, pixels_of p))) ⊎ ((room < p.w * p.h) × (a ≡ refused no_room 0))
    Off (fault r) a = a ≡ refused no_such_code 0

    off : (r : Result Packet) → find code (packets x.pieces) ≡ r → Off r (draw s code room)
    off (ok p) e =
        split (p.w * p.h) room (λ t. inl (t, from_found p e ∙ fitting p t)) (λ t. inr (t, from_found p e ∙ too_short_lem p t))
    off (fault r) e = from_none (e ∙ ap fault (find_fault code (packets x.pieces) r e))

    -- Measures and pixels are given exactly if the cut says them.
    pub drawn_exactly : (m : Measures) (pixels : List ℕ) → (draw s code room ≡ gives (m, pixels)) ↔ SaidOf x code room m pixels
    drawn_exactly m pixels = ((λ e. go (find code (packets x.pieces)) refl e), back)
      where
        go : (r : Result Packet) → find code (packets x.pieces) ≡ r → draw s code room ≡ gives (m, pixels) → SaidOf x code room m pixels
        go (fault r) e a = absurd (refused≢ (sym (off (fault r) e) ∙ a))
        go (ok p) e a =
            ⊎_elim
            (λ t. let z = sym t.1 ∙ a in
            let y : ◌≡◌ {A = Measures × List ℕ} (measures p, pixels_of p) (m, pixels) = cc in
            let i : measures p ≡ m = ap (λ (u : Measures × List ℕ). u.0) y in
            let j : pixels_of p ≡ pixels = ap (λ (u : Measures × List ℕ). u.1) y in
            let o = find_of x code p e in
            record { packet = p; of = o; measures_are = sym i; draws = subst (Draws p.f p.black p.w p.h p.raster) j (of_drawn code p o); fits = t.0 })
            (λ t. absurd (refused≢ (sym t.1 ∙ a)))
            (off (ok p) e)

        back : SaidOf x code room m pixels → draw s code room ≡ gives (m, pixels)
        back t =
            let p = t.packet in
            let k : pixels_of p ≡ pixels = one_picture p.f p.black p.w p.h p.raster (pixels_of p) pixels (of_drawn code p t.of) t.draws in
            from_found p (of_find code p t.of) ∙ fitting p t.fits ∙ rw (k, ← t.measures_are) refl

    -- 17 exactly if the cut has the code and the buffer is too short for its pixels.
    pub seventeen_exactly : (draw s code room ≡ refused no_room 0) ↔ NoRoomFor x code room
    seventeen_exactly =
        ((λ e. go (find code (packets x.pieces)) refl e), (λ t. from_found t.packet (of_find code t.packet t.of) ∙ too_short_lem t.packet t.over))
      where
        go : (r : Result Packet) → find code (packets x.pieces) ≡ r → draw s code room ≡ refused no_room 0 → NoRoomFor x code room
        go (fault r) e a = absurd (let z = sym (off (fault r) e) ∙ a in let z : ◌≡◌ {A = ℕ} 0 1 = cc in omega arith)
        go (ok p) e a =
            ⊎_elim (λ t. absurd (refused≢ (sym a ∙ t.1))) (λ t. record { packet = p; of = find_of x code p e; over = t.0 }) (off (ok p) e)

    -- 16 exactly if no packet of the cut has the code.
    pub sixteen_exactly : (draw s code room ≡ refused no_such_code 0) ↔ NoPacketOf x code
    sixteen_exactly = ((λ e p o. go p (off (ok p) (of_find code p o)) e), (λ t. back (find code (packets x.pieces)) refl t))
      where
        go : (p : Packet) → Off (ok p) (draw s code room) → draw s code room ≡ refused no_such_code 0 → ⊥
        go p t a =
            ⊎_elim (λ t. refused≢ (sym a ∙ t.1)) (λ t. let z = sym t.1 ∙ a in let z : ◌≡◌ {A = ℕ} 0 1 = cc in omega arith) t

        back : (r : Result Packet) → find code (packets x.pieces) ≡ r → NoPacketOf x code → draw s code room ≡ refused no_such_code 0
        back (fault r) e t = off (fault r) e
        back (ok p) e t = absurd (t p (find_of x code p e))

    -- One of the three it is.
    pub data OneOfThree : Type 0 where
      saying : (m : Measures) (pixels : List ℕ) → SaidOf x code room m pixels → draw s code room ≡ gives (m, pixels) → OneOfThree
      too_short : NoRoomFor x code room → draw s code room ≡ refused no_room 0 → OneOfThree
      absent : NoPacketOf x code → draw s code room ≡ refused no_such_code 0 → OneOfThree

    pub one_of_three : OneOfThree
    one_of_three = go (find code (packets x.pieces)) refl
      where
        go : (r : Result Packet) → find code (packets x.pieces) ≡ r → OneOfThree
        go (fault r) e = let a = off (fault r) e in absent (sixteen_exactly.0 a) a
        go (ok p) e =
            ⊎_elim
            (λ t. saying (measures p) (pixels_of p) ((drawn_exactly (measures p) (pixels_of p)).0 t.1) t.1)
            (λ t. too_short (seventeen_exactly.0 t.1) t.1)
            (off (ok p) e)

  -- A code above 255 is none that a packet has.
  pub above_255 : (code : ℕ) → 256 ≤ code → NoPacketOf x code
  unfolding is_code
  above_255 code l p o = let k = ltb-true p.code 256 (of_ok code p o).code in let h = o.has in omega arith

-- A font that is refused is refused in drawing, whatever the code and the buffer.
pub draw_refused : (s : List ℕ) (r : Refusal) (place code room : ℕ) → verdict s ≡ refused r place → draw s code room ≡ refused r place
unfolding draw draw_from
draw_refused s r place code room e = rw e refl
