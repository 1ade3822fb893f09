-- A piece's fault means what its row says (01, Numbers given back: 4 to 15). Assumes nothing.
use Prim.Native.Nat.{ℕ, ◌+◌, ◌-◌, ◌/◌, ◌%◌, ◌≤◌, ◌<◌}
use mathlib.Core.Path.{◌≡◌, refl, sym, ap, subst, ◌∙◌}
use mathlib.Core.List.{List, [], ◌∷◌, ◌++◌}
use mathlib.Core.Bool.{true, false, not, ◌&&◌}
use mathlib.Core.Logic.{⊎_map}
use native.Mathlib.Omega.{arith}
use lib.Dec.{ltb, leb, eqb}
use lib.IntN.{pos, nat_abs}
use lib.ListN.{length, take, drop, length-drop}
use lib.Seq.{length-take-le}
use borrow.Author.Tests.{ltb-true, ltb-false, leb-true, leb-false, eqb-true, eqb-false, not-true, not-false}
use Rattle.format.specs.Limits.{within_limits, is_code}
use Rattle.format.specs.Lists.{all, elem}
use Rattle.format.specs.Refusals.{file_ends, bad_length, outside_limits, bad_code, code_twice, Result, ok, fault}
use Rattle.format.specs.Numbers.{Bytes, size}
use Rattle.format.specs.Pieces.{Preamble, kinds, fixed, Packet, PacketOk, Piece, special, numeric, noop, packet, length_kind, bytes_of, PieceOk}
use Rattle.format.specs.Decoding.{number, value_of}
use Rattle.format.specs.Reading.{items}
use Rattle.format.specs.Cut.{packets, Parts}
use Rattle.format.specs.Verdict.{Front, piece, last, at_least, form_of, raster_at, packet_at, special_at, numeric_at, step, checked, is_nil, ending}
use Rattle.format.specs.Faults.{said, Stands, Sized, Coded, nothing, in_fixed, in_raster, in_length, in_body, in_four, of_command, of_packet, RasterFault, PieceFault, file_ends_here, none_such, wrong_length, limits, code, twice, bad_raster, none_before, bad_end}
use Rattle.format.proofs.Tests.{and_false}
use Rattle.format.proofs.RefusalLaws.{IfFault, fault_to, need_case, cond_case, IfRefused}
use Rattle.format.proofs.PieceLaws.{at_least_lem, box_true, code_true}
use Rattle.format.proofs.OnwardLaws.{raster_bytes}
use Rattle.format.proofs.RasterFaultLaws.{items_fault}

-- What stands at the front.

-- The packet p stands at the front of the bytes.
pub data Shown : List ℕ → Packet → Type 0 where
  shown : {b : ℕ} {t : List ℕ} {p : Packet} → p.f ≡ b / 16 → Coded b t p.raster p.w p.h p.code → Shown (b ∷ t) p

abbrev pub ShownIn : List ℕ → Piece → Type 0
ShownIn s (special k xs) = Unit {0}
ShownIn s (numeric xs) = Unit {0}
ShownIn s noop = Unit {0}
ShownIn s (packet p) = Shown s p

-- What each answer of `step` says of the bytes: a packet stands there, or the piece is at fault.
abbrev pub Tells : List ℕ → Result Front → Type 0
Tells s (ok (piece p r)) = ShownIn s p
Tells s (ok (last r)) = Unit {0}
Tells s (fault x) = (place : ℕ) (seen : List ℕ) → PieceFault place seen s x

packet_tells : (b : ℕ) (t : List ℕ) → b < 240 → Tells (b ∷ t) (packet_at b (form_of b) (said b t) t)
unfolding packet_at raster_at
packet_tells b t hb =
    let k = form_of b in
    let x = said b t in
    let m = size (kinds k) in
    let n = nat_abs x.length - fixed k in
    need_case (Tells (b ∷ t)) (leb m (length t)) file_ends _ (λ e place seen. file_ends_here (in_fixed hb (leb-false m (length t) e))) λ e.
    let l = leb-true m (length t) e in
    need_case (Tells (b ∷ t)) (at_least (fixed k) x.length) bad_length _ (λ e place seen. wrong_length (of_packet hb l e)) λ e.
    let u = at_least_lem (fixed k) x.length e in
    let z : nat_abs x.length ≡ fixed k + n = omega arith in
    let says : x.length ≡ pos (fixed k + n) = u.0 ∙ ap pos z in
    let d = length-drop m t in
    need_case (Tells (b ∷ t)) (leb n (length (drop m t))) file_ends _
    (λ e place seen. let j = leb-false n (length (drop m t)) e in file_ends_here (in_raster n hb l says (omega arith))) λ e.
    let j = leb-true n (length (drop m t)) e in
    let i = length-take-le n (drop m t) j in
    let st : Stands b t (take n (drop m t)) = record { flag = hb; says = rw i says; inside = omega arith; bytes = rw i refl } in
    need_case (Tells (b ∷ t)) (within_limits x.w x.h) outside_limits _ (λ e place seen. limits st e) λ e.
    let v = box_true x.w x.h e in
    let si : Sized b t (take n (drop m t)) (nat_abs x.w) (nat_abs x.h) = record { stands = st; width = sym v.0; height = sym v.1; limits = v.2 } in
    need_case (Tells (b ∷ t)) (is_code x.code) bad_code _ (λ e place seen. code si e) λ e.
    let c = code_true x.code e in
    shown refl (record { sized = si; code = sym c.0; range = c.1 })

special_tells : (b k : ℕ) (t : List ℕ) → 1 ≤ k → k ≤ 4 → b ≡ 239 + k → Tells (b ∷ t) (special_at k (value_of (length_kind k) (number k t)) t)
unfolding special_at
special_tells b k t lo hi q =
    let z = value_of (length_kind k) (number k t) in
    need_case (Tells (b ∷ t)) (leb k (length t)) file_ends _ (λ e place seen. file_ends_here (in_length k lo hi q (leb-false k (length t) e))) λ e.
    let l = leb-true k (length t) e in
    need_case (Tells (b ∷ t)) (at_least 0 z) bad_length _ (λ e place seen. wrong_length (of_command k lo hi q l e)) λ e.
    let u = at_least_lem 0 z e in
    let d = length-drop k t in
    need_case (Tells (b ∷ t)) (leb (nat_abs z) (length (drop k t))) file_ends _
    (λ e place seen. let j = leb-false (nat_abs z) (length (drop k t)) e in file_ends_here (in_body k (nat_abs z) lo hi q l u.0 (omega arith))) λ e. tt

numeric_tells : (t : List ℕ) → Tells (244 ∷ t) (numeric_at t)
unfolding numeric_at
numeric_tells t = need_case (Tells (244 ∷ t)) (leb 4 (length t)) file_ends _ (λ e place seen. file_ends_here (in_four (leb-false 4 (length t) e))) λ e. tt

-- A fault of `step` is that of the bytes, and a packet that it finds stands there.
pub step_tells : (s : List ℕ) → Tells s (step s)
unfolding step
step_tells [] = λ place seen. file_ends_here nothing
step_tells (b ∷ t) =
    cond_case (Tells (b ∷ t)) (ltb b 240) _ _ (λ e. packet_tells b t (ltb-true b 240 e)) λ e.
    let l = ltb-false b 240 e in
    cond_case (Tells (b ∷ t)) (ltb b 244) _ _ (λ e. let m = ltb-true b 244 e in special_tells b (b - 239) t (omega arith) (omega arith) (omega arith)) λ e.
    let m = ltb-false b 244 e in
    cond_case (Tells (b ∷ t)) (eqb b 244) _ _ (λ e. rw (eqb-true b 244 e) (numeric_tells t)) λ e.
    let u = eqb-false b 244 e in
    cond_case (Tells (b ∷ t)) (eqb b 245) _ _ (λ e. tt) λ e.
    let v = eqb-false b 245 e in
    cond_case (Tells (b ∷ t)) (eqb b 246) _ _ (λ e. tt) λ e place seen.
    let w = eqb-false b 246 e in
    none_such (omega arith)

-- 9 to 13, for a packet that stands there.

packet_checked : (place : ℕ) (seen s : List ℕ) (p : Packet) → Shown s p → PacketOk p → Bytes p.raster → IfFault (PieceFault place seen s) (checked seen (p ∷ []))
unfolding checked
packet_checked place seen [] p x o hs = elim x [ ]
packet_checked place seen (b ∷ t) p (shown f c) o hs =
    need_case (IfFault (PieceFault place seen (b ∷ t))) (not (elem p.code seen)) code_twice _ (λ e. twice c (not-false (elem p.code seen) e)) λ e.
    fault_to (items p.f p.w p.h p.raster)
    (λ x q. bad_raster c (not-true (elem p.code seen) e) (subst (λ (i : ℕ). RasterFault i p.w p.h p.raster x) f q))
    (items_fault p.f p.w p.h p.raster o.f o.limits hs)

-- A fault of `checked` is that of the bytes.
pub checked_tells : (place : ℕ) (seen s : List ℕ) (p : Piece) (r : List ℕ) → ShownIn s p → PieceOk p → Bytes (bytes_of p ++ r)
    → IfFault (PieceFault place seen s) (checked seen (packets (p ∷ [])))
unfolding checked packets
checked_tells place seen s (special k xs) r i o h = tt
checked_tells place seen s (numeric xs) r i o h = tt
checked_tells place seen s noop r i o h = tt
checked_tells place seen s (packet p) r i o h = packet_checked place seen s p i o (raster_bytes p r h)

-- 14 and 15, at the 245.

nil_true : (xs : List ℕ) → is_nil xs ≡ true → xs ≡ []
unfolding is_nil
nil_true [] e = refl
nil_true (x ∷ xs) e = absurd (let z : ◌≡◌ {A = ℕ} 0 1 = cc in omega arith)

nil_false : (xs : List ℕ) → is_nil xs ≡ false → xs ≡ [] → ⊥
unfolding is_nil
nil_false [] e q = let z : ◌≡◌ {A = ℕ} 0 1 = cc in omega arith
nil_false (x ∷ xs) e q = let z : ◌≡◌ {A = ℕ} 0 1 = cc in omega arith

-- A refusal of `ending` is the 245's.
pub ending_tells : (a : Preamble) (place : ℕ) (seen r : List ℕ) → IfRefused (λ x to. (place ≡ to) × PieceFault place seen (245 ∷ r) x) (ending a place seen r)
unfolding ending
ending_tells a place seen r =
    let P = IfRefused {A = Parts} (λ x to. (place ≡ to) × PieceFault place seen (245 ∷ r) x) in
    let four = (place + 1 + length r) % 4 in
    cond_case P (is_nil seen) _ _ (λ e. (refl, none_before (nil_true seen e))) λ n.
    cond_case P (all 246 r && eqb four 0) _ _ (λ e. tt) λ e.
    (refl, bad_end (nil_false seen n) (⊎_map (λ u. u) (eqb-false four 0) (and_false (all 246 r) (eqb four 0) e)))
