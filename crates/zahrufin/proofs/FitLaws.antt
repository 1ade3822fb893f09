-- Each number that C is handed fits its field of 32 bits: numbers of refusals, places, counts of characters, lengths of packets. Assumes
-- nothing.
use Prim.Native.Nat.{ℕ, ◌≤◌, ◌<◌, ◌^◌}
use mathlib.Core.Path.{◌≡◌, refl, ap, ◌∙◌}
use mathlib.Core.List.{List, [], ◌∷◌, ◌++◌}
use native.Mathlib.Omega.{arith}
use lib.ListN.{length, replicate, length-append}
use Rattle.format.specs.Refusals.{Refusal, too_long, no_preamble, wrong_id, file_ends, no_piece, bad_length, outside_limits, bad_code, code_twice, raster_ends, too_many, second_repeat, left_over, bad_ending, no_packet, no_such_code, no_room, bitmap_outside_limits, bad_bitmap, no_form, Answer, gives, refused, number_and_place, says, refuses, told, answers, Result, ok, fault, answer_at}
use Rattle.format.specs.Numbers.{Bytes}
use Rattle.format.specs.Measures.{Measures}
use Rattle.format.specs.Pieces.{preamble_bytes, Packet, Piece, special, numeric, noop, packet, bytes_of}
use Rattle.format.specs.Cut.{flat, packets, Parts, chars, join}
use Rattle.format.specs.Verdict.{verdict, check}
use Rattle.format.specs.Faults.{Means, over_long, empty, first_byte, second_byte, cut_short, at_piece}
use Rattle.format.specs.Drawing.{draw_from, draw, draw_answer}
use Rattle.format.specs.Packing.{packed, pack, pack_answer}
use Rattle.format.proofs.RefusalLaws.{IfRefused, refused_answers}
use Rattle.format.proofs.CutTheorems.{counts_chars}
use Rattle.format.proofs.FaultTheorems.{refusal_means}
use Rattle.format.proofs.PackTheorems.{packed_is}

-- Refusals.

-- The numbers are 1 to 20, and no place is behind the piece at fault.
row_small : (x : Refusal) (at : ℕ) → ((number_and_place x at).0 ≤ 20) × ((number_and_place x at).1 ≤ at)
row_small too_long at = (omega arith, omega arith)
row_small no_preamble at = (omega arith, omega arith)
row_small wrong_id at = (omega arith, omega arith)
row_small file_ends at = (omega arith, omega arith)
row_small no_piece at = (omega arith, omega arith)
row_small bad_length at = (omega arith, omega arith)
row_small outside_limits at = (omega arith, omega arith)
row_small bad_code at = (omega arith, omega arith)
row_small code_twice at = (omega arith, omega arith)
row_small raster_ends at = (omega arith, omega arith)
row_small too_many at = (omega arith, omega arith)
row_small second_repeat at = (omega arith, omega arith)
row_small left_over at = (omega arith, omega arith)
row_small bad_ending at = (omega arith, omega arith)
row_small no_packet at = (omega arith, omega arith)
row_small no_such_code at = (omega arith, omega arith)
row_small no_room at = (omega arith, omega arith)
row_small bitmap_outside_limits at = (omega arith, omega arith)
row_small bad_bitmap at = (omega arith, omega arith)
row_small no_form at = (omega arith, omega arith)

-- A place that is no further than the longest font.
abbrev Near : Refusal → ℕ → Type 0
Near x at = at ≤ 65536

-- A refusal at such a place, in 01's numbers.
told_fits : {A : Type 0} (a : Answer A) (n p : ℕ) → IfRefused Near a → refuses n p ≡ told a → (n < 2 ^ 32) × (p < 2 ^ 32)
unfolding told
told_fits (gives x) n p l e = cc
told_fits (refused x at) n p l e =
    let i : n ≡ (number_and_place x at).0 = cc in
    let j : p ≡ (number_and_place x at).1 = cc in
    let t = row_small x at in
    (omega (arith, t.0), omega (arith, t.1, l))

-- The places of each call.

means_near : (s : List ℕ) (x : Refusal) (at : ℕ) → Means s x at → at ≤ 65536
means_near s _ _ (over_long l) = omega arith
means_near s _ _ (empty e) = omega arith
means_near s _ _ (first_byte e l n) = omega arith
means_near s _ _ (second_byte e l n) = omega arith
means_near s _ _ (cut_short l e) = omega arith
means_near s _ at (at_piece b) =
    let a = preamble_bytes b.preamble in
    let i = ap length b.whole ∙ length-append a (flat b.before ++ b.rest) in
    let j = length-append (flat b.before) b.rest in
    let k = b.at ∙ length-append a (flat b.before) in
    omega (arith, i, j, k, b.small)

verdict_near : (s : List ℕ) → Bytes s → IfRefused Near (verdict s)
verdict_near s b = go (verdict s) refl
  where
    go : (v : Answer Parts) → verdict s ≡ v → IfRefused Near v
    go (gives x) e = tt
    go (refused x at) e = means_near s x at (refusal_means s x at b e)

at_0_near : {A : Type 0} (r : Result A) → IfRefused Near (answer_at 0 r)
unfolding answer_at
at_0_near (ok a) = tt
at_0_near (fault x) = omega arith

check_near : (s : List ℕ) → Bytes s → IfRefused Near (check s)
unfolding check
check_near s b = refused_answers Near chars (verdict s) (verdict_near s b)

draw_near : (s : List ℕ) (code : ℕ) (buffer : List ℕ) → Bytes s → IfRefused Near (draw_answer s code buffer)
unfolding draw_answer draw draw_from
draw_near s code buffer b = refused_answers Near _ (draw s code (length buffer)) (go (verdict s) (verdict_near s b))
  where
    go : (v : Answer Parts) → IfRefused Near v → IfRefused Near (draw_from code (length buffer) v)
    go (gives x) l = at_0_near _
    go (refused x at) l = l

pack_near : (b : List ℕ) (m : Measures) (buffer : List ℕ) → IfRefused Near (pack_answer b m buffer)
unfolding pack_answer pack
pack_near b m buffer = refused_answers Near length (pack b m (length buffer)) (at_0_near (packed b m (length buffer)))

-- Counts and lengths.

-- A packet has a byte; no more packets than bytes.
some_byte : (p : Packet) → 1 ≤ length (bytes_of (packet p))
unfolding bytes_of
some_byte p = omega arith

packets_few : (ps : List Piece) → length (packets ps) ≤ length (flat ps)
unfolding packets flat
packets_few [] = omega arith
packets_few (special k xs ∷ ps) = let i = packets_few ps in let j = length-append (bytes_of (special k xs)) (flat ps) in omega arith
packets_few (numeric xs ∷ ps) = let i = packets_few ps in let j = length-append (bytes_of (numeric xs)) (flat ps) in omega arith
packets_few (noop ∷ ps) = let i = packets_few ps in let j = length-append (bytes_of noop) (flat ps) in omega arith
packets_few (packet p ∷ ps) = let i = packets_few ps in let j = length-append (bytes_of (packet p)) (flat ps) in omega (arith, some_byte p)

-- What C is handed fits.

pub chars_fit : (s : List ℕ) (n : ℕ) → Bytes s → says n ≡ told (check s) → n < 2 ^ 32
unfolding told join
chars_fit s n b e = go (check s) refl e
  where
    go : (a : Answer ℕ) → check s ≡ a → says n ≡ told a → n < 2 ^ 32
    go (refused x at) q e = cc
    go (gives k) q e =
        let z : n ≡ k = cc in
        let (x, c, i) = (counts_chars s k b).0 q in
        let f = packets_few x.pieces in
        let l = ap length c.whole ∙ length-append (preamble_bytes x.preamble) (flat x.pieces ++ (245 ∷ replicate x.pad 246)) in
        let j = length-append (flat x.pieces) (245 ∷ replicate x.pad 246) in
        omega (arith, c.small, i, l, j)

pub length_fits : (b : List ℕ) (m : Measures) (buffer : List ℕ) (n : ℕ) → says n ≡ told (pack_answer b m buffer) → n < 2 ^ 32
unfolding told pack_answer answers
length_fits b m buffer n e = go (pack b m (length buffer)) refl e
  where
    go : (a : Answer (List ℕ)) → pack b m (length buffer) ≡ a → says n ≡ told (answers length a) → n < 2 ^ 32
    go (refused x at) q e = cc
    go (gives bytes) q e = let z : n ≡ length bytes = cc in omega (arith, (packed_is b m (length buffer) bytes q).few)

pub check_fits : (s : List ℕ) (n p : ℕ) → Bytes s → refuses n p ≡ told (check s) → (n < 2 ^ 32) × (p < 2 ^ 32)
check_fits s n p b e = told_fits (check s) n p (check_near s b) e

pub draw_fits : (s : List ℕ) (code : ℕ) (buffer : List ℕ) (n p : ℕ) → Bytes s → refuses n p ≡ told (draw_answer s code buffer) → (n < 2 ^ 32) × (p < 2 ^ 32)
draw_fits s code buffer n p b e = told_fits (draw_answer s code buffer) n p (draw_near s code buffer b) e

pub pack_fits : (b : List ℕ) (m : Measures) (buffer : List ℕ) (n p : ℕ) → refuses n p ≡ told (pack_answer b m buffer) → (n < 2 ^ 32) × (p < 2 ^ 32)
pack_fits b m buffer n p e = told_fits (pack_answer b m buffer) n p (pack_near b m buffer) e
