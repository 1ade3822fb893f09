-- Items written into a buffer, one run at a time. Assumes nothing.
use Prim.Native.Nat.{ℕ, zero, suc, ◌+◌, ◌*◌, ◌/◌, ◌≤◌, ◌<◌}
use mathlib.Core.Path.{◌≡◌, refl, sym, ap, ◌∙◌}
use mathlib.Core.List.{List, [], ◌∷◌, ◌++◌, append_assoc, append-nil}
use native.Mathlib.Omega.{arith}
use lib.ListN.{length, take, drop, get_or, length-append}
use Rattle.std.proofs.lemmas.List.{take_more, take-append-drop}
use Rattle.format.specs.Packed.{encode}
use Rattle.format.specs.Rasters.{Item, run, written, writings}
use Rattle.format.specs.Counts.{before}
use Rattle.format.specs.Choice.{halves}
use Rattle.format.proofs.HalfLaws.{length-halves}
use Rattle.walk.specs.declared.Cursor.{Cursor}
use Rattle.walk.specs.Walk.{items_left, begin}
use Rattle.part.specs.declared.Part.{Part}
use Rattle.part.specs.declared.Run.{Run}
use Rattle.part.specs.Parts.{kept, taken, Kept}
use Rattle.part.proofs.KeptLaws.{kept-append, kept_one}
use Rattle.emit.specs.Nybbles.{put_one, put_all}
use Rattle.emit.proofs.PutLaws.{length_puts, put_append, put_one_lem, put_halves}
use Rattle.run_bytes.specs.Put.{Room, Put}

-- The nybbles of a repeat and of a run.

repeat_none : (f : ℕ) → writings f (before 0 []) ≡ []
unfolding writings before
repeat_none f = refl

repeat_one : (f m : ℕ) → m ≡ 1 → writings f (before m []) ≡ 15 ∷ []
unfolding writings before written
repeat_one f m e = rw e refl

repeat_more : (f m : ℕ) → (m ≡ 0 → ⊥) → (m ≡ 1 → ⊥) → writings f (before m []) ≡ 14 ∷ encode f m
unfolding writings before written
repeat_more f zero z o = absurd (z refl)
repeat_more f (suc zero) z o = absurd (o refl)
repeat_more f (suc (suc m)) z o = ap (λ (x : List ℕ). 14 ∷ x) (append-nil (encode f (suc (suc m))))

run_is : (f k m : ℕ) (is : List Item) → writings f (before m (run k ∷ is)) ≡ writings f (before m []) ++ (encode f k ++ writings f is)
unfolding writings before written
run_is f k zero is = refl
run_is f k (suc zero) is = refl
run_is f k (suc (suc m)) is =
    ap (λ (x : List ℕ). x ++ (encode f k ++ writings f is)) (sym (repeat_more f (suc (suc m)) (λ z. omega arith) (λ z. omega arith)))

run_one : (f k m : ℕ) → writings f (before m (run k ∷ [])) ≡ writings f (before m []) ++ encode f k
unfolding writings
run_one f k m = run_is f k m [] ∙ ap (λ (x : List ℕ). writings f (before m []) ++ x) (append-nil (encode f k))

-- One run.

put_none : (d : List ℕ) (i : ℕ) → put_all d i [] ≡ d
unfolding put_all
put_none d i = refl

-- No repeat, a repeat of 1, and any other.
pub put_nothing : (d : List ℕ) (i f m : ℕ) → m ≡ 0 → Put d i (writings f (before m [])) i d
put_nothing d i f m e =
    let q : writings f (before m []) ≡ [] = ap (λ (x : ℕ). writings f (before x [])) e ∙ repeat_none f in
    record { place = rw q (omega arith); is = rw q (sym (put_none d i)) }

pub room_one : (d : List ℕ) (i f m : ℕ) → m ≡ 1 → Room d i (writings f (before m [])) → i < 2 * length d
room_one d i f m e h = omega (arith, ap length (repeat_one f m e))

pub put_repeat : (d d₁ : List ℕ) (i f m : ℕ) → m ≡ 1 → d₁ ≡ put_one d i 15 → Put d i (writings f (before m [])) (i + 1) d₁
put_repeat d d₁ i f m e p = let q = repeat_one f m e in record { place = rw q (omega arith); is = rw q (p ∙ put_one_lem d i 15) }

pub room_more : (d : List ℕ) (i f m : ℕ) → (m ≡ 0 → ⊥) → (m ≡ 1 → ⊥) → Room d i (writings f (before m [])) → i + 1 + length (encode f m) ≤ 2 * length d
room_more d i f m z o h = omega (arith, ap length (repeat_more f m z o))

pub put_repeats : (d d₁ d₂ : List ℕ) (i f m r : ℕ) → (m ≡ 0 → ⊥) → (m ≡ 1 → ⊥) → d₁ ≡ put_one d i 14 → (r ≡ i + 1 + length (encode f m)) × (d₂ ≡ put_all d₁ (i + 1) (encode f m))
    → Put d i (writings f (before m [])) r d₂
unfolding put_all
put_repeats d d₁ d₂ i f m r z o p g = let q = repeat_more f m z o in record { place = rw q (omega (arith, g.0)); is = rw q (g.1 ∙ rw p refl) }

-- A run after its repeat.
pub room_run : (d : List ℕ) (i f k m : ℕ) → Room d i (writings f (before m (run k ∷ []))) → i + length (writings f (before m [])) + length (encode f k) ≤ 2 * length d
room_run d i f k m h = omega (arith, ap length (run_one f k m), length-append (writings f (before m [])) (encode f k))

pub put_run : (d d₁ d₂ : List ℕ) (i j f k m r : ℕ) → Put d i (writings f (before m [])) j d₁ → (r ≡ j + length (encode f k)) × (d₂ ≡ put_all d₁ j (encode f k)) → Put d i (writings f (before m (run k ∷ []))) r d₂
put_run d d₁ d₂ i j f k m r p g =
    let q = run_one f k m in
    record {
      place = omega (arith, p.place, g.0, ap length q, length-append (writings f (before m [])) (encode f k));
      is = g.1 ∙ rw (p.is, p.place, q, put_append (writings f (before m [])) (encode f k) d i) refl;
    }

-- A part.

writings-append : (f : ℕ) (is js : List Item) → writings f (is ++ js) ≡ writings f is ++ writings f js
unfolding writings
writings-append f [] js = refl
writings-append f (i ∷ is) js = ap (λ (x : List ℕ). written f i ++ x) (writings-append f is js) ∙ sym (append_assoc (written f i) (writings f is) (writings f js))

-- The nybbles of one run more, and those of some of the runs are no more than those of all.
writings_kept : (f j : ℕ) (rs : List Run) (d : Run) → j < length rs → writings f (kept (take (j + 1) rs)) ≡ writings f (kept (take j rs)) ++ writings f (before (get_or rs j d).repeat (run (get_or rs j d).length ∷ []))
writings_kept f j rs d h =
    ap (λ (xs : List Run). writings f (kept xs)) (take_more rs j d h)
    ∙ ap (writings f) (kept-append (take j rs) (get_or rs j d ∷ []) ∙ ap (λ (is : List Item). kept (take j rs) ++ is) (kept_one (get_or rs j d)))
    ∙ writings-append f (kept (take j rs)) (before (get_or rs j d).repeat (run (get_or rs j d).length ∷ []))

kept_long : (f j : ℕ) (rs : List Run) → length (writings f (kept (take j rs))) ≤ length (writings f (kept rs))
kept_long f j rs =
    let e : writings f (kept (take j rs ++ drop j rs)) ≡ writings f (kept rs) = ap (λ (xs : List Run). writings f (kept xs)) (take-append-drop j rs) in
    let q : writings f (kept (take j rs ++ drop j rs)) ≡ writings f (kept (take j rs)) ++ writings f (kept (drop j rs)) = ap (writings f) (kept-append (take j rs) (drop j rs)) ∙ writings-append f (kept (take j rs)) (kept (drop j rs)) in
    omega (arith, ap length e, ap length q, length-append (writings f (kept (take j rs))) (writings f (kept (drop j rs))))

-- The buffer stays as long; nybbles behind nybbles.
pub put_same : {d after xs : List ℕ} {i r : ℕ} → Put d i xs r after → length after ≡ length d
put_same {d} {after} {xs} {i} p = ap length p.is ∙ length_puts xs d i

put_then : {d now then xs ys : List ℕ} {i to r : ℕ} → Put d i xs to now → Put now to ys r then → Put d i (xs ++ ys) r then
put_then {d} {now} {then} {xs} {ys} {i} p q = record {
  place = omega (arith, p.place, q.place, length-append xs ys);
  is = q.is ∙ rw (p.is, p.place, put_append xs ys d i) refl;
}

-- No run of a part is written; the next one is as write_run asks it, and is written.
pub part_none : (d : List ℕ) (i f : ℕ) (rs : List Run) → Put d i (writings f (kept (take 0 rs))) i d
unfolding kept writings
part_none d i f rs = record { place = omega arith; is = sym (put_none d i) }

module _ (f : ℕ) {j i to : ℕ} {d now : List ℕ} (rs : List Run) (p : Put d i (writings f (kept (take j rs))) to now) (l : j < length rs) where
  pub part_room : (r : Run) → Room d i (writings f (kept rs)) → Room now to (writings f (before (get_or rs j r).repeat (run (get_or rs j r).length ∷ [])))
  part_room r m =
      let xs = writings f (kept (take j rs)) in
      omega (arith, p.place, put_same p, kept_long f (j + 1) rs, ap length (writings_kept f j rs r l), length-append xs (writings f (before (get_or rs j r).repeat (run (get_or rs j r).length ∷ []))))

  pub part_more : (r : Run) {n : ℕ} {then : List ℕ} → Put now to (writings f (before (get_or rs j r).repeat (run (get_or rs j r).length ∷ []))) n then → Put d i (writings f (kept (take (j + 1) rs))) n then
  part_more r q = rw (writings_kept f j rs r l) (put_then p q)

-- Part after part.

-- Of the items to be written from i on into d, those left where the part p begins are left, from the nybble at `to` on.
pub record Writing (b : List ℕ) (w f : ℕ) (d : List ℕ) (i : ℕ) (now : List ℕ) (to : ℕ) (p : Part) : Type 0 where
  pub from : Cursor
  pub part : Kept b w from p
  pub place : to + length (writings f (items_left b w from)) ≡ i + length (writings f (items_left b w begin))
  pub room : Room d i (writings f (items_left b w begin))
  pub same : length now ≡ length d
  pub is : put_all d i (writings f (items_left b w begin)) ≡ put_all now to (writings f (items_left b w from))

module _ {b : List ℕ} {w f i to : ℕ} {d now : List ℕ} (p : Part) (s : Writing b w f d i now to p) where
  -- What is left: the part, and what is left behind it.
  left_is : writings f (items_left b w s.from) ≡ writings f (kept (taken p)) ++ writings f (items_left b w p.cursor)
  left_is = ap (writings f) s.part.walked.items ∙ writings-append f (kept (taken p)) (items_left b w p.cursor)

  left_long : length (writings f (items_left b w s.from)) ≡ length (writings f (kept (taken p))) + length (writings f (items_left b w p.cursor))
  left_long = ap length left_is ∙ length-append (writings f (kept (taken p))) (writings f (items_left b w p.cursor))

  -- The part is as write_part asks it.
  pub writing_room : Room now to (writings f (kept (taken p)))
  writing_room = omega (arith, s.place, s.room, s.same, left_long)

  module _ {r : ℕ} {then : List ℕ} (q : Put now to (writings f (kept (taken p))) r then) where
    -- Once it is written, the rest is to be written.
    rest_is : put_all d i (writings f (items_left b w begin)) ≡ put_all then r (writings f (items_left b w p.cursor))
    rest_is =
        let xs = writings f (kept (taken p)) in
        let ys = writings f (items_left b w p.cursor) in
        s.is ∙ ap (put_all now to) left_is ∙ put_append xs ys now to ∙ sym (rw (q.is, q.place) refl)

    pub writing_more : {o : Part} → Kept b w p.cursor o → Writing b w f d i then r o
    writing_more g = record {
      from = p.cursor;
      part = g;
      place = omega (arith, s.place, q.place, left_long);
      room = s.room;
      same = put_same q ∙ s.same;
      is = rest_is;
    }

-- The bytes.

-- Room for the bytes is room for the nybbles; the nybbles written, the place behind and the bytes that stand in the buffer.
pub room_halves : (d : List ℕ) (at : ℕ) (xs : List ℕ) → at + length (halves xs) ≤ length d → Room d (2 * at) xs
room_halves d at xs h = let e = length-halves xs in omega arith

pub halves_end : (d e : List ℕ) (at : ℕ) (xs : List ℕ) {n : ℕ} → Put d (2 * at) xs n e → (n + 1) / 2 ≡ at + length (halves xs)
halves_end d e at xs p = omega (arith, length-halves xs, p.place)

pub halves_are : (d e : List ℕ) (at : ℕ) (xs : List ℕ) {n : ℕ} → at + length (halves xs) ≤ length d → Put d (2 * at) xs n e → e ≡ take at d ++ (halves xs ++ drop ((n + 1) / 2) d)
halves_are d e at xs h p = p.is ∙ put_halves xs d at h ∙ ap (λ (x : ℕ). take at d ++ (halves xs ++ drop x d)) (sym (halves_end d e at xs p))
