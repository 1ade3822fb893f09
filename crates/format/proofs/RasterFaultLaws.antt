-- A raster's fault means what its row says (01, Numbers given back: 10 to 13): items in order lead to it. Assumes nothing.
use Prim.Native.Nat.{ℕ, zero, suc, ◌+◌, ◌-◌, ◌*◌, ◌≤◌, ◌<◌}
use mathlib.Core.Path.{◌≡◌, refl, ap, subst}
use mathlib.Core.List.{List, [], ◌∷◌, ◌++◌}
use mathlib.Core.Bool.{true}
use native.Mathlib.Nat.{le_antisymm}
use native.Mathlib.Omega.{arith}
use lib.Dec.{eqb, leb, ltb}
use lib.ListN.{length, drop, replicate, length-append}
use borrow.Author.Tests.{ltb-true, ltb-false, leb-true, leb-false, eqb-true, eqb-false, le-leb, lt-leb}
use Rattle.format.specs.Limits.{in_limits}
use Rattle.format.specs.Lists.{all}
use Rattle.format.specs.Refusals.{Refusal, raster_ends, too_many, left_over, Result, ok, ◌>>=◌}
use Rattle.format.specs.Numbers.{Bytes}
use Rattle.format.specs.Packed.{nybbles, limit}
use Rattle.format.specs.Decoding.{Got, value, ends, mark, digits, zeros, shift, second, decode}
use Rattle.format.specs.Rasters.{Item, run, fourteen, fifteen, Number, written, writings, bits, bytes_of_bits}
use Rattle.format.specs.Reading.{number_of, run_at, repeat_at, item_of, State, start, pixels_left, after_run, after_repeat, after_item, finish, turn, walk, reading, bits_read, none_read, items}
use Rattle.format.specs.Faults.{Allowed, First, Leads, none, more, Unfinished, Over, Second, in_row, for_number, Fault, unfinished, over, another, left, RasterFault, in_items, few_bytes, many_bytes, spare_bits, none_wanted}
use Rattle.format.proofs.Tests.{split}
use Rattle.format.proofs.RefusalLaws.{IfFault, fault_to, bind_fault, need_case, cond_case}
use Rattle.format.proofs.PackedLaws.{Nybbles, bytes_nybbles, Written, decode_written, nybbles-join, nybbles_zero}
use Rattle.format.proofs.ItemLaws.{Free, item_took}
use Rattle.format.proofs.ReadingLaws.{walk_full, walk_next, walk_none, turn_ok, nybs_rest, free_none}
use Rattle.format.proofs.ReadingTheorems.{enough}
use Rattle.format.proofs.FillLaws.{limits_none}

-- An unfinished number, and a 14 or 15 where one must begin.

-- Some more nybbles bring `read` to the end of a number.
record Lacks (read : List ℕ → Got) : Type 0 where
  lacking : List ℕ
  n : ℕ
  reads : read lacking ≡ value n []
  some : 0 < length lacking
  nybs : Nybbles lacking

data Marked : List ℕ → Type 0 where
  marked : {x : ℕ} {xs : List ℕ} → 14 ≤ x → Marked (x ∷ xs)

-- What a reading says of the nybbles that it had: more are lacking, or M, where it met a 14 or 15.
abbrev Says : (List ℕ → Got) → Type 0 → Got → Type 0
Says read M (value n xs) = Unit {0}
Says read M ends = Lacks read
Says read M mark = M

zeros_fill : (n k : ℕ) → (v : ℕ) × (digits n k (replicate n 0) ≡ value v [])
unfolding digits
zeros_fill zero k = (k, refl)
zeros_fill (suc n) k = zeros_fill n (k * 16 + 0)

digits_says : (n k : ℕ) (xs : List ℕ) → Says (λ ys. digits n k (xs ++ ys)) ⊥ (digits n k xs)
unfolding digits
digits_says zero k xs = tt
digits_says (suc n) k [] =
    let v = zeros_fill (suc n) k in
    record { lacking = replicate (suc n) 0; n = v.0; reads = v.1; some = omega arith; nybs = nybbles_zero (suc n) }
digits_says (suc n) k (x ∷ xs) = digits_says n (k * 16 + x) xs

zeros_says : (xs : List ℕ) (z : ℕ) → Says (λ ys. zeros z (xs ++ ys)) ⊥ (zeros z xs)
unfolding zeros
zeros_says [] z =
    let v = zeros_fill z 1 in
    record { lacking = 1 ∷ replicate z 0; n = v.0; reads = v.1; some = omega arith; nybs = (omega arith, nybbles_zero z) }
zeros_says (zero ∷ xs) z = zeros_says xs (suc z)
zeros_says (suc x ∷ xs) z = digits_says z (suc x) xs

shift_says : (M : Type 0) (m : ℕ) (read : List ℕ → Got) (g : Got) → Says read ⊥ g → Says (λ ys. shift m (read ys)) M (shift m g)
unfolding shift
shift_says M m read (value n xs) i = tt
shift_says M m read ends i = record { lacking = i.lacking; n = i.n - 15 + m; reads = rw i.reads refl; some = i.some; nybs = i.nybs }
shift_says M m read mark i = absurd i

second_says : (M : Type 0) (f a : ℕ) (xs : List ℕ) → Says (λ ys. second f a (xs ++ ys)) M (second f a xs)
unfolding second
second_says M f a [] = record { lacking = 0 ∷ []; n = (a - f - 1) * 16 + 0 + f + 1; reads = refl; some = omega arith; nybs = (omega arith, tt) }
second_says M f a (b ∷ xs) = tt

decode_says : (f : ℕ) (xs : List ℕ) → Says (λ ys. decode f (xs ++ ys)) (Marked xs) (decode f xs)
unfolding decode zeros digits shift
decode_says f [] =
    record { lacking = 0 ∷ 1 ∷ 0 ∷ []; n = 1 + limit f; reads = refl; some = omega arith; nybs = (omega arith, (omega arith, (omega arith, tt))) }
decode_says f (zero ∷ xs) = shift_says (Marked (0 ∷ xs)) (limit f) (λ ys. zeros 1 (xs ++ ys)) (zeros 1 xs) (zeros_says xs 1)
decode_says f (suc a ∷ xs) =
    split (suc a) f (λ t. rw (le-leb (suc a) f t) tt)
    (λ t. split (suc a) 13 (λ u. rw (lt-leb (suc a) f t, le-leb (suc a) 13 u) (second_says (Marked (suc a ∷ xs)) f (suc a) xs))
    (λ u. rw (lt-leb (suc a) f t, lt-leb (suc a) 13 u) (marked {x = suc a} (omega arith))))

-- Nybbles that end inside a number are the beginning of one's writing.
begun : (f : ℕ) (xs : List ℕ) → f ≤ 13 → Nybbles xs → (i : Lacks (λ ys. decode f (xs ++ ys))) → Written f (xs ++ i.lacking) i.n []
begun f xs hf b i = decode_written f (xs ++ i.lacking) i.n [] hf (nybbles-join xs i.lacking b i.nybs) i.reads

-- Where the items end.

module _ (f w h : ℕ) (hf : f ≤ 13) where
  unfinished_run : (s : State) (xs : List ℕ) → Nybbles xs → Lacks (λ ys. decode f (xs ++ ys)) → Unfinished f s xs
  unfolding written
  unfinished_run s xs n i =
      let b = begun f xs hf n i in
      record { item = run i.n; lacking = i.lacking; first = record { number = b.positive; allowed = tt; nybbles = b.cut }; some = i.some }

  unfinished_repeat : (s : State) (xs : List ℕ) → Nybbles xs → s.repeat ≡ 0 → Lacks (λ ys. decode f (xs ++ ys)) → Unfinished f s (14 ∷ xs)
  unfolding written
  unfinished_repeat s xs n z i =
      let b = begun f xs hf n i in
      record {
        item = fourteen i.n;
        lacking = i.lacking;
        first = record { number = b.positive; allowed = z; nybbles = ap (λ (y : List ℕ). 14 ∷ y) b.cut };
        some = i.some;
      }

  nothing_left : (s : State) → Unfinished f s []
  unfolding decode
  nothing_left s = unfinished_run s [] tt (decode_says f [])

  run_fault : (s : State) (xs : List ℕ) → s.row < h → Nybbles xs → (Marked xs → ⊥) → IfFault (Fault f w h s xs) (run_at f xs)
  unfolding run_at number_of ◌>>=◌
  run_fault s xs l n m = go (decode f xs) (decode_says f xs)
    where
      go : (g : Got) → Says (λ ys. decode f (xs ++ ys)) (Marked xs) g → IfFault {A = Item × List ℕ} (Fault f w h s xs) (number_of g >>= λ t. ok (run t.0, t.1))
      go (value n rest) i = tt
      go ends i = unfinished l (unfinished_run s xs n i)
      go mark i = absurd (m i)

  repeat_fault : (s : State) (x : ℕ) (xs : List ℕ) → s.row < h → x < 16 → 14 ≤ x → Nybbles xs → s.repeat ≡ 0 → IfFault (Fault f w h s (x ∷ xs)) (repeat_at f x xs)
  unfolding repeat_at number_of ◌>>=◌
  repeat_fault s x xs l u v n z =
      split x 14
      (λ t. let e : x ≡ 14 = omega arith in rw e (go (decode f xs) (decode_says f xs)))
      (λ t. let e : x ≡ 15 = omega arith in rw e tt)
    where
      again : (ys : List ℕ) → Marked ys → Second s (14 ∷ ys)
      again [] m = elim m [ ]
      again (y ∷ ys) (marked q) = for_number q

      go : (g : Got) → Says (λ ys. decode f (xs ++ ys)) (Marked xs) g → IfFault {A = Item × List ℕ} (Fault f w h s (14 ∷ xs)) (number_of g >>= λ t. ok (fourteen t.0, t.1))
      go (value n rest) i = tt
      go ends i = unfinished l (unfinished_repeat s xs n z i)
      go mark i = another l (again xs i)

  -- The next item's fault,
  pub item_fault : (s : State) (xs : List ℕ) → s.row < h → Nybbles xs → IfFault (Fault f w h s xs) (item_of f s.repeat xs)
  unfolding item_of
  item_fault s [] l n = unfinished l (nothing_left s)
  item_fault s (x ∷ xs) l n =
      let P = IfFault {A = Item × List ℕ} (Fault f w h s (x ∷ xs)) in
      cond_case P (ltb x 14) _ _ (λ e. run_fault s (x ∷ xs) l n (below (ltb-true x 14 e))) λ e.
      let m = ltb-false x 14 e in
      cond_case P (ltb 0 s.repeat) _ _ (λ e. another l (in_row m (ltb-true 0 s.repeat e))) λ e.
      repeat_fault s x xs l n.0 m n.1 (omega (arith, ltb-false 0 s.repeat e))
    where
      below : x < 14 → Marked (x ∷ xs) → ⊥
      below t (marked q) = omega arith

  -- that of where it leads,
  after_fault : (s : State) (xs : List ℕ) (i : Item) (rest : List ℕ) → s.row < h → First f s xs i rest → IfFault (Fault f w h s xs) (after_item w h i s)
  unfolding after_item after_run after_repeat
  after_fault s xs i rest l a = go i (over i rest l a)
    where
      P : Result State → Type 0
      P = IfFault (Fault f w h s xs)

      go : (i : Item) → (Over w h i s → Fault f w h s xs too_many) → P (after_item w h i s)
      go (run n) k = cond_case P (leb n (pixels_left w h s)) _ _ (λ e. tt) (λ e. k (leb-false n (pixels_left w h s) e))
      go (fourteen n) k = cond_case P (leb n (h - s.row - 1)) _ _ (λ e. tt) (λ e. k (leb-false n (h - s.row - 1) e))
      go fifteen k = cond_case P (leb 1 (h - s.row - 1)) _ _ (λ e. tt) (λ e. k (leb-false 1 (h - s.row - 1) e))

  allowed_free : (i : Item) (s : State) → Free s.repeat i → Allowed i s
  allowed_free (run n) s q = tt
  allowed_free (fourteen n) s q = free_none s.repeat q
  allowed_free fifteen s q = free_none s.repeat q

  pub item_first : (s : State) (xs : List ℕ) (i : Item) (rest : List ℕ) → Nybbles xs → item_of f s.repeat xs ≡ ok (i, rest) → First f s xs i rest
  item_first s xs i rest n e =
      let k = item_took f s.repeat xs i rest hf n e in
      record { number = k.number; allowed = allowed_free i s k.free; nybbles = k.cut }

  -- and so that of a turn.
  turn_fault : (s : State) (xs : List ℕ) → s.row < h → Nybbles xs → IfFault (Fault f w h s xs) (turn f w h s xs)
  unfolding turn
  turn_fault s xs l n =
      bind_fault (Fault f w h s xs) (item_of f s.repeat xs) _ (item_fault s xs l n)
      (λ t e. bind_fault (Fault f w h s xs) (after_item w h t.0 s) _ (after_fault s xs t.0 t.1 l (item_first s xs t.0 t.1 n e)) (λ u q. tt))

  finish_fault : (s : State) (xs : List ℕ) → h ≤ s.row → IfFault (Fault f w h s xs) (finish xs)
  unfolding finish
  finish_fault s [] l = tt
  finish_fault s (zero ∷ []) l = tt
  finish_fault s (zero ∷ x ∷ xs) l = left l (λ e. let z : ◌≡◌ {A = ℕ} 0 1 = cc in omega arith) (λ e. let z : ◌≡◌ {A = ℕ} 0 1 = cc in omega arith)
  finish_fault s (suc x ∷ xs) l = left l (λ e. let z : ◌≡◌ {A = ℕ} 0 1 = cc in omega arith) (λ e. let z : suc x ≡ 0 = cc in omega arith)

  -- All items.

  -- Items in order lead from the state s and the nybbles xs to the fault x.
  record Stops (s : State) (xs : List ℕ) (x : Refusal) : Type 0 where
    state : State
    rest : List ℕ
    leads : Leads f w h s xs state rest
    fault : Fault f w h state rest x

  stops_here : (s : State) (xs : List ℕ) (x : Refusal) → Fault f w h s xs x → Stops s xs x
  stops_here s xs x e = record { state = s; rest = xs; leads = none; fault = e }

  pub shorter : (i : Item) (xs rest : List ℕ) → Number i → xs ≡ written f i ++ rest → length rest < length xs
  unfolding writings
  shorter i xs rest n e =
      omega (arith, enough f (i ∷ []) hf (n, tt), length-append (written f i) [], ap length e, length-append (written f i) rest)

  -- A turn's item, and what is behind it.
  record Turned (s : State) (xs : List ℕ) (t : Item × State × List ℕ) : Type 0 where
    first : First f s xs t.0 t.2
    after : after_item w h t.0 s ≡ ok t.1
    nybs : Nybbles t.2
    less : length t.2 < length xs

  turned : (s : State) (xs : List ℕ) (t : Item × State × List ℕ) → Nybbles xs → turn f w h s xs ≡ ok t → Turned s xs t
  turned s xs t n e =
      let o = turn_ok f w h s xs t e in
      let a = item_first s xs t.0 t.2 n o.0 in
      record {
        first = a;
        after = o.1;
        nybs = nybs_rest (written f t.0) t.2 (subst Nybbles a.nybbles n);
        less = shorter t.0 xs t.2 a.number a.nybbles;
      }

  stops_later : (s : State) (xs : List ℕ) (t : Item × State × List ℕ) (x : Refusal) → s.row < h → Turned s xs t → Stops t.1 t.2 x → Stops s xs x
  stops_later s xs t x l v b =
      record { state = b.state; rest = b.rest; leads = more t.0 l v.first v.after b.leads; fault = b.fault }

  -- g bounds the nybbles.
  walk_stops : (g : ℕ) (s : State) (xs : List ℕ) → Nybbles xs → length xs ≤ g → IfFault (Stops s xs) (walk g f w h s xs)
  walk_stops zero s (x ∷ xs) n u = absurd (omega arith)
  walk_stops zero s [] n u =
      split h s.row (λ l. rw (walk_full zero f w h s [] l) (fault_to (finish []) (stops_here s []) (finish_fault s [] l)))
      (λ l. rw (walk_none f w h s [] l) (stops_here s [] raster_ends (unfinished l (nothing_left s))))
  walk_stops (suc g) s xs n u =
      split h s.row (λ l. rw (walk_full (suc g) f w h s xs l) (fault_to (finish xs) (stops_here s xs) (finish_fault s xs l)))
      (λ l. rw (walk_next g f w h s xs l)
      (bind_fault (Stops s xs) (turn f w h s xs) _ (fault_to (turn f w h s xs) (stops_here s xs) (turn_fault s xs l n))
      (λ t e. let v = turned s xs t n e in
      bind_fault (Stops s xs) (walk g f w h t.1 t.2) _
      (fault_to (walk g f w h t.1 t.2) (λ x. stops_later s xs t x l v) (walk_stops g t.1 t.2 v.nybs (omega (arith, v.less)))) (λ is q. tt))))

-- Any raster.

runs_fault : (f w h : ℕ) (bytes : List ℕ) → 0 < w → f ≤ 13 → Bytes bytes → IfFault (RasterFault f w h bytes) (reading f w h bytes)
unfolding reading
runs_fault f w h bytes p hf b =
    let xs = nybbles bytes in
    fault_to (walk (length xs) f w h start xs) (λ x q. in_items q.state q.rest p hf q.leads q.fault)
    (walk_stops f w h hf (length xs) start xs (bytes_nybbles bytes b) (omega arith))

bits_fault : (f w h : ℕ) (bytes : List ℕ) → 0 < w → f ≡ 14 → IfFault (RasterFault f w h bytes) (bits_read (w * h) (bytes_of_bits (w * h)) bytes)
unfolding bits_read
bits_fault f w h bytes p e =
    let n = w * h in
    let k = bytes_of_bits n in
    let P = IfFault {A = List Item} (RasterFault f w h bytes) in
    need_case P (leb k (length bytes)) raster_ends _ (λ a. few_bytes p e (leb-false k (length bytes) a)) λ a.
    need_case P (leb (length bytes) k) left_over _ (λ b. many_bytes p e (leb-false (length bytes) k b)) λ b.
    need_case P (all 0 (drop n (bits bytes))) left_over _ (spare_bits p e (le_antisymm (leb-true (length bytes) k b) (leb-true k (length bytes) a))) λ c. tt

none_fault : (f h : ℕ) (bytes : List ℕ) → h ≡ 0 → IfFault (RasterFault f 0 h bytes) (none_read bytes)
unfolding none_read
none_fault f h [] e = tt
none_fault f h (b ∷ bytes) e = none_wanted refl e (omega arith)

-- A raster's refusal is the fault of its bytes.
pub items_fault : (f w h : ℕ) (bytes : List ℕ) → f ≤ 14 → in_limits w h ≡ true → Bytes bytes → IfFault (RasterFault f w h bytes) (items f w h bytes)
unfolding items
items_fault f zero h bytes hf l b = none_fault f h bytes (limits_none h l)
items_fault f (suc w) h bytes hf l b =
    cond_case (IfFault (RasterFault f (suc w) h bytes)) (eqb f 14) _ _ (λ e. bits_fault f (suc w) h bytes (omega arith) (eqb-true f 14 e)) λ e.
    let n = eqb-false f 14 e in
    runs_fault f (suc w) h bytes (omega arith) (omega arith) b
