-- Items of a raster: what is written is read back, whatever follows; whatever is read was so written; so the items of nybbles are
-- determined. Assumes nothing.
use Prim.Native.Nat.{ℕ, zero, suc, ◌+◌, ◌%◌, ◌≤◌, ◌<◌}
use mathlib.Core.Path.{◌≡◌, refl, sym, ap, subst, ◌∙◌}
use mathlib.Core.List.{List, [], ◌∷◌, ◌++◌, append_assoc}
use mathlib.Core.Bool.{Bool, true, false, cond}
use native.Mathlib.Omega.{arith}
use lib.Dec.{ltb, eqb}
use lib.ListN.{length}
use borrow.Author.Tests.{le-ltb, lt-ltb, lt-leb, eq-eqb, ne_eqb}
use Rattle.format.specs.Refusals.{Result, ok, fault, ◌>>=◌, Refusal, raster_ends, second_repeat}
use Rattle.format.specs.Packed.{encode}
use Rattle.format.specs.Decoding.{Got, value, ends, mark, decode, shift, zeros}
use Rattle.format.specs.Rasters.{Item, run, fourteen, fifteen, repeat, Number, AllNumbers, written, writings, spare}
use Rattle.format.specs.Reading.{number_of, run_at, repeat_at, item_of}
use Rattle.format.proofs.Tests.{split}
use Rattle.format.proofs.PackedLaws.{Nybbles, decode_first, decode-encode, decode_written}

-- Results.

pub fault≢ : {A : Type 0} {x : Refusal} {a : A} → fault x ≡ ok a → ⊥
fault≢ e = let z : ◌≡◌ {A = ℕ} 0 1 = cc in omega arith

pub bind_ok : {A B : Type 0} (m : Result A) (f : A → Result B) {b : B} → m >>= f ≡ ok b → (a : A) × (m ≡ ok a) × (f a ≡ ok b)
unfolding ◌>>=◌
bind_ok (ok a) f e = (a, refl, e)
bind_ok (fault x) f e = absurd (fault≢ e)

number_ok : (g : Got) (t : ℕ × List ℕ) → number_of g ≡ ok t → g ≡ value t.0 t.1
unfolding number_of
number_ok (value n r) t e = let p : (n, r) ≡ t = cc in ap (λ (x : ℕ × List ℕ). value x.0 x.1) p
number_ok ends t e = absurd (fault≢ e)
number_ok mark t e = absurd (fault≢ e)

-- What is written is read back.

-- The repeat that a row has had, none for 0.
abbrev pub had : ℕ → List ℕ
had zero = []
had (suc n) = suc n ∷ []

-- An item may follow in a row that has had no repeat, or if it is none.
abbrev pub Free : ℕ → Item → Type 0
Free rep i = length (repeat i) + length (had rep) ≤ 1

pub had_once : (n : ℕ) → length (had n) ≤ 1
had_once zero = omega arith
had_once (suc n) = omega arith

-- No number begins with 14 or more.
begins : (f n x : ℕ) (xs ys : List ℕ) → f ≤ 13 → decode f (x ∷ xs) ≡ value n ys → x < 14
begins f n x xs ys hf e =
    split x 13 (λ t. omega arith)
    (λ t. let e' = rw (decode_first f x xs (omega arith), lt-leb x f (omega arith), lt-leb x 13 t) at e in
    absurd (let z : ◌≡◌ {A = ℕ} 0 1 = cc in omega arith))

item_number : (f rep n : ℕ) (xs ys : List ℕ) → f ≤ 13 → decode f xs ≡ value n ys → item_of f rep xs ≡ ok (run n, ys)
unfolding item_of run_at number_of ◌>>=◌ decode
item_number f rep n [] ys hf e = absurd (let z : ◌≡◌ {A = ℕ} 0 1 = cc in omega arith)
item_number f rep n (x ∷ xs) ys hf e = rw (lt-ltb x 14 (begins f n x xs ys hf e), e) refl

-- An item's writing is read back, whatever follows.
pub item_read : (f rep : ℕ) (i : Item) (ys : List ℕ) → f ≤ 13 → Number i → Free rep i → item_of f rep (written f i ++ ys) ≡ ok (i, ys)
unfolding item_of repeat_at number_of ◌>>=◌ written
item_read f rep (run n) ys hf p q = item_number f rep n (encode f n ++ ys) ys hf (decode-encode f n ys hf p)
item_read f zero (fourteen n) ys hf p q = rw (decode-encode f n ys hf p) refl
item_read f (suc rep) (fourteen n) ys hf p q = absurd (omega arith)
item_read f zero fifteen ys hf p q = refl
item_read f (suc rep) fifteen ys hf p q = absurd (omega arith)

-- Whatever is read was so written.

pub record Took (f rep : ℕ) (xs : List ℕ) (i : Item) (ys : List ℕ) : Type 0 where
  pub cut : xs ≡ written f i ++ ys
  pub number : Number i
  pub free : Free rep i

took_to : {f rep : ℕ} {xs : List ℕ} {i j : Item} {ys zs : List ℕ} → ◌≡◌ {A = Result (Item × List ℕ)} (ok (i, ys)) (ok (j, zs)) → Took f rep xs i ys → Took f rep xs j zs
took_to {f} {rep} {xs} {i} {j} {ys} {zs} e t =
    let p : ◌≡◌ {A = Item × List ℕ} (i, ys) (j, zs) = cc in
    subst (λ (x : Item × List ℕ). Took f rep xs x.0 x.1) p t

repeat_took : (f x : ℕ) (xs : List ℕ) (i : Item) (ys : List ℕ) → f ≤ 13 → 13 < x → x < 16 → Nybbles xs → repeat_at f x xs ≡ ok (i, ys) → Took f 0 (x ∷ xs) i ys
unfolding repeat_at written
repeat_took f x xs i ys hf l u s e =
    split 15 x
    (λ t. let x15 : x ≡ 15 = omega arith in
    took_to (rw (eq-eqb x 15 x15) at e) (record { cut = ap (λ (y : ℕ). y ∷ xs) x15; number = tt; free = omega arith }))
    (λ t. let x14 : x ≡ 14 = omega arith in
    let b = bind_ok (number_of (decode f xs)) (λ t. ok (fourteen t.0, t.1)) (rw (ne_eqb x 15 (λ z. omega arith)) at e) in
    let wr = decode_written f xs b.0.0 b.0.1 hf s (number_ok (decode f xs) b.0 b.1) in
    took_to b.2 (record { cut = cc wr.cut; number = wr.positive; free = omega arith }))

pub item_took : (f rep : ℕ) (xs : List ℕ) (i : Item) (ys : List ℕ) → f ≤ 13 → Nybbles xs → item_of f rep xs ≡ ok (i, ys) → Took f rep xs i ys
unfolding item_of run_at written
item_took f rep [] i ys hf s e = absurd (fault≢ e)
item_took f rep (x ∷ xs) i ys hf s e =
    split x 13
    (λ t. let b = bind_ok (number_of (decode f (x ∷ xs))) (λ t. ok (run t.0, t.1)) (rw (lt-ltb x 14 (omega arith)) at e) in
    let wr = decode_written f (x ∷ xs) b.0.0 b.0.1 hf s (number_ok (decode f (x ∷ xs)) b.0 b.1) in
    took_to b.2 (record { cut = wr.cut; number = wr.positive; free = omega (arith, had_once rep) }))
    (λ t. again rep (rw (le-ltb x 14 (omega arith)) at e) t)
  where
    again : (r : ℕ) → cond (ltb 0 r) (fault second_repeat) (repeat_at f x xs) ≡ ok (i, ys) → 13 < x → Took f r (x ∷ xs) i ys
    again zero e t = repeat_took f x xs i ys hf t s.0 s.1 e
    again (suc r) e t = absurd (fault≢ (rw (lt-ltb 0 (suc r) (omega arith)) at e))

-- So the items are determined.

free_none : (i : Item) → Free 0 i
free_none (run n) = omega arith
free_none (fourteen n) = omega arith
free_none fifteen = omega arith

-- No two items share a writing, and none begins another.
pub item_prefix : (f : ℕ) (i j : Item) (xs ys : List ℕ) → f ≤ 13 → Number i → Number j → written f i ++ xs ≡ written f j ++ ys → (i ≡ j) × (xs ≡ ys)
item_prefix f i j xs ys hf p q e =
    let x : ◌≡◌ {A = Result (Item × List ℕ)} (ok (i, xs)) (ok (j, ys)) =
    sym (item_read f 0 i xs hf p (free_none i)) ∙ ap (item_of f 0) e ∙ item_read f 0 j ys hf q (free_none j) in
    let y : ◌≡◌ {A = Item × List ℕ} (i, xs) (j, ys) = cc in
    (ap (λ (z : Item × List ℕ). z.0) y, ap (λ (z : Item × List ℕ). z.1) y)

-- The spare half byte is no item.
pub spare_ends : (f n : ℕ) → item_of f 0 (spare n) ≡ fault raster_ends
unfolding spare item_of run_at number_of ◌>>=◌ decode shift zeros
spare_ends f n = go (eqb (n % 2) 1)
  where
    go : (b : Bool) → item_of f 0 (cond b (0 ∷ []) []) ≡ fault raster_ends
    go true = refl
    go false = refl

-- From the nybbles of items and of what is no item the items are found again.
pub one_items : (f : ℕ) (is js : List Item) (r t : List ℕ) → f ≤ 13 → AllNumbers is → AllNumbers js → item_of f 0 r ≡ fault raster_ends → item_of f 0 t ≡ fault raster_ends
    → writings f is ++ r ≡ writings f js ++ t → (is ≡ js) × (r ≡ t)
unfolding writings
one_items f [] [] r t hf p q a b e = (refl, e)
one_items f [] (j ∷ js) r t hf p q a b e =
    absurd (fault≢ (sym a ∙ ap (item_of f 0) (e ∙ append_assoc (written f j) (writings f js) t) ∙ item_read f 0 j (writings f js ++ t) hf q.0 (free_none j)))
one_items f (i ∷ is) [] r t hf p q a b e =
    absurd (fault≢ (sym b ∙ ap (item_of f 0) (sym e ∙ append_assoc (written f i) (writings f is) r) ∙ item_read f 0 i (writings f is ++ r) hf p.0 (free_none i)))
one_items f (i ∷ is) (j ∷ js) r t hf p q a b e =
    let x = item_prefix f i j (writings f is ++ r) (writings f js ++ t) hf p.0 q.0 (sym (append_assoc (written f i) (writings f is) r) ∙ e ∙ append_assoc (written f j) (writings f js) t) in
    let y = one_items f is js r t hf p.1 q.1 a b x.1 in
    (rw (x.0, y.0) refl, y.1)
