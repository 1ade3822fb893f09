-- How many nybbles a number and a run take. Assumes nothing.
use Prim.Native.Nat.{ℕ, zero, suc, ◌+◌, ◌-◌, ◌*◌, ◌/◌, ◌%◌, ◌≤◌, ◌<◌}
use mathlib.Core.Path.{◌≡◌, refl, ap, ◌∙◌}
use mathlib.Core.List.{List, [], ◌∷◌, ◌++◌}
use native.Mathlib.Omega.{arith}
use lib.ListN.{length, length-append}
use borrow.Author.Tests.{lt-leb, lt-ltb, le-ltb}
use Rattle.format.specs.Packed.{limit, large, encode}
use Rattle.format.specs.Rasters.{Item, run, fourteen, fifteen, written, writings}
use Rattle.format.specs.Counts.{before}
use Rattle.format.specs.Choice.{nybble_count}
use Rattle.format.proofs.Tests.{split}
use Rattle.format.proofs.PackedLaws.{large_one, large_more, length_one, length_two}
use Rattle.size.specs.Sizes.{Few, over, short_nybbles, digit_nybbles}

-- Numbers.

long_one : (k : ℕ) → k < 16 → length (large k) ≡ 1
long_one k h = ap length (large_one k h)

long_more : (k : ℕ) → 16 ≤ k → length (large k) ≡ 2 + length (large (k / 16))
long_more k h = ap length (large_more k h) ∙ omega (arith, length-append (large (k / 16)) (k % 16 ∷ []))

-- A digit more makes two nybbles more.
long_by : (low high n : ℕ) → ((j : ℕ) → low ≤ j → j < high → length (large j) ≡ n) → (k : ℕ) → 1 ≤ low → 16 * low ≤ k → k < 16 * high → length (large k) ≡ 2 + n
long_by low high n g k o h l = omega (arith, long_more k (omega arith), g (k / 16) (omega arith) (omega arith))

-- Two, three, four and five digits.
long_two : (k : ℕ) → 16 ≤ k → k < 256 → length (large k) ≡ 3
long_two k h l = long_by 1 16 1 (λ j _ t. long_one j t) k (omega arith) (omega arith) (omega arith)

long_three : (k : ℕ) → 256 ≤ k → k < 4096 → length (large k) ≡ 5
long_three k h l = long_by 16 256 3 long_two k (omega arith) (omega arith) (omega arith)

long_four : (k : ℕ) → 4096 ≤ k → k < 65536 → length (large k) ≡ 7
long_four k h l = long_by 256 4096 5 long_three k (omega arith) (omega arith) (omega arith)

long_five : (k : ℕ) → 65536 ≤ k → k < 1048576 → length (large k) ≡ 9
long_five k h l = long_by 4096 65536 7 long_four k (omega arith) (omega arith) (omega arith)

-- Tests as numbers.

-- A test counts nothing or one.
over_no : (most n : ℕ) → n ≤ most → over most n ≡ 0
unfolding over
over_no most n h = rw (le-ltb most n h) refl

over_yes : (most n : ℕ) → most < n → over most n ≡ 1
unfolding over
over_yes most n h = rw (lt-ltb most n h) refl

-- It counts the same where both are moved by as much.
over_move : (a m b n : ℕ) → a + n ≡ b + m → over a m ≡ over b n
over_move a m b n e = split (suc a) m (λ t. omega (arith, over_yes a m t, over_yes b n (omega arith))) (λ t. omega (arith, over_no a m (omega arith), over_no b n (omega arith)))

-- The sum and the shift are the test, and one more.
pub is_over : (most n : ℕ) → most ≤ 131071 → n ≤ 65536 → Few (over most n) 1 ((n + 131071 - most) / 131072)
is_over most n h l = record { is = split (suc most) n (λ t. omega (arith, over_yes most n t)) (λ t. omega (arith, over_no most n (omega arith))); few = omega arith }

pub is_two : (most n : ℕ) → most ≤ 131071 → n ≤ 65536 → Few (1 + over most n) 2 ((n + 262143 - most) / 131072)
is_two most n h l = record { is = omega (arith, (is_over most n h l).is); few = omega arith }

over_few : (most n : ℕ) → over most n ≤ 1
over_few most n = split (suc most) n (λ t. omega (arith, over_yes most n t)) (λ t. omega (arith, over_no most n (omega arith)))

-- A packed number.

-- Two digits make three nybbles, and each above the second two more.
large_over : (k : ℕ) → 16 ≤ k → k < 1048576 → length (large k) ≡ 3 + 2 * (over 255 k + over 4095 k + over 65535 k)
large_over k h l =
    split 256 k
    (λ u. let a = over_yes 255 k u in split 4096 k
    (λ v. let b = over_yes 4095 k v in split 65536 k
    (λ w. omega (arith, long_five k w l, over_yes 65535 k w))
    (λ w. omega (arith, long_four k v w, over_no 65535 k (omega arith))))
    (λ v. omega (arith, long_three k u v, over_no 4095 k (omega arith), over_no 65535 k (omega arith))))
    (λ u. omega (arith, long_two k h u, over_no 255 k (omega arith), over_no 4095 k (omega arith), over_no 65535 k (omega arith)))

large_length : (f n : ℕ) → f < n → limit f < n → length (encode f n) ≡ length (large (n - limit f + 15))
unfolding encode
large_length f n h l = rw (lt-leb n f h, lt-leb n (limit f) l) refl

module _ (f n : ℕ) where
  -- There are three and six of them at most.
  pub short_few : short_nybbles f n ≤ 3
  short_few = omega (arith, over_few f n, over_few (limit f) n)

  digit_few : digit_nybbles f n ≤ 6
  digit_few = omega (arith, over_few (limit f + 240) n, over_few (limit f + 4080) n, over_few (limit f + 65520) n)

  -- Up to the limit and 240 more there is no third digit.
  no_digits : n ≤ limit f + 240 → digit_nybbles f n ≡ 0
  no_digits t = omega (arith, over_no (limit f + 240) n t, over_no (limit f + 4080) n (omega arith), over_no (limit f + 65520) n (omega arith))

  -- Above the limit the digits are those of n − M + 15.
  digits : limit f < n → digit_nybbles f n ≡ 2 * (over 255 (n - limit f + 15) + over 4095 (n - limit f + 15) + over 65535 (n - limit f + 15))
  digits t =
      let k = n - limit f + 15 in
      omega (arith, over_move (limit f + 240) n 255 k (omega arith), over_move (limit f + 4080) n 4095 k (omega arith), over_move (limit f + 65520) n 65535 k (omega arith))

  -- A number has its nybbles up to the third, and those from the fourth on.
  pub encode_length : f ≤ 13 → n ≤ 65536 → length (encode f n) ≡ short_nybbles f n + digit_nybbles f n
  encode_length h l =
      split (suc f) n
      (λ s. split (suc (limit f)) n
      (λ t. omega (arith, large_length f n s t, large_over (n - limit f + 15) (omega arith) (omega arith), digits t, over_yes f n s, over_yes (limit f) n t))
      (λ t. omega (arith, length_two f n s (omega arith), no_digits (omega arith), over_yes f n s, over_no (limit f) n (omega arith))))
      (λ s. omega (arith, length_one f n (omega arith), no_digits (omega arith), over_no f n (omega arith), over_no (limit f) n (omega arith)))

  -- Up to 253 the first are all.
  pub encode_short : f ≤ 13 → n ≤ 253 → length (encode f n) ≡ short_nybbles f n
  encode_short h l = omega (arith, encode_length h (omega arith), no_digits (omega arith))

  encode_few : f ≤ 13 → n ≤ 65536 → length (encode f n) ≤ 9
  encode_few h l = omega (arith, encode_length h l, short_few, digit_few)

-- Items.

pub count_nil : (f : ℕ) → nybble_count [] f ≡ 0
unfolding nybble_count writings
count_nil f = refl

count_cons : (f : ℕ) (i : Item) (is : List Item) → nybble_count (i ∷ is) f ≡ length (written f i) + nybble_count is f
unfolding nybble_count writings
count_cons f i is = length-append (written f i) (writings f is)

pub count-append : (f : ℕ) (is js : List Item) → nybble_count (is ++ js) f ≡ nybble_count is f + nybble_count js f
count-append f [] js = omega (arith, count_nil f)
count-append f (i ∷ is) js = omega (arith, count_cons f i (is ++ js), count_cons f i is, count-append f is js)

count_run : (f k : ℕ) (is : List Item) → nybble_count (run k ∷ is) f ≡ length (encode f k) + nybble_count is f
unfolding written
count_run f k is = count_cons f (run k) is

count_fifteen : (f : ℕ) (is : List Item) → nybble_count (fifteen ∷ is) f ≡ 1 + nybble_count is f
unfolding written
count_fifteen f is = count_cons f fifteen is

count_fourteen : (f n : ℕ) (is : List Item) → nybble_count (fourteen n ∷ is) f ≡ 1 + length (encode f n) + nybble_count is f
unfolding written
count_fourteen f n is = omega (arith, count_cons f (fourteen n) is)

-- A repeat before items.
count_before : (f m : ℕ) (is : List Item) → nybble_count (before m is) f ≡ nybble_count (before m []) f + nybble_count is f
unfolding before
count_before f zero is = omega (arith, count_nil f)
count_before f (suc zero) is = omega (arith, count_fifteen f is, count_fifteen f [], count_nil f)
count_before f (suc (suc m)) is = omega (arith, count_fourteen f (suc (suc m)) is, count_fourteen f (suc (suc m)) [], count_nil f)

-- The nybbles of no repeat, of a repeat of 1, and of a larger one.
repeat_none : (f m : ℕ) → m ≡ 0 → nybble_count (before m []) f ≡ 0
unfolding before
repeat_none f m e = rw e (count_nil f)

pub repeat_one : (f m : ℕ) → m ≡ 1 → nybble_count (before m []) f ≡ 1
unfolding before
repeat_one f m e = rw e (omega (arith, count_fifteen f [], count_nil f))

pub repeat_more : (f m : ℕ) → 2 ≤ m → nybble_count (before m []) f ≡ 1 + length (encode f m)
unfolding before
repeat_more f zero h = absurd (omega arith)
repeat_more f (suc zero) h = absurd (omega arith)
repeat_more f (suc (suc m)) h = omega (arith, count_fourteen f (suc (suc m)) [], count_nil f)

-- There are ten at most: a 14 and a number of nine.
pub repeat_few : (f m : ℕ) → f ≤ 13 → m ≤ 65536 → nybble_count (before m []) f ≤ 10
repeat_few f m h l =
    split 2 m
    (λ t. omega (arith, repeat_more f m t, encode_few f m h l))
    (λ t. split 1 m (λ s. omega (arith, repeat_one f m (omega arith))) (λ s. omega (arith, repeat_none f m (omega arith))))

-- A run behind a repeat, and behind none.
pub run_behind : (f k m : ℕ) → nybble_count (before m (run k ∷ [])) f ≡ nybble_count (before m []) f + length (encode f k)
run_behind f k m = omega (arith, count_before f m (run k ∷ []), count_run f k [], count_nil f)

pub run_first : (f k m : ℕ) → m ≡ 0 → nybble_count (before m (run k ∷ [])) f ≡ length (encode f k)
run_first f k m e = omega (arith, run_behind f k m, repeat_none f m e)

-- It takes 19 with its repeat at most.
pub run_few : (f k m : ℕ) → f ≤ 13 → k ≤ 65536 → m ≤ 65536 → nybble_count (before m (run k ∷ [])) f ≤ 19
run_few f k m h l p = omega (arith, run_behind f k m, repeat_few f m h p, encode_few f k h l)

-- The nybbles up to the third, and from the fourth on, as sums of tests of the limit m.
pub short_sum : (f n m a b : ℕ) → Few (limit f) 208 m → Few (1 + over f n) 2 a → Few (over m n) 1 b → Few (short_nybbles f n) 3 (a + b)
short_sum f n m a b l p q = record { is = rw (p.is, q.is, l.is) refl; few = omega (arith, p.few, q.few) }

pub digit_sum : (f n m a b c : ℕ) → Few (limit f) 208 m → Few (over (m + 240) n) 1 a → Few (over (m + 4080) n) 1 b → Few (over (m + 65520) n) 1 c
    → Few (digit_nybbles f n) 6 (2 * (a + b + c))
digit_sum f n m a b c l p q r = record { is = rw (p.is, q.is, r.is, l.is) refl; few = omega (arith, p.few, q.few, r.few) }
