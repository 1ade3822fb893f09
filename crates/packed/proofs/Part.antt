-- The nybbles of bytes from a place on, and what is read there, step by step.
-- Assumes nothing.
use Prim.Native.Nat.{ℕ, zero, suc, ◌+◌, ◌-◌, ◌*◌, ◌≤◌, ◌<◌, min}
use mathlib.Core.Path.{◌≡◌, refl, sym, ap, ◌∙◌, subst}
use mathlib.Core.List.{List, [], ◌∷◌}
use native.Mathlib.Numerals.{add-one, sub-one}
use native.Mathlib.Omega.{arith}
use lib.ListN.{length, get_or, length-drop, drop_of_length-le}
use lib.Seq.{drop-cons}
use borrow.Author.Tests.{le-leb, lt-leb}
use Rattle.format.specs.Packed.{nybbles, limit}
use Rattle.format.specs.Decoding.{value, ends, digits, zeros, shift, second, decode}
use Rattle.format.proofs.PackedLaws.{length-nybbles, zeros_first, decode_first}
use Rattle.std.specs.Prelude.{Some, None, Result, Ok, Err}
use Rattle.packed.specs.declared.Number.{Number}
use Rattle.packed.specs.declared.Unread.{Unread}
use Rattle.packed.specs.declared.Unread.TheVariants.{Ends, Mark}
use Rattle.std.proofs.lemmas.Option.{none-some, same_Some}
use Rattle.packed.specs.Answer.{from, cap, to_read, read_at, Skipped, NotShort, IsShort}

-- Fewer digits are there than are wanted.
pub digits_few : (l k : ℕ) (xs : List ℕ) → length xs < l → digits l k xs ≡ ends
unfolding digits
digits_few zero k xs h = absurd (omega arith)
digits_few (suc l) k [] h = refl
digits_few (suc l) k (x ∷ xs) h = digits_few l (k * 16 + x) xs (omega arith)

-- A number that is read, by its parts.
pub number_is : {a b c d : ℕ} → a ≡ b → c ≡ d → ◌≡◌ {A = Result Number Unread} (Ok (record { n = a; next = c })) (Ok (record { n = b; next = d }))
number_is p q = cc

-- The nybbles from a place on.

module _ (s : List ℕ) where
  -- At the end there are none.
  pub from_end : (j : ℕ) → 2 * length s ≤ j → from s j ≡ []
  unfolding from
  from_end j h = drop_of_length-le (nybbles s) {i = j} (omega (arith, length-nybbles s))

  -- Before it, there is the one that stands there and those from the next place on.
  pub from_cons : (j : ℕ) → j < 2 * length s → from s j ≡ get_or (nybbles s) j 0 ∷ from s (j + 1)
  unfolding from
  from_cons j h =
      let l : j < length (nybbles s) = omega (arith, length-nybbles s) in
      rw (add-one, drop-cons (nybbles s) j 0) refl

  -- How many there are.
  pub from_length : (j : ℕ) → length (from s j) ≡ 2 * length s - j
  unfolding from
  from_length j = rw length-drop (omega (arith, length-nybbles s))

  -- One zero more.
  pub zeros_step : (j z : ℕ) → j < 2 * length s → get_or (nybbles s) j 0 ≡ 0 → zeros z (from s j) ≡ zeros (suc z) (from s (j + 1))
  unfolding zeros
  zeros_step j z h e = rw (from_cons j h, e) refl

  -- One digit more.
  pub digits_step : (j l k : ℕ) → j < 2 * length s → 0 < l
      → digits l k (from s j) ≡ digits (l - 1) (k * 16 + get_or (nybbles s) j 0) (from s (j + 1))
  unfolding digits
  digits_step j zero k h e = absurd (omega arith)
  digits_step j (suc l) k h e = rw (from_cons j h, sub-one) refl

  -- The first digit d, after the zeros from at up to j.
  pub first_digit : (at j d : ℕ) → j < 2 * length s → d ≡ get_or (nybbles s) j 0 → 0 < d
      → digits (j - at + 1) d (from s (j + 1)) ≡ zeros (1 + (j - at)) (from s j)
  first_digit at j d h e p =
      rw (from_cons j h, ← e, zeros_first (1 + (j - at)) d (from s (j + 1)) p)
      (ap (λ (n : ℕ). digits n d (from s (j + 1))) (omega arith))

  -- What is read.

  -- A number m that ends before the place j.
  pub number_at : (n m j : ℕ) → n ≡ min m cap → j ≤ 2 * length s → Ok (record { n = n; next = j }) ≡ to_read s (value m (from s j))
  unfolding to_read
  number_at n m j e h = rw (from_length j) (number_is e (omega arith))

  -- The loops' invariants.

  -- What `skip_zeros` knows at j: from at up to j there are zeros.
  pub record Passed (at j : ℕ) : Type 0 where
    pub low : at ≤ j
    pub high : j ≤ 2 * length s
    pub same : (z : ℕ) → zeros z (from s at) ≡ zeros (z + (j - at)) (from s j)

  -- At first.
  pub passed_none : (at j : ℕ) → at ≤ 2 * length s → j ≡ at → Passed at j
  passed_none at j h e = record { low = omega arith; high = omega arith; same = λ z. rw e (ap (λ (n : ℕ). zeros n (from s at)) (omega arith)) }

  -- After one zero more.
  pub passed_step : (at j k : ℕ) → Passed at j → j < 2 * length s → get_or (nybbles s) j 0 ≡ 0 → k ≡ j + 1 → Passed at k
  passed_step at j k p h e q =
      let l = p.low in
      record {
        low = omega arith;
        high = omega arith;
        same = λ z. rw q (p.same z ∙ zeros_step j (z + (j - at)) h e ∙ ap (λ (n : ℕ). zeros n (from s (j + 1))) (omega arith));
      }

  -- Where a nybble is not zero, or at the end.
  pub passed_all : (at j : ℕ) → Passed at j → (j < 2 * length s → 0 < get_or (nybbles s) j 0) → Skipped s at j
  passed_all at j p h = record { low = p.low; high = p.high; same = p.same; stop = h }

  -- What `read_digits` knows at j, where left digits are wanted and those before come to sum, held at 131,072 in k.
  pub record Summed (at z first left k j : ℕ) : Type 0 where
    pub sum : ℕ
    pub held : k ≡ min sum 131072
    pub same : digits z first (from s at) ≡ digits left sum (from s j)
    pub high : j ≤ 2 * length s
    pub some : 1 ≤ sum
    pub more : 16 ≤ sum + 15 * (left + 1 - z)

  -- At first.
  pub summed_first : (at z first left : ℕ) → at ≤ 2 * length s → 1 ≤ first → first < 16 → left ≡ z → Summed at z first left first at
  summed_first at z first left h p q e =
      record { sum = first; held = omega arith; same = rw e refl; high = h; some = p; more = omega arith }

  -- After one digit d more.
  pub summed_step : (at z first left k j d left' k' j' : ℕ) → Summed at z first left k j → j < 2 * length s → 0 < left
      → d ≡ get_or (nybbles s) j 0 → d < 16 → left' ≡ left - 1 → k' ≡ min (k * 16 + d) 131072 → j' ≡ j + 1 → Summed at z first left' k' j'
  summed_step at z first left k j d left' k' j' w h p e l a b c =
      let i = w.some in
      let m = w.more in
      let n = w.held in
      record {
        sum = w.sum * 16 + d;
        held = omega arith;
        same = rw (a, c, e) (w.same ∙ digits_step j left w.sum h p);
        high = omega arith;
        some = omega arith;
        more = omega arith;
      }

  -- Fewer nybbles are left than digits are wanted.
  pub summed_none : (at z first m : ℕ) → 2 * length s - at < z → Err Ends ≡ to_read s (shift m (digits z first (from s at)))
  unfolding to_read shift
  summed_none at z first m h = rw (digits_few z first (from s at) (omega (arith, from_length at))) refl

  -- All digits are read.
  pub summed_all : (at z first left k j m n next : ℕ) → Summed at z first left k j → left ≡ 0 → next ≡ j → 1 ≤ z → m ≤ 208 → n ≡ min (k - 15 + m) cap
      → Ok (record { n = n; next = next }) ≡ to_read s (shift m (digits z first (from s at)))
  unfolding shift digits
  summed_all at z first left k j m n next w e g p l q =
      let o = w.more in
      let d = w.held in
      rw (w.same, e, g) (number_at n (w.sum - 15 + m) j (omega arith) w.high)

  -- What `read_large` answers, by the place j past the zeros.

  module _ (at j m : ℕ) (k : Skipped s at j) where
    -- Only zeros are left.
    pub large_none : 2 * length s ≤ j → Err Ends ≡ to_read s (shift m (zeros 1 (from s at)))
    unfolding to_read shift zeros
    large_none h = rw (k.same 1, from_end j h) refl

    -- The nybble d there is the first digit, and z digits more follow.
    pub large_some : (d z : ℕ) (r : Result Number Unread) → j < 2 * length s → d ≡ get_or (nybbles s) j 0 → z ≡ j - at + 1
        → r ≡ to_read s (shift m (digits z d (from s (j + 1)))) → r ≡ to_read s (shift m (zeros 1 (from s at)))
    large_some d z r h e p q =
        q ∙ rw (k.same 1, p, first_digit at j d h e (rw e (k.stop h))) refl

  -- What `read_number` answers.

  -- At the end, nothing is read.
  pub read_past : (at f : ℕ) → 2 * length s ≤ at → Err Ends ≡ read_at s at f
  unfolding read_at to_read decode
  read_past at f h = rw (from_end at h) refl

  module _ (at f : ℕ) (h : at < 2 * length s) where
    -- The nybble there.
    abbrev pub x : ℕ
    x = get_or (nybbles s) at 0

    -- It and those after it.
    cons : from s at ≡ x ∷ from s (at + 1)
    cons = from_cons at h

    -- It is zero: the digits of a large number follow.
    pub read_zero : x ≡ 0 → (m : ℕ) (r : Result Number Unread) → m ≡ limit f → r ≡ to_read s (shift m (zeros 1 (from s (at + 1)))) → r ≡ read_at s at f
    unfolding read_at decode
    read_zero z m r p q = q ∙ rw (cons, z, p) refl

    -- It is a number by itself.
    pub read_one : 0 < x → x < 16 → x ≤ f → (a k : ℕ) → a ≡ x → k ≡ at + 1 → Ok (record { n = a; next = k }) ≡ read_at s at f
    unfolding read_at
    read_one p q r a k e g = rw (cons, decode_first f x (from s (at + 1)) p, le-leb x f r, g) (number_at a x (at + 1) (omega arith) (omega arith))

    -- It is 14 or 15.
    pub read_mark : 13 < x → f < x → Err Mark ≡ read_at s at f
    unfolding read_at to_read
    read_mark p r = rw (cons, decode_first f x (from s (at + 1)) (omega arith), lt-leb x f r, lt-leb x 13 p) refl

    -- A number of two nybbles.
    pub read_two : x ≤ 13 → f < x → at + 1 < 2 * length s → get_or (nybbles s) (at + 1) 0 < 16
        → (n k : ℕ) → n ≡ (x - f - 1) * 16 + get_or (nybbles s) (at + 1) 0 + f + 1 → k ≡ at + 2 → Ok (record { n = n; next = k }) ≡ read_at s at f
    unfolding read_at second
    read_two p r q l n k e g =
        let g' : k ≡ at + 1 + 1 = omega arith in
        rw (cons, decode_first f x (from s (at + 1)) (omega arith), lt-leb x f r, le-leb x 13 p, from_cons (at + 1) q, g')
        (number_at n ((x - f - 1) * 16 + get_or (nybbles s) (at + 1) 0 + f + 1) (at + 1 + 1) (omega arith) (omega arith))

-- What `short_at` answers.

module _ (s : List ℕ) (at f : ℕ) where
  -- None begins.
  none_short : NotShort f (from s at) → IsShort s at f None
  none_short t = record { some = λ x e. absurd (none-some x e); none = λ e. t }

  -- One does.
  some_short : (x : Number) → Ok x ≡ read_at s at f → IsShort s at f (Some x)
  some_short x t = record { some = λ y e. sym t ∙ ap Ok (same_Some x y e); none = λ e. absurd (none-some x (sym e)) }

  -- At the end.
  pub short_past : 2 * length s ≤ at → IsShort s at f None
  short_past h = none_short (rw (from_end s at h) tt)

  module _ (h : at < 2 * length s) (a : ℕ) (e : a ≡ get_or (nybbles s) at 0) where
    first : from s at ≡ a ∷ from s (at + 1)
    first = rw e (from_cons s at h)

    -- A zero begins no short number.
    pub short_zero : a ≡ 0 → IsShort s at f None
    short_zero z = none_short (rw (first, z) tt)

    -- A nybble up to f.
    pub short_one : (next : ℕ) → a < 16 → a ≤ f → 0 < a → next ≡ at + 1 → IsShort s at f (Some (record { n = a; next = next }))
    short_one next l m n p = some_short _ (read_one s at f h (omega arith) (omega arith) (omega arith) a next e p)

    -- 14 or 15.
    pub short_mark : 13 < a → f < a → IsShort s at f None
    short_mark p q = none_short (rw first (go a (from s (at + 1)) p q))
      where
        go : (a : ℕ) (ys : List ℕ) → 13 < a → f < a → NotShort f (a ∷ ys)
        go zero ys p q = absurd (omega arith)
        go (suc a) [] p q = q
        go (suc a) (b ∷ ys) p q = p

    -- A second nybble is wanted, and there is none.
    pub short_alone : f < a → 2 * length s ≤ at + 1 → IsShort s at f None
    short_alone q k = none_short (rw (first ∙ ap (λ (y : List ℕ). a ∷ y) (from_end s (at + 1) k)) (go a q))
      where
        go : (a : ℕ) → f < a → NotShort f (a ∷ [])
        go zero q = absurd (omega arith)
        go (suc a) q = q

    -- Two nybbles.
    pub short_two : (b n next : ℕ) → a ≤ 13 → f < a → at + 1 < 2 * length s → b ≡ get_or (nybbles s) (at + 1) 0 → b < 16 → n ≡ (a - f - 1) * 16 + b + f + 1 → next ≡ at + 2
        → IsShort s at f (Some (record { n = n; next = next }))
    short_two b n next l m k q i p z =
        some_short _ (read_two s at f h (omega arith) (omega arith) k (omega arith) n next (rw (← e, ← q) p) z)

    -- Where none begins, and it is neither a zero nor a mark, the nybbles end.
    pub read_alone : NotShort f (from s at) → 0 < a → a ≤ 13 → Err Ends ≡ read_at s at f
    unfolding read_at to_read second
    read_alone t p q = go (from s (at + 1)) refl
      where
        alone : (a : ℕ) → NotShort f (a ∷ []) → 0 < a → f < a
        alone zero t p = absurd (omega arith)
        alone (suc a) t p = t

        marked : (a b : ℕ) (ys : List ℕ) → NotShort f (a ∷ b ∷ ys) → 0 < a → a ≤ 13 → ⊥
        marked zero b ys t p q = omega arith
        marked (suc a) b ys t p q = omega arith

        go : (ys : List ℕ) → from s (at + 1) ≡ ys → Err Ends ≡ read_at s at f
        go [] z = rw (first, z, decode_first f a [] p, lt-leb a f (alone a (subst (NotShort f) (first ∙ ap (λ (y : List ℕ). a ∷ y) z) t) p), le-leb a 13 q) refl
        go (b ∷ ys) z = absurd (marked a b ys (subst (NotShort f) (first ∙ ap (λ (y : List ℕ). a ∷ y) z) t) p q)
