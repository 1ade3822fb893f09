-- What the call's promise means (the letter's second demand): it answers in one of six ways, and gives each refusal exactly where it must; what it writes is the packet that 01's choice
-- rules name, which says the measures and draws the bitmap; no refusal writes; and any two answers that the promise allows are equal. Assumes nothing.
use Prim.Native.Nat.{ℕ, ◌≤◌, ◌<◌}
use mathlib.Core.Path.{◌≡◌, refl, sym, ap, ◌∙◌}
use mathlib.Core.Logic.{◌↔◌}
use mathlib.Core.Bool.{Bool, true, false}
use mathlib.Core.List.{List, ◌++◌}
use native.Mathlib.Omega.{arith}
use lib.ListN.{length, take, drop}
use lib.Seq.{take_at}
use Rattle.format.specs.Limits.{within_limits, is_code}
use Rattle.format.specs.Refusals.{bad_code, no_room, bitmap_outside_limits, bad_bitmap, no_form, Answer, gives, refused, answers, lent, says, refuses, told}
use Rattle.format.specs.Measures as F
use Rattle.format.specs.Pieces.{Form, Packet, packet, bytes_of}
use Rattle.format.specs.Choice.{holds, FirstHeld}
use Rattle.format.specs.Packing.{is_bitmap, choice_in, choice_bytes, pack, pack_answer, pack_buffer, PackedOf}
use Rattle.format.proofs.FormLaws.{first_is}
use Rattle.format.proofs.PackTheorems as T
use Rattle.format.proofs.PackTheorems.{packed_is, Ways, one_of_six}
use Rattle.pack.specs.Answer.{in_numbers}
use Rattle.std.specs.declared.result.Result.{Result}
use Rattle.refusals.specs.declared.Refused.{Refused}
use Rattle.refusals.proofs.AnswerLaws.{one_numbers}

-- One answer.

pub one_number : (r t : Result ℕ Refused) → in_numbers r ≡ in_numbers t → r ≡ t
one_number r t e = one_numbers (λ (n : ℕ). n) (λ a b i. i) r t e

-- Any two answers that the promise allows are equal, and so are the buffers that it allows: no other packet is allowed.
pub one_answer : (b : List ℕ) (m : F.Measures) (buffer : List ℕ) (r t : Result ℕ Refused) (after after' : List ℕ)
    → in_numbers r ≡ told (pack_answer b m buffer) → after ≡ pack_buffer b m buffer → in_numbers t ≡ told (pack_answer b m buffer) → after' ≡ pack_buffer b m buffer → (r ≡ t) × (after ≡ after')
one_answer b m buffer r t after after' e o f q = (one_number r t (e ∙ sym f), o ∙ sym q)

-- What it says.

-- An answer r that the promise allows of a bitmap b with measures m and a lent buffer, and what the buffer holds afterwards.
module _ (b : List ℕ) (m : F.Measures) (buffer : List ℕ) (r : Result ℕ Refused) (after : List ℕ) (promised : in_numbers r ≡ told (pack_answer b m buffer)) (left : after ≡ pack_buffer b m buffer) where
  answer_of : (a : Answer (List ℕ)) → pack b m (length buffer) ≡ a → in_numbers r ≡ told (answers length a)
  unfolding pack_answer
  answer_of a e = promised ∙ rw e refl

  buffer_of : (a : Answer (List ℕ)) → pack b m (length buffer) ≡ a → after ≡ lent (λ x. x) a buffer
  unfolding pack_buffer
  buffer_of a e = left ∙ rw e refl

  -- No refusal writes.
  pub refused_untouched : (number place : ℕ) → in_numbers r ≡ refuses number place → after ≡ buffer
  unfolding told answers lent
  refused_untouched number place e = go (pack b m (length buffer)) refl
    where
      go : (a : Answer (List ℕ)) → pack b m (length buffer) ≡ a → after ≡ buffer
      go (gives t) q = absurd (let z = sym e ∙ answer_of (gives t) q in let z : ◌≡◌ {A = ℕ} 0 1 = cc in omega arith)
      go (refused x at) q = buffer_of (refused x at) q

  -- A length n: as many bytes are a packet that 01 allows, which says the measures and draws the bitmap, and the bytes beyond stay.
  pub packed_says : (n : ℕ) → in_numbers r ≡ says n → PackedOf b m (take n after) × (after ≡ take n after ++ drop n buffer)
  unfolding told answers lent
  packed_says n e = go (pack b m (length buffer)) refl
    where
      go : (a : Answer (List ℕ)) → pack b m (length buffer) ≡ a → PackedOf b m (take n after) × (after ≡ take n after ++ drop n buffer)
      go (refused x at) q = absurd (let z = sym e ∙ answer_of (refused x at) q in let z : ◌≡◌ {A = ℕ} 0 1 = cc in omega arith)
      go (gives bytes) q =
          let z = sym (answer_of (gives bytes) q) ∙ e in
          let k : length bytes ≡ n = cc in
          let o : after ≡ bytes ++ drop n buffer = buffer_of (gives bytes) q ∙ rw k refl in
          let t : take n after ≡ bytes = rw o (take_at bytes (drop n buffer) n k) in
          (rw t (packed_is b m (length buffer) bytes q), rw t o)

  -- The six ways in which it answers, in 01's order, and what each says; `choice_in` is the packet that 01's choice rules name in a form.
  pub data Answered : Type 0 where
    eighteen : within_limits m.w m.h ≡ false → in_numbers r ≡ refuses 18 0 → after ≡ buffer → Answered
    nineteen : within_limits m.w m.h ≡ true → is_bitmap b m ≡ false → in_numbers r ≡ refuses 19 0 → after ≡ buffer → Answered
    eight : within_limits m.w m.h ≡ true → is_bitmap b m ≡ true → is_code m.code ≡ false → in_numbers r ≡ refuses 8 0 → after ≡ buffer → Answered
    twenty : within_limits m.w m.h ≡ true → is_bitmap b m ≡ true → is_code m.code ≡ true
        → ((k : Form) → holds m (choice_in b m k) ≡ false) → in_numbers r ≡ refuses 20 0 → after ≡ buffer → Answered
    seventeen : within_limits m.w m.h ≡ true → is_bitmap b m ≡ true → is_code m.code ≡ true
        → (k : Form) → FirstHeld m (choice_in b m) k → length buffer < length (choice_bytes b m k) → in_numbers r ≡ refuses 17 0 → after ≡ buffer → Answered
    packs : within_limits m.w m.h ≡ true → is_bitmap b m ≡ true → is_code m.code ≡ true
        → (k : Form) → FirstHeld m (choice_in b m) k → length (choice_bytes b m k) ≤ length buffer
        → in_numbers r ≡ says (length (choice_bytes b m k))
        → after ≡ choice_bytes b m k ++ drop (length (choice_bytes b m k)) buffer → Answered

  pub one_of_these : Answered
  unfolding told answers lent
  one_of_these = go (one_of_six b m (length buffer))
    where
      go : Ways b m (length buffer) → Answered
      go (T.eighteen l q) = eighteen l (answer_of (refused bitmap_outside_limits 0) q) (buffer_of (refused bitmap_outside_limits 0) q)
      go (T.nineteen l p q) = nineteen l p (answer_of (refused bad_bitmap 0) q) (buffer_of (refused bad_bitmap 0) q)
      go (T.eight l p c q) = eight l p c (answer_of (refused bad_code 0) q) (buffer_of (refused bad_code 0) q)
      go (T.twenty l p c k q) = twenty l p c k (answer_of (refused no_form 0) q) (buffer_of (refused no_form 0) q)
      go (T.seventeen l p c k g n q) = seventeen l p c k g n (answer_of (refused no_room 0) q) (buffer_of (refused no_room 0) q)
      go (T.packs l p c k g n q) = packs l p c k g n (answer_of (gives (choice_bytes b m k)) q) (buffer_of (gives (choice_bytes b m k)) q)

  -- Each refusal exactly where it must be.

  -- A bitmap and a code within the limits.
  abbrev pub Judged : Type 0
  Judged = (within_limits m.w m.h ≡ true) × (is_bitmap b m ≡ true) × (is_code m.code ≡ true)

  other : {A : Type 0} (n k : ℕ) → in_numbers r ≡ refuses n 0 → in_numbers r ≡ refuses k 0 → (n ≡ k → ⊥) → A
  other n k e f d = absurd (let y = sym e ∙ f in let z : n ≡ k = cc in d z)

  never : {A : Type 0} (n k : ℕ) → in_numbers r ≡ refuses n 0 → in_numbers r ≡ says k → A
  never n k e f = absurd (let y = sym e ∙ f in let z : ◌≡◌ {A = ℕ} 0 1 = cc in omega arith)

  both : {A : Type 0} {x : Bool} → x ≡ true → x ≡ false → A
  both e f = absurd (let y = sym e ∙ f in let z : ◌≡◌ {A = ℕ} 0 1 = cc in omega arith)

  -- No form is first where none holds, and the first has one packet.
  held_none : {A : Type 0} (k : Form) → FirstHeld m (choice_in b m) k → ((k : Form) → holds m (choice_in b m k) ≡ false) → A
  held_none k f x = both f.held (x k)

  same_bytes : (j k : Form) → FirstHeld m (choice_in b m) j → FirstHeld m (choice_in b m) k → length (choice_bytes b m j) ≡ length (choice_bytes b m k)
  same_bytes j k f g =
      let y = sym (first_is m (choice_in b m) j f) ∙ first_is m (choice_in b m) k g in
      let z : choice_in b m j ≡ choice_in b m k = cc in
      ap (λ (x : Packet). length (bytes_of (packet x))) z

  pub eighteen_exactly : (in_numbers r ≡ refuses 18 0) ↔ (within_limits m.w m.h ≡ false)
  eighteen_exactly = ((λ e. there e one_of_these), (λ t. back t one_of_these))
    where
      there : in_numbers r ≡ refuses 18 0 → Answered → (within_limits m.w m.h ≡ false)
      there e (eighteen l q u) = l
      there e (nineteen l p q u) = other 18 19 e q (λ d. omega arith)
      there e (eight l p c q u) = other 18 8 e q (λ d. omega arith)
      there e (twenty l p c x q u) = other 18 20 e q (λ d. omega arith)
      there e (seventeen l p c k f g q u) = other 18 17 e q (λ d. omega arith)
      there e (packs l p c k f g q u) = never 18 _ e q

      back : (within_limits m.w m.h ≡ false) → Answered → in_numbers r ≡ refuses 18 0
      back t (eighteen l q u) = q
      back t (nineteen l p q u) = both l (t)
      back t (eight l p c q u) = both l (t)
      back t (twenty l p c x q u) = both l (t)
      back t (seventeen l p c k f g q u) = both l (t)
      back t (packs l p c k f g q u) = both l (t)

  pub nineteen_exactly : (in_numbers r ≡ refuses 19 0) ↔ ((within_limits m.w m.h ≡ true) × (is_bitmap b m ≡ false))
  nineteen_exactly = ((λ e. there e one_of_these), (λ t. back t one_of_these))
    where
      there : in_numbers r ≡ refuses 19 0 → Answered → ((within_limits m.w m.h ≡ true) × (is_bitmap b m ≡ false))
      there e (eighteen l q u) = other 19 18 e q (λ d. omega arith)
      there e (nineteen l p q u) = (l, p)
      there e (eight l p c q u) = other 19 8 e q (λ d. omega arith)
      there e (twenty l p c x q u) = other 19 20 e q (λ d. omega arith)
      there e (seventeen l p c k f g q u) = other 19 17 e q (λ d. omega arith)
      there e (packs l p c k f g q u) = never 19 _ e q

      back : ((within_limits m.w m.h ≡ true) × (is_bitmap b m ≡ false)) → Answered → in_numbers r ≡ refuses 19 0
      back t (eighteen l q u) = both t.0 l
      back t (nineteen l p q u) = q
      back t (eight l p c q u) = both p t.1
      back t (twenty l p c x q u) = both p t.1
      back t (seventeen l p c k f g q u) = both p t.1
      back t (packs l p c k f g q u) = both p t.1

  pub eight_exactly : (in_numbers r ≡ refuses 8 0) ↔ ((within_limits m.w m.h ≡ true) × (is_bitmap b m ≡ true) × (is_code m.code ≡ false))
  eight_exactly = ((λ e. there e one_of_these), (λ t. back t one_of_these))
    where
      there : in_numbers r ≡ refuses 8 0 → Answered → ((within_limits m.w m.h ≡ true) × (is_bitmap b m ≡ true) × (is_code m.code ≡ false))
      there e (eighteen l q u) = other 8 18 e q (λ d. omega arith)
      there e (nineteen l p q u) = other 8 19 e q (λ d. omega arith)
      there e (eight l p c q u) = (l, p, c)
      there e (twenty l p c x q u) = other 8 20 e q (λ d. omega arith)
      there e (seventeen l p c k f g q u) = other 8 17 e q (λ d. omega arith)
      there e (packs l p c k f g q u) = never 8 _ e q

      back : ((within_limits m.w m.h ≡ true) × (is_bitmap b m ≡ true) × (is_code m.code ≡ false)) → Answered → in_numbers r ≡ refuses 8 0
      back t (eighteen l q u) = both t.0 l
      back t (nineteen l p q u) = both t.1 p
      back t (eight l p c q u) = q
      back t (twenty l p c x q u) = both c t.2
      back t (seventeen l p c k f g q u) = both c t.2
      back t (packs l p c k f g q u) = both c t.2

  pub twenty_exactly : (in_numbers r ≡ refuses 20 0) ↔ (Judged × ((k : Form) → holds m (choice_in b m k) ≡ false))
  twenty_exactly = ((λ e. there e one_of_these), (λ t. back t one_of_these))
    where
      there : in_numbers r ≡ refuses 20 0 → Answered → (Judged × ((k : Form) → holds m (choice_in b m k) ≡ false))
      there e (eighteen l q u) = other 20 18 e q (λ d. omega arith)
      there e (nineteen l p q u) = other 20 19 e q (λ d. omega arith)
      there e (eight l p c q u) = other 20 8 e q (λ d. omega arith)
      there e (twenty l p c x q u) = ((l, p, c), x)
      there e (seventeen l p c k f g q u) = other 20 17 e q (λ d. omega arith)
      there e (packs l p c k f g q u) = never 20 _ e q

      back : (Judged × ((k : Form) → holds m (choice_in b m k) ≡ false)) → Answered → in_numbers r ≡ refuses 20 0
      back t (eighteen l q u) = both t.0.0 l
      back t (nineteen l p q u) = both t.0.1 p
      back t (eight l p c q u) = both t.0.2 c
      back t (twenty l p c x q u) = q
      back t (seventeen l p c k f g q u) = held_none k f t.1
      back t (packs l p c k f g q u) = held_none k f t.1

  pub seventeen_exactly : (in_numbers r ≡ refuses 17 0) ↔ (Judged × ((k : Form) × FirstHeld m (choice_in b m) k × (length buffer < length (choice_bytes b m k))))
  seventeen_exactly = ((λ e. there e one_of_these), (λ t. back t one_of_these))
    where
      there : in_numbers r ≡ refuses 17 0 → Answered → (Judged × ((k : Form) × FirstHeld m (choice_in b m) k × (length buffer < length (choice_bytes b m k))))
      there e (eighteen l q u) = other 17 18 e q (λ d. omega arith)
      there e (nineteen l p q u) = other 17 19 e q (λ d. omega arith)
      there e (eight l p c q u) = other 17 8 e q (λ d. omega arith)
      there e (twenty l p c x q u) = other 17 20 e q (λ d. omega arith)
      there e (seventeen l p c k f g q u) = ((l, p, c), (k, f, g))
      there e (packs l p c k f g q u) = never 17 _ e q

      back : (Judged × ((k : Form) × FirstHeld m (choice_in b m) k × (length buffer < length (choice_bytes b m k)))) → Answered → in_numbers r ≡ refuses 17 0
      back t (eighteen l q u) = both t.0.0 l
      back t (nineteen l p q u) = both t.0.1 p
      back t (eight l p c q u) = both t.0.2 c
      back t (twenty l p c x q u) = held_none t.1.0 t.1.1 x
      back t (seventeen l p c k f g q u) = q
      back t (packs l p c k f g q u) = absurd (let z = same_bytes k t.1.0 f t.1.1 in let y = t.1.2 in omega arith)
