-- A raster of bits is read whole exactly if it draws something: w × h pixels, and spare bits that are zero. Assumes nothing.
use Prim.Native.Nat.{ℕ, zero, suc, ◌+◌, ◌*◌, ◌≤◌}
use mathlib.Core.Path.{◌≡◌, refl, sym, ap, ◌∙◌}
use mathlib.Core.List.{List, [], ◌∷◌, ◌++◌}
use mathlib.Core.Bool.{Bool, true, false}
use native.Mathlib.Omega.{arith}
use lib.Dec.{eqb, leb}
use lib.ListN.{length, take, drop, replicate, length-append, length-drop, length-replicate, take-append-drop}
use lib.Seq.{drop_at, drop-drop, length-take-le}
use borrow.Author.Tests.{leb-true, le-leb, eqb-true, eq-eqb}
use Rattle.format.specs.Lists.{all}
use Rattle.format.specs.Refusals.{Refusal, Result, ok, ◌>>=◌, need, raster_ends, left_over}
use Rattle.format.specs.Rasters.{Item, bits_of, bits, bytes_of_bits, BitRaster}
use Rattle.format.specs.Reading.{bits_read}
use Rattle.format.proofs.Tests.{and_true}
use Rattle.format.proofs.ItemLaws.{fault≢}

-- Eight bits to a byte.
pub length-bits : (s : List ℕ) → length (bits s) ≡ 8 * length s
unfolding bits bits_of
length-bits [] = refl
length-bits (b ∷ s) = omega (arith, length-bits s)

-- The bits behind j bytes and m bits more.
pub bits_behind : (j m : ℕ) (s : List ℕ) → j ≤ length s → drop (8 * j + m) (bits s) ≡ drop m (bits (drop j s))
unfolding bits bits_of
bits_behind zero m s l = let e : 8 * 0 + m ≡ m = omega arith in rw e refl
bits_behind (suc j) m [] l = absurd (omega arith)
bits_behind (suc j) m (b ∷ s) l =
    let e : 8 * suc j + m ≡ 8 + (8 * j + m) = omega arith in
    rw (e, ← drop-drop (8 * j + m) 8 (bits (b ∷ s))) (bits_behind j m s (omega arith))

-- Every entry is c.
pub all_is : (c : ℕ) (s : List ℕ) → all c s ≡ true → s ≡ replicate (length s) c
unfolding all
all_is c [] e = refl
all_is c (x ∷ s) e = let b = and_true (eqb x c) (all c s) e in rw (eqb-true x c b.0, ← all_is c s b.1) refl

-- A test in a reading that succeeds holds.
pub need_ok : {B : Type 0} (b : Bool) (x : Refusal) (f : Unit {0} → Result B) {r : B} → need b x >>= f ≡ ok r → (b ≡ true) × (f tt ≡ ok r)
unfolding need ◌>>=◌
need_ok true x f e = (refl, e)
need_ok false x f e = absurd (fault≢ e)

pub all_same : (c n : ℕ) → all c (replicate n c) ≡ true
unfolding all
all_same c zero = refl
all_same c (suc n) = rw (eq-eqb c c refl) (all_same c n)

-- A raster of bits is read whole.
pub bits_read_lem : (w h : ℕ) (bytes drawn : List ℕ) → BitRaster w h bytes drawn → bits_read (w * h) (bytes_of_bits (w * h)) bytes ≡ ok []
unfolding bits_read need ◌>>=◌
bits_read_lem w h bytes drawn r =
    let l : length bytes ≡ bytes_of_bits (w * h) =
    omega (arith, length-bits bytes, ap length r.bits_are, length-append drawn (replicate r.spare 0), length-replicate {A = ℕ} r.spare 0, r.size, r.few) in
    let d : drop (w * h) (bits bytes) ≡ replicate r.spare 0 = ap (drop (w * h)) r.bits_are ∙ drop_at drawn (replicate r.spare 0) (w * h) r.size in
    rw (le-leb (bytes_of_bits (w * h)) (length bytes) (omega arith), le-leb (length bytes) (bytes_of_bits (w * h)) (omega arith), d, all_same 0 r.spare) refl

-- Bits that are read whole are a raster's.
pub read_bits : (w h : ℕ) (bytes : List ℕ) (is : List Item) → bits_read (w * h) (bytes_of_bits (w * h)) bytes ≡ ok is → BitRaster w h bytes (take (w * h) (bits bytes))
unfolding bits_read
read_bits w h bytes is e =
    let n = w * h in
    let k = bytes_of_bits n in
    let a = need_ok (leb k (length bytes)) raster_ends _ e in
    let b = need_ok (leb (length bytes) k) left_over _ a.1 in
    let c = need_ok (all 0 (drop n (bits bytes))) left_over _ b.1 in
    let p = leb-true k (length bytes) a.0 in
    let q = leb-true (length bytes) k b.0 in
    let l = length-bits bytes in
    let d = length-drop n (bits bytes) in
    record {
      size = length-take-le n (bits bytes) (omega arith);
      spare = length (drop n (bits bytes));
      few = omega arith;
      bits_are = sym (take-append-drop n (bits bytes)) ∙ ap (λ (x : List ℕ). take n (bits bytes) ++ x) (all_is 0 (drop n (bits bytes)) c.0);
    }
