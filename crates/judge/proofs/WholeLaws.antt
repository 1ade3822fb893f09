-- Which raster a packet has: none, bits, or runs. Assumes nothing.
use Prim.Native.Nat.{ℕ, zero, suc, ◌*◌, ◌≤◌}
use mathlib.Core.Path.{◌≡◌, refl, ◌∙◌}
use mathlib.Core.List.{List, [], ◌∷◌}
use native.Mathlib.Omega.{arith}
use lib.ListN.{length}
use borrow.Author.Tests.{eq-eqb, ne_eqb}
use Rattle.format.specs.Refusals.{left_over}
use Rattle.format.specs.Rasters.{bytes_of_bits}
use Rattle.format.specs.Reading.{none_read, bits_read, reading, items}
use Rattle.refusals.specs.Names.{coded}
use Rattle.judge.specs.Judgement.{judged}
use Rattle.refusals.specs.declared.Refusal.{Refusal}
use Rattle.std.specs.Prelude.{Result, Ok, Err}

module _ (f w h : ℕ) (s : List ℕ) where
  pub none_whole : w ≡ 0 → length s ≡ 0 → Ok tt ≡ judged (items f w h s)
  unfolding judged items none_read
  none_whole p e = rw p (go s e)
    where
      go : (s : List ℕ) → length s ≡ 0 → Ok tt ≡ judged (none_read s)
      go [] e = refl
      go (b ∷ s) e = absurd (omega arith)

  pub none_wanted_lem : w ≡ 0 → (length s ≡ 0 → ⊥) → Err (coded left_over) ≡ judged (items f w h s)
  unfolding judged items none_read
  none_wanted_lem p n = rw p (go s n)
    where
      go : (s : List ℕ) → (length s ≡ 0 → ⊥) → Err (coded left_over) ≡ judged (none_read s)
      go [] n = absurd (n refl)
      go (b ∷ s) n = refl

  some : (w ≡ 0 → ⊥) → (k : ℕ) × (w ≡ suc k)
  some = go w
    where
      go : (w : ℕ) → (w ≡ 0 → ⊥) → (k : ℕ) × (w ≡ suc k)
      go zero n = absurd (n refl)
      go (suc k) n = (k, refl)

  pub in_bits_lem : (r : Result (Unit {0}) Refusal) → (w ≡ 0 → ⊥) → f ≡ 14 → r ≡ judged (bits_read (w * h) (bytes_of_bits (w * h)) s) → r ≡ judged (items f w h s)
  unfolding items
  in_bits_lem r n e q = let k = some n in q ∙ rw (k.1, eq-eqb f 14 e) refl

  pub in_runs_lem : (r : Result (Unit {0}) Refusal) (k : ℕ) → (w ≡ 0 → ⊥) → k ≡ f → k ≤ 13 → r ≡ judged (reading k w h s) → r ≡ judged (items f w h s)
  unfolding items
  in_runs_lem r k n g l q =
      let j = some n in
      let d : f ≡ 14 → ⊥ = λ e. omega arith in
      q ∙ rw (g, j.1, ne_eqb f 14 d) refl
