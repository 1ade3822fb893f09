-- A run in the buffer: it ends inside its row; or the row is filled and sent again, and the rest is filled. Assumes nothing.
use Prim.Native.Nat.{ℕ, ◌+◌, ◌-◌, ◌*◌, ◌≤◌, ◌<◌}
use mathlib.Core.Path.{◌≡◌, refl, sym, ap, ◌∙◌}
use mathlib.Core.List.{List, ◌++◌, append_assoc}
use native.Mathlib.Omega.{arith}
use lib.ListN.{length, take, drop, replicate, length-append, length-drop, length-replicate}
use lib.Seq.{length-take-le, take-add, take_at, drop_at, drop-drop}
use borrow.Author.Tests.{lt-ltb, le-ltb}
use Rattle.format.specs.Reading.{State}
use Rattle.fill.specs.Rows.{filled, last_row, times}
use Rattle.fill.proofs.Fill.{take-filled, drop-filled}
use Rattle.fill.proofs.RowLaws.{last-append, length-times}
use Rattle.runs.specs.Runs.{place_of, begun, with_run}

module _ (w n v : ℕ) (s : State) (d : List ℕ) where
  -- The run ends inside its row.
  pub run_short : (d' : List ℕ) (c : ℕ) → c ≡ v → n < w - s.column → d' ≡ filled d (place_of w s) n c → d' ≡ with_run w n v s d
  unfolding with_run
  run_short d' c e l p = p ∙ rw (e, lt-ltb n (w - s.column) l) refl

  -- The row is filled, sent once more for each repeat, and the rest of the run follows.
  module _ (d₁ d₂ d₃ : List ℕ) (c to : ℕ) (e : c ≡ v) (in_row : s.column < w) (full : w - s.column ≤ n) (fits : s.row * w + s.repeat * w + s.column + n ≤ length d) where
    abbrev at : ℕ
    at = place_of w s

    abbrev room : ℕ
    room = w - s.column

    abbrev front : List ℕ
    front = take at d ++ replicate room v

    abbrev row : List ℕ
    row = begun w s d ++ replicate room v

    row_is : length row ≡ w
    row_is = rw (length-append, length-take-le s.column (drop (s.row * w) d) (rw length-drop (omega arith)), length-replicate) (omega arith)

    front_is : front ≡ take (s.row * w) d ++ row
    front_is = rw (take-add (s.row * w) s.column d) (append_assoc (take (s.row * w) d) (begun w s d) (replicate room v))

    pub run_full : d₁ ≡ filled d at room c → to ≡ at + room + s.repeat * w
        → d₂ ≡ take (at + room) d₁ ++ (times s.repeat (last_row w (take (at + room) d₁)) ++ drop (at + room + s.repeat * w) d₁)
        → d₃ ≡ filled d₂ to (n - room) c → d₃ ≡ with_run w n v s d
    unfolding filled with_run times
    run_full e₁ et e₂ e₃ =
        let m = n - room in
        let copies = times s.repeat row in
        let t₁ : take (at + room) d₁ ≡ front = rw (e₁, e) (take-filled d at room v (omega arith)) in
        let b₁ : drop (at + room) d₁ ≡ drop (at + room) d = rw (e₁, e) (drop-filled d at room v (omega arith)) in
        let last : last_row w front ≡ row = rw front_is (last-append w (take (s.row * w) d) row row_is) in
        let l₁ : length front ≡ at + room = rw (length-append, length-take-le at d (omega arith), length-replicate) refl in
        let l₂ : length (front ++ copies) ≡ to = rw (length-append, l₁, length-times, row_is) (sym et) in
        let b : drop to d₁ ≡ drop to d = rw et (sym (drop-drop (s.repeat * w) (at + room) d₁) ∙ ap (drop (s.repeat * w)) b₁ ∙ drop-drop (s.repeat * w) (at + room) d) in
        let g₂ : d₂ ≡ (front ++ copies) ++ drop to d = e₂ ∙ rw (t₁, ← et, b, last) (simp append_assoc) in
        let t₂ : take to d₂ ≡ front ++ copies = rw g₂ (take_at (front ++ copies) (drop to d) to l₂) in
        let b₂ : drop to d₂ ≡ drop to d = rw g₂ (drop_at (front ++ copies) (drop to d) to l₂) in
        let b₃ : drop (to + m) d₂ ≡ drop (to + m) d = sym (drop-drop m to d₂) ∙ ap (drop m) b₂ ∙ drop-drop m to d in
        let k : to + m ≡ at + s.repeat * w + n = omega arith in
        e₃ ∙ rw (e, t₂, b₃, k, front_is, le-ltb n room full) (simp append_assoc)
