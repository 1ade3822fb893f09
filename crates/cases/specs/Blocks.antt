-- What `block_at` answers, and which cases come. Assumes nothing: these are definitions.
use Rattle.std.specs.Prelude.{ℕ, ◌+◌, ◌-◌, ◌≤◌, ◌≡◌, cond, List, leb, length, drop, slice_range, get_or, Some, None, MatchOption}
use Rattle.std.specs.Result.{MatchResult}
use Rattle.std.specs.declared.option.Option.{Option}
use Rattle.std.specs.declared.result.Result.{Result}
use Rattle.format.specs.Decoding.{number}
use Rattle.cases.specs.declared.Case.{Case}
use Rattle.cases.specs.declared.CutOff.{CutOff}

-- Where the n bytes that begin at a place begin and end, if all of them stand there.
unfoldable pub within : List ℕ → ℕ → ℕ → Option (ℕ × ℕ)
within s begin n = cond (leb (begin + n) (length s)) (Some (begin, begin + n)) None

-- The bytes behind the head of so many bytes at a place: the head's last four say how many.
unfoldable pub block_at : List ℕ → ℕ → ℕ → Option (ℕ × ℕ)
block_at s at head = within s (at + head) (number 4 (drop (at + head - 4) s))

-- A case is the head at a place and the bytes behind it, and the next one stands at its end.
pub record IsCase (s : List ℕ) (at h : ℕ) (c : Case) (to : ℕ) : Type 0 where
  pub begin : ℕ
  pub whole : Some (begin, to) ≡ block_at s at h
  pub head : c.head.now ≡ slice_range s at begin
  pub bytes : c.bytes.now ≡ slice_range s begin to

-- A case is cut off, and no other comes.
pub record IsCutOff (s : List ℕ) (at h to : ℕ) : Type 0 where
  pub none : None ≡ block_at s at h
  pub last : to ≡ length s

-- The case at a place and the place of the next one, or no case at the end; `heads` relates a head's first byte and its length.
abbrev pub NextCase : (ℕ → ℕ → Type 0) → List ℕ → ℕ → Option (Result Case CutOff) → ℕ → Type 0
NextCase heads s at r to = MatchOption r (length s ≤ at) (λ x. (h : ℕ) × heads (get_or s at 0) h × MatchResult x (λ c. IsCase s at h c to) (λ _. IsCutOff s at h to))
