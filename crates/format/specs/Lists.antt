-- Small tests of lists of numbers that the other files share. Assumes nothing: these are definitions.
use Rattle.std.specs.Prelude.{ℕ, List, [], ◌∷◌, Bool, true, false, ◌&&◌, ◌||◌, eqb}

-- Every entry is c.
unfoldable pub all : ℕ → List ℕ → Bool
all c [] = true
all c (x ∷ xs) = eqb x c && all c xs

-- Some entry is c.
unfoldable pub elem : ℕ → List ℕ → Bool
elem c [] = false
elem c (x ∷ xs) = eqb c x || elem c xs

-- The two lists are equal.
unfoldable pub same : List ℕ → List ℕ → Bool
same [] [] = true
same [] (y ∷ ys) = false
same (x ∷ xs) [] = false
same (x ∷ xs) (y ∷ ys) = eqb x y && same xs ys
