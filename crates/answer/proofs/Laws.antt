-- The first of natural numbers, as a whole number.
-- Assumes nothing.
use mathlib.Core.Path.{◌≡◌, refl}
use mathlib.Core.List.{List, [], ◌∷◌, map}
use Prim.Native.Nat.{ℕ}
use lib.IntN.{pos}
use lib.ListN.{get_or}
use Rattle.answer.specs.Numbers.{number_and_values}

pub first : (ns : List ℕ) → pos (number_and_values ns).number ≡ get_or (map pos ns) 0 (pos 0)
unfolding number_and_values
first [] = refl
first (x ∷ xs) = refl
