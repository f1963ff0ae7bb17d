-- The document's number of what a check found and its two values, 0 where it has none, and how many numbers that are.
-- Assumes nothing.
use Rattle.std.specs.Prelude.{ℕ, List, get_or, length}
use Rattle.answer.specs.declared.Numbers.{Numbers}

unfoldable pub number_and_values : List ℕ → Numbers
number_and_values ns = record { number = get_or ns 0 0; first = get_or ns 1 0; second = get_or ns 2 0; count = length ns }
