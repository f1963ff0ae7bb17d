-- What a function of `reader` asks.
-- Assumes nothing.
use Rattle.std.specs.Prelude.{ℕ, ◌≡◌, List}
use Rattle.field.specs.Field.{field}
use Rattle.bank.specs.Check.{found_in}
use Rattle.setting.specs.Found.{Accepted}

-- an accepted bank, and its number of patterns
pub record Counted (bank : List ℕ) (n : ℕ) : Type 0 where
  pub ok : found_in bank ≡ Accepted
  pub count : n ≡ field 1 bank 0
