-- `key::value::digits` meets its contract. The invariant: the number of all digits is that of those read, with the rest after it.
-- Assumes nothing.
use Prim.Native.Nat.{ℕ, ◌<◌, ◌^◌}
use mathlib.Core.List.{List}
use mathlib.Core.Path.{◌≡◌}
use lib.ListN.{drop}
use Rattle.key.specs.Line.{are_digits, read_on}
use Rattle.key.proofs.value.digits.Given as goal

-- the digits before a place were read
pub record Read (cs : List ℕ) (value i : ℕ) : Type 0 where
  pub bound : value < 10 ^ i
  pub are : are_digits cs ≡ are_digits (drop i cs)
  pub is : read_on 0 cs ≡ read_on value (drop i cs)

abbrev pub invariant-loop-c : goal.invariant-loop-c
invariant-loop-c l = Read l.cs l.value l.c-index
