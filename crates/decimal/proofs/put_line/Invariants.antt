-- `decimal::put_line` meets its contract. The invariant: the rest of the line, stored from where it is due, gives the whole, and there is room for it.
-- Assumes nothing.
use Prim.Native.Nat.{ℕ, ◌+◌, ◌*◌, ◌-◌, ◌≤◌}
use mathlib.Core.Path.{◌≡◌}
use lib.ListN.{length, drop}
use mathlib.Core.List.{List}
use lib.IntN.{ℤ}
use Rattle.decimal.specs.Text.{line_of, put_text}
use Rattle.decimal.proofs.put_line.Given as goal

pub record Due (out₀ : List ℕ) (at : ℕ) (numbers : List ℤ) (out : List ℕ) (to i : ℕ) : Type 0 where
  pub within : i ≤ length numbers
  pub long : length out ≡ length out₀
  pub room : to + 21 * (length numbers - i) ≤ length out₀
  pub gives : put_text out to (line_of (drop i numbers)) ≡ put_text out₀ at (line_of numbers)

abbrev pub invariant-loop-i : goal.invariant-loop-i
invariant-loop-i l = Due l.initial.out l.at l.numbers l.out l.to l.i
