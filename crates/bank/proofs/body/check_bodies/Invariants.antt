-- `bank::body::check_bodies` meets its contract. The invariants: all the patterns are found to be what the rest of them is found to be; inside, what the rest
-- of the steps, and then the rest of the patterns, are found to be.
-- Assumes nothing.
use Prim.Native.Nat.{ℕ, ◌+◌}
use mathlib.Core.Path.{◌≡◌}
use mathlib.Core.List.{List}
use lib.IntN.{ℤ}
use Rattle.bank.proofs.Walk.{rest_steps, rest_bodies}
use Rattle.bank.specs.View.{pattern_at}
use Rattle.field.specs.Tab.{tab}
use Rattle.setting.specs.Found.{Checked, then}
use Rattle.bank.specs.Check.{bodies_found, of_length}
use Rattle.bank.proofs.body.check_bodies.Given as goal

abbrev pub whole : List ℕ → ℕ → ℤ → ℤ → Checked
whole bank n low high = bodies_found of_length low high 1 (tab (pattern_at bank) 1 1 n)

abbrev pub invariant-loop-i : goal.invariant-loop-i
invariant-loop-i l = whole l.bank l.n l.low l.high ≡ rest_bodies l.low l.high l.bank l.n l.i

abbrev pub invariant-loop-k : goal.invariant-loop-k
invariant-loop-k l = whole l.bank l.n l.low l.high ≡ then (rest_steps l.low l.high l.bank l.i l.body.at l.s l.k) (rest_bodies l.low l.high l.bank l.n (l.i + 1))
