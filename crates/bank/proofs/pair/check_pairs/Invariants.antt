-- `bank::pair::check_pairs` meets its contract. The invariant: all the pairs are found to be what the rest of them is found to be.
-- Assumes nothing.
use Prim.Native.Nat.{◌+◌, ◌*◌, ◌≤◌}
use mathlib.Core.Path.{◌≡◌}
use Rattle.bank.proofs.Walk.{rest_pairs}
use Rattle.bank.specs.Check.{pairs_found}
use Rattle.bank.proofs.pair.check_pairs.Given as goal

abbrev pub invariant-loop-i : goal.invariant-loop-i
invariant-loop-i l = (l.due ≤ 105 + 65535 * l.i) × (pairs_found l.bank l.n ≡ rest_pairs l.bank l.n l.i l.due)
