-- `reader::copy::copy_steps` meets its contract. The invariant: the rest of the steps, stored from where it is due, gives all of them.
-- Assumes nothing.
use mathlib.Core.Path.{◌≡◌}
use Prim.Native.Nat.{◌+◌, ◌-◌}
use lib.Seq.{sets}
use Rattle.field.specs.Tab.{tab}
use Rattle.bank.specs.View.{step_of}
use Rattle.reader.proofs.copy.copy_steps.Given as goal

abbrev pub invariant-loop-k : goal.invariant-loop-k
invariant-loop-k l = sets l.out l.k (tab (step_of l.bank l.p) 1 (l.k + 1) (l.k-end - l.k)) ≡ tab (step_of l.bank l.p) 1 1 l.k-end
