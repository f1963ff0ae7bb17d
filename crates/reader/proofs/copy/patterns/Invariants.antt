-- `reader::copy::patterns` meets its contract. The invariant: the rest of the patterns, laid out from where it is due, gives the whole.
-- Assumes nothing.
use mathlib.Core.Path.{◌≡◌}
use Prim.Native.Nat.{◌*◌, ◌≤◌}
use lib.ListN.{length}
use Rattle.field.specs.Field.{field}
use Rattle.capacity.specs.Capacity.{capacity_of}
use Rattle.bank.specs.View.{patterns_of}
use Rattle.arrays.specs.Read.{laid_out}
use Rattle.arrays.proofs.Views.{rest}
use Rattle.arrays.proofs.Copied.{laid_from, pattern_from}
use Rattle.reader.proofs.copy.patterns.Given as goal

abbrev pub invariant-loop-p : goal.invariant-loop-p
invariant-loop-p l = record {
  few : l.n ≤ 15;
  size : length l.steps ≡ 99;
  inside : l.base ≤ 99;
  before : l.base ≤ l.p * capacity_of (field 1 l.bank 0);
  whole :
      laid_from (record { runs = l.runs; counts = l.counts; steps = l.steps }) l.p l.base (rest (pattern_from l.bank) (field 1 l.bank 0) l.p)
      ≡ laid_out (patterns_of l.bank);
}
