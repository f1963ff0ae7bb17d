-- `measure::keep` meets its contract: each way out returns what `kept` picks where the tests are as that way found them.
-- Assumes nothing.
use Rattle.std.proofs.Common.{refl}
use lib.Ieee.{of_bits, neg}
use Rattle.measure.specs.Filter.{kept}
use Rattle.measure.proofs.keep.Goals as goal

pub returns-then-x-2 : goal.returns-then-x-2
unfolding kept of_bits neg
returns-then-x-2 c = simp (c.if-x.true, c.if-x-2.true) refl

pub returns-else-x-2 : goal.returns-else-x-2
unfolding kept of_bits neg
returns-else-x-2 c = simp (c.if-x.true, c.if-x-2.false) refl

pub returns-else-x : goal.returns-else-x
unfolding kept of_bits neg
returns-else-x c = simp c.if-x.false refl
