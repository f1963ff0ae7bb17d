-- `measure::lag` meets its contract: the definition's operations, in the code's order.
-- Assumes nothing.
use Rattle.std.proofs.Common.{refl}
use lib.Ieee.{of_bits}
use Rattle.measure.specs.Filter.{lagged}
use Rattle.measure.proofs.lag.Goals as goal

pub returns : goal.returns
unfolding lagged of_bits
returns c = refl
