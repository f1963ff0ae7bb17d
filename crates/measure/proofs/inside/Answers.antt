-- `measure::inside` meets its contract.
-- Assumes nothing.
use Rattle.std.proofs.Common.{rules}
use lib.Ieee.{le, of_bits, neg}
use Rattle.measure.specs.Filter.{within}
use Rattle.measure.proofs.inside.Goals as goal

pub returns : goal.returns
unfolding within le of_bits neg
returns c = search rules
