-- `bounds::range::in_range` meets its contract where all numbers are 0.
-- Assumes nothing.
use Rattle.alarm.proofs.Short.{unset-in-range}
use Rattle.bounds.proofs.range.in_range.Goals as goal

pub returns-then-are_unset : goal.returns-then-are_unset
returns-then-are_unset c = unset-in-range _ (c.are_unset.ensures c.if-are_unset.true)
