-- `writer::pattern::check_patterns` meets its contract. The invariants: all the patterns are found to be what the rest of them is found
-- to be; inside, what the rest of the steps, and then the rest of the patterns, are found to be.
-- Assumes nothing.
use Rattle.writer.proofs.Walk.{Reached, Left}
use Rattle.writer.proofs.pattern.check_patterns.Given as goal

abbrev pub invariant-loop-p : goal.invariant-loop-p
invariant-loop-p l = Reached l.settings l.ps l.base l.p

abbrev pub invariant-loop-k : goal.invariant-loop-k
invariant-loop-k l = Left l.settings l.fn.ps l.step-items l.p l.k
