-- `bank::pair::has_pattern` meets its contract.
-- Assumes nothing.
use Rattle.std.proofs.Common.{arith}
use Rattle.std.proofs.lemmas.Grind.{common_steps}
use Rattle.std.proofs.lemmas.Bool.Decides.{nat_tests}
use Rattle.limits.proofs.Laws.{both-and}
use Rattle.limits.specs.Range.{between}
use Rattle.bank.proofs.pair.has_pattern.Goals as goal

pub returns : goal.returns
unfolding between
returns c = grind (arith, nat_tests, common_steps, both-and)
