-- `bank::pair::pair_right` meets its contract.
-- Assumes nothing.
use mathlib.Core.Path.{refl}
use Rattle.setting.proofs.Laws.{both-and}
use Rattle.bank.specs.Check.{pair_right}
use Rattle.bank.proofs.pair.pair_right.Goals as goal

pub returns : goal.returns
unfolding pair_right
returns c = rw c.steps_in-s.ensures (simp both-and refl)
