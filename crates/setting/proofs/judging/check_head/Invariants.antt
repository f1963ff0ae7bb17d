-- `setting::judging::check_head` meets its contract. The invariant: the rows are found to be what the rest of them is found to be.
-- Assumes nothing.
use mathlib.Core.Path.{◌≡◌}
use lib.ListN.{drop}
use Rattle.setting.specs.Setting.{first_of, head_found}
use Rattle.setting.specs.Found.{Accepted}
use Rattle.setting.proofs.judging.check_head.Given as goal

abbrev pub invariant-loop-offset : goal.invariant-loop-offset
invariant-loop-offset l = head_found l.fn.settings ≡ first_of Accepted (drop l.offset-index l.offset-items)
