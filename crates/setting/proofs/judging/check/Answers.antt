-- `setting::judging::check` meets its contract: each part ends the check or lets it go on.
-- Assumes nothing.
use mathlib.Core.Path.{sym, ◌∙◌}
use Rattle.setting.proofs.Laws.{exit-returns, ends, goes}
use Rattle.setting.specs.Setting.{settings_found}
use Rattle.setting.proofs.judging.check.Goals as goal

pub returns-in_err-check_head : goal.returns-in_err-check_head
unfolding settings_found
returns-in_err-check_head c =
    let was = c.in_err-check_head.was in
    exit-returns _ was c.from_residual.ensures.1 ∙ sym (ends _ c.check_head.ensures was)

pub returns-in_err-check_halves : goal.returns-in_err-check_halves
unfolding settings_found
returns-in_err-check_halves c =
    let was = c.in_err-check_halves.was in
    exit-returns _ was c.from_residual-in_err-check_halves.ensures.1
    ∙ sym (goes c.check_head.ensures c.in_ok-check_head.was ∙ ends _ c.check_halves.ensures was)

pub returns : goal.returns
unfolding settings_found
returns c = sym (goes c.check_head.ensures c.in_ok-check_head.was ∙ goes c.check_halves.ensures c.in_ok-check_halves.was ∙ sym c.check_halves-2.ensures)
