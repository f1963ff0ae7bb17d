-- `host::cook_check` meets its contract. Assumes nothing.
use mathlib.Core.Path.{ap, ◌∙◌}
use Rattle.calls.specs.Result.{packed}
use Rattle.calls.specs.Calls.{check_result}
use Rattle.host.proofs.cook_check.Goals as goal

pub returns : goal.returns
unfolding check_result
returns c = c.of_checked.ensures ∙ ap packed c.check.ensures
