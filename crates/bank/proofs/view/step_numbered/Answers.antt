-- `bank::view::step_numbered` meets its contract.
-- Assumes nothing.
use Prim.Native.Nat.{◌≤◌, ◌<◌}
use mathlib.Core.Path.{sym, ◌∙◌}
use mathlib.Core.Logic.{◌⊎◌}
use native.Mathlib.Omega.{arith}
use Rattle.std.proofs.lemmas.Grind.{common_steps}
use Rattle.std.proofs.lemmas.Bool.Decides.{nat_tests}
use Rattle.bank.proofs.Facts.{step-default, numbered-tab, numbered-outside}
use Rattle.bank.specs.View.{no_step, step_at, steps_in}
use Rattle.bank.proofs.view.step_numbered.Goals as goal

pub returns-then-contains : goal.returns-then-contains
returns-then-contains c =
    let a = c.args in
    let from : 1 ≤ a.k = grind (arith, nat_tests, common_steps) in
    let to : a.k ≤ steps_in a.len = grind (arith, nat_tests, common_steps) in
    c.step_at.ensures ∙ sym (numbered-tab no_step (step_at a.bank.now) 9 a.at (steps_in a.len) a.k from to)

pub returns-else-contains : goal.returns-else-contains
returns-else-contains c =
    let a = c.args in
    let outside : (a.k < 1) ⊎ (steps_in a.len < a.k) = grind (arith, nat_tests, common_steps) in
    step-default c.default.result c.default.ensures ∙ sym (numbered-outside no_step (step_at a.bank.now) 9 a.at (steps_in a.len) a.k outside)
