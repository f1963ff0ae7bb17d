-- What is said at a position, where it is known at another: what the code keeps from one event to the next.
-- Assumes nothing.
use Rattle.std.specs.Prelude.{ℕ, Bool, cond, not, List, eqb}
use Rattle.setting.specs.declared.Settings.{Settings}
use Rattle.position.specs.declared.Position.{Position}
use Rattle.position.specs.declared.Here.{Here}
use Rattle.position.specs.Tests.{either}
use Rattle.position.specs.Program.{said_at}

-- whether two positions differ in what a bank is asked by: pattern, step or pass
unfoldable pub moved : Position → Position → Bool
moved before position =
    either (not (eqb before.pattern position.pattern))
    (either (not (eqb before.step position.step)) (not (eqb before.pass position.pass)))

-- the bank is asked only where they do; else what is known stays
unfoldable pub here_after : List ℕ → Settings → Here → Position → Position → Here
here_after bank settings here before position = cond (moved before position) (said_at bank settings position) here
