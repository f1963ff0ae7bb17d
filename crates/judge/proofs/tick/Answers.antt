-- `judge::tick` meets its contract where there is a measured whole value.
-- Assumes nothing.
use Rattle.std.proofs.Common.{sym, ◌∙◌, arith}
use Rattle.std.proofs.lemmas.Grind.{common_steps}
use Rattle.alarm.specs.Alarm.{tick_alarms}
use Rattle.position.specs.Tests.{either}
use mir.Facts.{to_z-of_z}
use Rattle.judge.proofs.tick.Goals as goal

pub returns-in-Some : goal.returns-in-Some
unfolding tick_alarms either
returns-in-Some c =
    rw (sym c.whole_value.ensures.value ∙ c.in-Some.is) (grind (arith, common_steps, to_z-of_z))
