-- A command past 26 and 27.
-- Assumes nothing.
use mathlib.Core.Path.{◌≡◌, refl}
use mathlib.Core.Bool.{cond}
use lib.Dec.{eqb}
use Rattle.setting.specs.declared.Settings.{Settings}
use Rattle.position.specs.declared.Position.{Position}
use Rattle.position.specs.declared.Here.{Here}
use Rattle.position.specs.declared.Command.{Command}
use Rattle.position.specs.Tests.{both}
use Rattle.position.specs.Command.{is_start, lacks_value, stuck_of, command_position}
use Rattle.plain.specs.declared.Refusal.{Refusal}
use Rattle.plain.specs.Refusals.{command_move}
use Rattle.command.specs.Moves.{Takes}
use Rattle.std.specs.Prelude.{Option}
use Rattle.std.specs.Prelude.{Ok, Err}
use lib.IntN.{ℤ}

-- what is left of its rows: 28 to 30, or where it goes
pub taken_is : (settings : Settings) (here first : Here) (whole : Option ℤ) (position : Position) (command : Command) → Takes settings position command
    → command_move settings here first whole position command
    ≡ cond (both (is_start command) (eqb here.count 0)) (Err Refusal.NoStep)
    (cond (both (is_start command) (lacks_value settings whole)) (Err Refusal.NoValue)
    (cond (stuck_of here position command) (Err Refusal.Stuck) (Ok (command_position settings here first whole position command))))
unfolding command_move
taken_is settings here first whole position command h = rw (h.selects, h.takes) refl
