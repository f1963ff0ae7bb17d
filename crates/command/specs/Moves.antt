-- What the functions of `command` ask, and plus and minus by themselves.
-- Assumes nothing.
use Rattle.std.specs.Prelude.{◌≡◌, true, cond}
use Rattle.setting.specs.declared.Settings.{Settings}
use Rattle.position.specs.declared.Position.{Position}
use Rattle.position.specs.declared.Here.{Here}
use Rattle.position.specs.declared.Command.{Command}
use Rattle.position.specs.Command.{takes_of, selects_of, plus_moves, plus_position, minus_moves, minus_position}
use Rattle.plain.specs.declared.Refusal.{Refusal}
use Rattle.std.specs.Prelude.{Result}
use Rattle.std.specs.Prelude.{Ok, Err}

-- 26 and 27 do not meet a command
pub record Takes (settings : Settings) (position : Position) (command : Command) : Type 0 where
  pub selects : selects_of settings command ≡ true
  pub takes : takes_of command position.mode ≡ true

-- where plus and minus go, or 30
unfoldable pub plus_move : Here → Position → Result Position Refusal
plus_move here position = cond (plus_moves here position) (Ok (plus_position here position)) (Err Refusal.Stuck)

unfoldable pub minus_move : Here → Position → Result Position Refusal
minus_move here position = cond (minus_moves here position) (Ok (minus_position here position)) (Err Refusal.Stuck)
