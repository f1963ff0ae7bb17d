-- What `sheet` and `credits` have beside the bank: alarms of kind 0.
-- Assumes nothing.
use Rattle.std.specs.Prelude.{ℕ, List, pos}
use Rattle.alarm.specs.declared.AlarmSetting.{AlarmSetting}
use Rattle.plain.specs.declared.Config.{Config}
use Rattle.plain.specs.Setup.{Setup, over}

abbrev pub no_alarm : AlarmSetting
no_alarm = record { kind = 0; high = pos 0; low = pos 0; sensitivity = 0; delay = 0; flags = 0 }

unfoldable pub sheet_config : Config
sheet_config = record { alarms = record { first = no_alarm; second = no_alarm; third = no_alarm; fourth = no_alarm } }

abbrev pub sheet_over : List ℕ → Setup
sheet_over bank = over bank sheet_config
