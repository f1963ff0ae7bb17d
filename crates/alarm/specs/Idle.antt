-- Short ways of the code: settings that are all 0, which are in range; cleared alarms, which are within every bounds; idle ones, which no tick moves.
-- Assumes nothing.
use Rattle.std.specs.Prelude.{Bool, not, [], ◌∷◌, eqb, pos}
use Rattle.position.specs.Tests.{both, all}
use Rattle.alarm.specs.declared.AlarmSetting.{AlarmSetting}
use Rattle.alarm.specs.declared.AlarmSettings.{AlarmSettings}
use Rattle.alarm.specs.declared.Alarm.{Alarm}
use Rattle.alarm.specs.declared.Alarms.{Alarms}
use Rattle.alarm.specs.Alarm.{standby}

-- settings whose numbers are all 0
abbrev pub unset : AlarmSetting
unset = record { kind = 0; high = pos 0; low = pos 0; sensitivity = 0; delay = 0; flags = 0 }

abbrev pub all_unset : AlarmSettings
all_unset = record { first = unset; second = unset; third = unset; fourth = unset }

unfoldable pub is_clear : Alarm → Bool
is_clear alarm = both (eqb alarm.flags 0) (eqb alarm.count 0)

unfoldable pub all_are_clear : Alarms → Bool
all_are_clear alarms = all (is_clear alarms.first ∷ is_clear alarms.second ∷ is_clear alarms.third ∷ is_clear alarms.fourth ∷ [])

-- of kind 0 without standby, and cleared
unfoldable pub is_idle : AlarmSetting → Alarm → Bool
is_idle setting alarm = all (eqb setting.kind 0 ∷ not (standby setting) ∷ is_clear alarm ∷ [])

unfoldable pub all_idle : AlarmSettings → Alarms → Bool
all_idle settings alarms =
    all
    (is_idle settings.first alarms.first
    ∷ is_idle settings.second alarms.second
    ∷ is_idle settings.third alarms.third
    ∷ is_idle settings.fourth alarms.fourth
    ∷ [])
