-- The alarms' part of the record: alarm by alarm, flags (one byte) and delay count (16 bits).
-- Assumes nothing.
use Rattle.std.specs.Prelude.{ℕ, ◌+◌, List, [], ◌∷◌}
use Rattle.field.specs.Field.{field}
use Rattle.alarm.specs.declared.Alarm.{Alarm}
use Rattle.alarm.specs.declared.Alarms.{Alarms}

-- its widths in bytes, and the numbers that stand there
abbrev pub alarm_widths : List ℕ
alarm_widths = 1 ∷ 2 ∷ 1 ∷ 2 ∷ 1 ∷ 2 ∷ 1 ∷ 2 ∷ []

abbrev pub alarm_numbers : Alarms → List ℕ
alarm_numbers alarms =
    alarms.first.flags ∷ alarms.first.count ∷ alarms.second.flags ∷ alarms.second.count ∷ alarms.third.flags ∷ alarms.third.count
    ∷ alarms.fourth.flags ∷ alarms.fourth.count ∷ []

-- the alarms that stand in bytes from an offset on; bytes past the end count as 0
abbrev pub alarm_at : List ℕ → ℕ → Alarm
alarm_at bytes at = record { flags = field 1 bytes at; count = field 2 bytes (at + 1) }

unfoldable pub alarms_at : List ℕ → ℕ → Alarms
alarms_at bytes at =
    record {
      first = alarm_at bytes at;
      second = alarm_at bytes (at + 3);
      third = alarm_at bytes (at + 6);
      fourth = alarm_at bytes (at + 9);
    }
