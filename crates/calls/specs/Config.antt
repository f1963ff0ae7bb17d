-- The settings that go beside the bank, as bytes, low byte first: four alarms of ten bytes each: kind, H (signed 16 bits), L (signed 16 bits),
-- C (16 bits), delay (16 bits), flags (hold 1, standby 2).
-- Assumes nothing.
use Rattle.std.specs.Prelude.{ℕ, ◌+◌, Bool, cond, List, [], eqb, length}
use Rattle.std.specs.Int.{w16}
use Rattle.field.specs.Field.{field, signed_field}
use Rattle.alarm.specs.declared.AlarmSetting.{AlarmSetting}
use Rattle.plain.specs.declared.Config.{Config}

-- whether a buffer has its size
unfoldable pub config_sized : List ℕ → Bool
config_sized bytes = eqb (length bytes) 40

-- an alarm's settings at an offset
unfoldable pub alarm_setting_at : List ℕ → ℕ → AlarmSetting
alarm_setting_at bytes at =
    record {
      kind = field 1 bytes at;
      high = signed_field w16 bytes (at + 1);
      low = signed_field w16 bytes (at + 3);
      sensitivity = field 2 bytes (at + 5);
      delay = field 2 bytes (at + 7);
      flags = field 1 bytes (at + 9);
    }

abbrev pub config_at : List ℕ → Config
config_at bytes =
    record {
      alarms =
          record {
            first = alarm_setting_at bytes 0;
            second = alarm_setting_at bytes 10;
            third = alarm_setting_at bytes 20;
            fourth = alarm_setting_at bytes 30;
          };
    }

-- bytes of another size, which no call takes, are read as none
unfoldable pub config_in : List ℕ → Config
config_in bytes = config_at (cond (config_sized bytes) bytes [])
