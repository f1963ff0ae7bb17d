-- The alarms' part of the record: its numbers are in their types' ranges, and the alarms in bytes are those of the row there.
-- Assumes nothing.
use Prim.Native.Nat.{ℕ, ◌+◌, ◌≤◌, ◌<◌}
use mathlib.Core.Path.{◌≡◌, refl}
use mathlib.Core.Bool.{true}
use mathlib.Core.List.{List}
use native.Mathlib.Omega.{arith}
use borrow.Author.Tests.{leb-true}
use lib.ListN.{get_or}
use Rattle.field.specs.Field.{field}
use Rattle.field.specs.Row.{row_at}
use Rattle.field.proofs.Laws.{Bytes, field_below}
use Rattle.field.proofs.Rows.{Held, none, held}
use Rattle.position.specs.Tests.{all}
use Rattle.position.proofs.Tests.{both_left, both_right}
use Rattle.alarm.specs.declared.AlarmSetting.{AlarmSetting}
use Rattle.alarm.specs.declared.AlarmSettings.{AlarmSettings}
use Rattle.alarm.specs.declared.Alarm.{Alarm}
use Rattle.alarm.specs.declared.Alarms.{Alarms}
use Rattle.alarm.specs.Alarm.{in_range, all_in_range, all_bounded}
use Rattle.alarm.specs.Part.{alarm_widths, alarm_numbers, alarms_at}
use Rattle.alarm.proofs.Bounds.{each_holds, Small, bounded-small}

-- each number is in its type's range
pub record Ranged (alarm : Alarm) : Type 0 where
  pub flags : alarm.flags < 256
  pub count : alarm.count < 65536

pub record AllRanged (alarms : Alarms) : Type 0 where
  pub first : Ranged alarms.first
  pub second : Ranged alarms.second
  pub third : Ranged alarms.third
  pub fourth : Ranged alarms.fourth

pub alarms-held : (alarms : Alarms) → AllRanged alarms → Held alarm_widths (alarm_numbers alarms)
alarms-held alarms ranged =
    held ranged.first.flags (held ranged.first.count (held ranged.second.flags (held ranged.second.count
    (held ranged.third.flags (held ranged.third.count (held ranged.fourth.flags (held ranged.fourth.count none)))))))

-- the alarms that have these numbers
abbrev pub alarms_from : List ℕ → Alarms
alarms_from numbers =
    record {
      first = record { flags = get_or numbers 0 0; count = get_or numbers 1 0 };
      second = record { flags = get_or numbers 2 0; count = get_or numbers 3 0 };
      third = record { flags = get_or numbers 4 0; count = get_or numbers 5 0 };
      fourth = record { flags = get_or numbers 6 0; count = get_or numbers 7 0 };
    }

pub from-numbers : (alarms : Alarms) → alarms_from (alarm_numbers alarms) ≡ alarms
from-numbers alarms = refl

-- the alarms at an offset are those of the row there
pub alarms-row : (bytes : List ℕ) (at : ℕ) → alarms_at bytes at ≡ alarms_from (row_at alarm_widths bytes at)
unfolding alarms_at row_at
alarms-row bytes at =
    let second : at + 3 ≡ at + 1 + 2 = omega arith in
    let third : at + 6 ≡ at + 1 + 2 + 1 + 2 = omega arith in
    let fourth : at + 9 ≡ at + 1 + 2 + 1 + 2 + 1 + 2 = omega arith in
    rw (second, third, fourth)

-- what is read from bytes is in its range
pub alarms-ranged : (bytes : List ℕ) (at : ℕ) → Bytes bytes → AllRanged (alarms_at bytes at)
unfolding alarms_at
alarms-ranged bytes at small = record { first = one at; second = one (at + 3); third = one (at + 6); fourth = one (at + 9) }
  where
    one : (at : ℕ) → Ranged (record { flags = field 1 bytes at; count = field 2 bytes (at + 1) })
    one at = record { flags = field_below 1 bytes at small; count = field_below 2 bytes (at + 1) small }

-- and so is what is within its bounds, if the settings are in range
setting-delay : (setting : AlarmSetting) → in_range setting ≡ true → setting.delay ≤ 9999
unfolding in_range all
setting-delay setting holds =
    leb-true setting.delay 9999 (both_left _ _ (both_right _ _ (both_right _ _ (both_right _ _ (both_right _ _ holds)))))

small-ranged : (setting : AlarmSetting) (alarm : Alarm) → in_range setting ≡ true → Small setting alarm → Ranged alarm
small-ranged setting alarm holds small =
    record { flags = omega (arith, small.flags); count = omega (arith, small.count, setting-delay setting holds) }

pub bounded-ranged : (settings : AlarmSettings) (mode : ℕ) (alarms : Alarms) → all_bounded settings mode alarms ≡ true → all_in_range settings ≡ true → AllRanged alarms
unfolding all_in_range
bounded-ranged settings mode alarms holds right =
    let small = bounded-small settings mode alarms holds in
    let each = each_holds _ _ _ _ right in
    record {
      first = small-ranged _ _ each.0 small.first;
      second = small-ranged _ _ each.1 small.second;
      third = small-ranged _ _ each.2 small.third;
      fourth = small-ranged _ _ each.3 small.fourth;
    }
