-- The short ways: settings that are all 0 are in range, cleared alarms are within their bounds, and no tick moves idle ones.
-- Assumes nothing.
use Prim.Native.Nat.{ℕ}
use mathlib.Core.Path.{◌≡◌, sym}
use mathlib.Core.Bool.{true}
use borrow.Author.Tests.{not-true, eqb-true}
use lib.IntN.{ℤ}
use Rattle.position.specs.Tests.{both, either, all, within, temperature}
use Rattle.position.proofs.Tests.{both_left, both_right}
use Rattle.alarm.specs.declared.AlarmSetting.{AlarmSetting}
use Rattle.alarm.specs.declared.AlarmSettings.{AlarmSettings}
use Rattle.alarm.specs.declared.Alarm.{Alarm}
use Rattle.alarm.specs.declared.Alarms.{Alarms}
use Rattle.alarm.specs.Alarm.{standby, in_range, all_in_range, clear, all_clear, tick_alarms, all_bounded}
use Rattle.alarm.proofs.Bounds.{each_holds, clear-bounded}
use Rattle.alarm.proofs.Idle.{Idle, tick-idle}
use Rattle.alarm.specs.Idle.{all_unset, is_clear, all_are_clear, is_idle, all_idle}
use Rattle.std.specs.Prelude.{Option}

pub unset-in-range : (settings : AlarmSettings) → settings ≡ all_unset → true ≡ all_in_range settings
unfolding all_in_range in_range all both either temperature within
unset-in-range settings is = rw is

clear-is : (alarm : Alarm) → is_clear alarm ≡ true → alarm ≡ clear
unfolding is_clear
clear-is alarm known = λ i. record { flags = eqb-true alarm.flags 0 (both_left _ _ known) i; count = eqb-true alarm.count 0 (both_right _ _ known) i }

pub clear_within : (settings : AlarmSettings) (mode : ℕ) (alarms : Alarms) → all_are_clear alarms ≡ true → true ≡ all_bounded settings mode alarms
unfolding all_are_clear
clear_within settings mode alarms known =
    let each = each_holds _ _ _ _ known in
    let is : alarms ≡ all_clear
    = λ i. record {
      first = clear-is alarms.first each.0 i;
      second = clear-is alarms.second each.1 i;
      third = clear-is alarms.third each.2 i;
      fourth = clear-is alarms.fourth each.3 i;
    } in
    rw is (sym (clear-bounded settings mode))

idle-is : (setting : AlarmSetting) (alarm : Alarm) → is_idle setting alarm ≡ true → Idle setting alarm
unfolding is_idle is_clear all
idle-is setting alarm known =
    let after_one = both_right _ _ known in
    let cleared = both_left _ _ (both_right _ _ after_one) in
    record {
      kind = eqb-true setting.kind 0 (both_left _ _ known);
      standby = not-true (standby setting) (both_left _ _ after_one);
      flags = eqb-true alarm.flags 0 (both_left _ _ cleared);
      count = eqb-true alarm.count 0 (both_right _ _ cleared);
    }

pub idle-leaves : (settings : AlarmSettings) (mode : ℕ) (whole : Option ℤ) (set : ℤ) (alarms : Alarms) → all_idle settings alarms ≡ true
    → alarms ≡ tick_alarms settings mode whole set alarms
unfolding all_idle
idle-leaves settings mode whole set alarms known =
    let each = each_holds _ _ _ _ known in
    sym
    (tick-idle settings mode whole set alarms
    (record {
      first = idle-is settings.first alarms.first each.0;
      second = idle-is settings.second alarms.second each.1;
      third = idle-is settings.third alarms.third each.2;
      fourth = idle-is settings.fourth alarms.fourth each.3;
    }))
