-- Idle alarms, of kind 0 without standby and cleared: no tick moves them.
-- Assumes nothing.
use Prim.Native.Nat.{ℕ}
use mathlib.Core.Path.{◌≡◌, refl, sym, ap, ◌∙◌}
use mathlib.Core.Bool.{false}
use lib.Dec.{eqb}
use lib.IntN.{ℤ}
use Rattle.position.specs.Tests.{either}
use Rattle.position.proofs.Tests.{choice}
use Rattle.alarm.specs.declared.AlarmSetting.{AlarmSetting}
use Rattle.alarm.specs.declared.AlarmSettings.{AlarmSettings}
use Rattle.alarm.specs.declared.Alarm.{Alarm}
use Rattle.alarm.specs.declared.Alarms.{Alarms}
use Rattle.alarm.specs.Alarm.{standby, judged_value, clear, judged_by, tick_alarms}
use Rattle.alarm.proofs.Bounds.{Each}
use Rattle.alarm.proofs.Ticks.{going-clear, breaks, never}
use Rattle.std.specs.Prelude.{Option, None, Some}

pub record Idle (setting : AlarmSetting) (alarm : Alarm) : Type 0 where
  pub kind : setting.kind ≡ 0
  pub standby : standby setting ≡ false
  pub flags : alarm.flags ≡ 0
  pub count : alarm.count ≡ 0

-- a judged tick leaves a cleared one cleared
clear_stays : (whole set : ℤ) (setting : AlarmSetting) → setting.kind ≡ 0 → standby setting ≡ false → judged_by whole set setting clear ≡ clear
unfolding judged_by
clear_stays whole set setting kind none =
    ap (judged_by whole set setting) (sym (going-clear setting none))
    ∙ breaks setting 0 (judged_value setting whole set) (never setting kind 0 _)
    ∙ going-clear setting none

judged-stays : (whole set : ℤ) (setting : AlarmSetting) (alarm : Alarm) → Idle setting alarm → judged_by whole set setting alarm ≡ alarm
judged-stays whole set setting alarm idle =
    let cleared : alarm ≡ clear = λ i. record { flags = idle.flags i; count = idle.count i } in
    ap (judged_by whole set setting) cleared ∙ clear_stays whole set setting idle.kind idle.standby ∙ sym cleared

pub tick-idle : (settings : AlarmSettings) (mode : ℕ) (whole : Option ℤ) (set : ℤ) (alarms : Alarms) → Each Idle settings alarms → tick_alarms settings mode whole set alarms ≡ alarms
unfolding tick_alarms
tick-idle settings mode None set alarms idle = refl
tick-idle settings mode (Some whole) set alarms idle =
    choice (λ (left : Alarms). left ≡ alarms) (either (eqb mode 1) (eqb mode 2))
    (λ _ i. record {
      first = judged-stays whole set settings.first alarms.first idle.first i;
      second = judged-stays whole set settings.second alarms.second idle.second i;
      third = judged-stays whole set settings.third alarms.third idle.third i;
      fourth = judged-stays whole set settings.fourth alarms.fourth idle.fourth i;
    })
    (λ _. refl)
