-- Four event alarms, in the words of note 1 of document 02.
-- Assumes nothing.
use Rattle.std.specs.Prelude.{ℕ, ◌+◌, ◌/◌, ◌%◌, Bool, false, cond, not, [], ◌∷◌, eqb, leb, ℤ, pos, ◌+ℤ◌, ◌-ℤ◌, Option, None, Some}
use Rattle.std.specs.Int.Signed.{le_z}
use Rattle.position.specs.Tests.{both, either, all, within, temperature}
use Rattle.alarm.specs.declared.AlarmSetting.{AlarmSetting}
use Rattle.alarm.specs.declared.AlarmSettings.{AlarmSettings}
use Rattle.alarm.specs.declared.Alarm.{Alarm}
use Rattle.alarm.specs.declared.Alarms.{Alarms}

-- ---- settings

abbrev pub odd : ℕ → Bool
odd number = eqb (number % 2) 1

-- the flags of a setting: hold 1, standby 2
abbrev pub holds : AlarmSetting → Bool
holds setting = odd setting.flags

abbrev pub standby : AlarmSetting → Bool
standby setting = odd (setting.flags / 2)

-- a kind and the one four above it ask the same: kinds 1–4 of the measured whole value less the set value, 5–8 of the measured whole value
abbrev pub is_kind : AlarmSetting → ℕ → Bool
is_kind setting kind = either (eqb setting.kind kind) (eqb setting.kind (kind + 4))

-- a kind 0–8, bounds H and L (−19,999 to 29,999), sensitivity C (0–9,999), a delay of 0–9,999 ticks and flags hold, standby; between L and H needs L ≤ H
unfoldable pub in_range : AlarmSetting → Bool
in_range setting =
    all
    (leb setting.kind 8
    ∷ temperature setting.high
    ∷ temperature setting.low
    ∷ leb setting.sensitivity 9999
    ∷ leb setting.delay 9999
    ∷ leb setting.flags 3
    ∷ either (not (is_kind setting 4)) (le_z setting.low setting.high)
    ∷ [])

-- 41 meets settings that are not all in range
unfoldable pub all_in_range : AlarmSettings → Bool
all_in_range settings =
    all (in_range settings.first ∷ in_range settings.second ∷ in_range settings.third ∷ in_range settings.fourth ∷ [])

-- ---- the condition

-- kinds 1–4 judge the measured whole value less the set value, 5–8 the measured whole value
unfoldable pub judged_value : AlarmSetting → ℤ → ℤ → ℤ
judged_value setting whole set = cond (leb setting.kind 4) (whole -ℤ set) whole

-- at least H or at most L; at least H; at most L; between L and H inclusive; kind 0 is never true. H − widening replaces an "at least H" and
-- L + widening an "at most L", and the range of kinds 4 and 8 widens at both ends
unfoldable pub condition : AlarmSetting → ℕ → ℤ → Bool
condition setting widening value =
    let over = le_z (setting.high -ℤ pos widening) value in
    let under = le_z value (setting.low +ℤ pos widening) in
    cond (is_kind setting 1) (either over under)
    (cond (is_kind setting 2) over
    (cond (is_kind setting 3) under
    (both (is_kind setting 4) (within (setting.low -ℤ pos widening) value (setting.high +ℤ pos widening)))))

-- ---- an alarm

-- its flags: on 1, standby passed 2
abbrev pub is_on : Alarm → Bool
is_on alarm = odd alarm.flags

abbrev pub has_passed : Alarm → Bool
has_passed alarm = odd (alarm.flags / 2)

unfoldable pub flags_of : Bool → Bool → ℕ
flags_of on passed = cond on 1 0 + cond passed 2 0

-- flags and count cleared
abbrev pub clear : Alarm
clear = record { flags = 0; count = 0 }

-- the condition of a value: once on, with C, until it goes off
unfoldable pub holds_at : AlarmSetting → Alarm → ℤ → Bool
holds_at setting alarm value = condition setting (cond (is_on alarm) setting.sensitivity 0) value

-- standby waits for one false tick after start
unfoldable pub waits : AlarmSetting → Alarm → Bool
waits setting alarm = both (standby setting) (not (has_passed alarm))

-- on after a tick whose condition is so: not while standby waits; once on, while it is true, and hold keeps it on; else delay wants the condition on
-- that many ticks running beyond the first, so as many true ones before
unfoldable pub on_after : AlarmSetting → Alarm → Bool → Bool
on_after setting alarm test =
    cond (waits setting alarm) false
    (cond (is_on alarm) (either test (holds setting))
    (both test (leb setting.delay alarm.count)))

-- standby passed, kept 0 without standby
unfoldable pub passed_after : AlarmSetting → Alarm → Bool → Bool
passed_after setting alarm test = both (standby setting) (either (has_passed alarm) (not test))

-- the count is the true ticks so far, 0 after a false one, once on or while standby waits
unfoldable pub count_after : AlarmSetting → Alarm → Bool → ℕ
count_after setting alarm test =
    cond (either (not test) (either (waits setting alarm) (on_after setting alarm test))) 0 (alarm.count + 1)

unfoldable pub alarm_after : AlarmSetting → Alarm → Bool → Alarm
alarm_after setting alarm test =
    record { flags = flags_of (on_after setting alarm test) (passed_after setting alarm test); count = count_after setting alarm test }

-- an alarm judged by a measured whole value and a set value
unfoldable pub judged_by : ℤ → ℤ → AlarmSetting → Alarm → Alarm
judged_by whole set setting alarm = alarm_after setting alarm (holds_at setting alarm (judged_value setting whole set))

-- ---- all four

abbrev pub all_clear : Alarms
all_clear = record { first = clear; second = clear; third = clear; fourth = clear }

-- what a move to a mode leaves: any move to stopped clears flags and counts
unfoldable pub kept_in : ℕ → Alarms → Alarms
kept_in mode alarms = cond (eqb mode 0) all_clear alarms

abbrev pub all_judged : AlarmSettings → ℤ → ℤ → Alarms → Alarms
all_judged settings whole set alarms =
    record {
      first = judged_by whole set settings.first alarms.first;
      second = judged_by whole set settings.second alarms.second;
      third = judged_by whole set settings.third alarms.third;
      fourth = judged_by whole set settings.fourth alarms.fourth;
    }

-- judged if the mode after the tick's own step is 1 or 2; alarms move only on such ticks with a filtered value
unfoldable pub tick_alarms : AlarmSettings → ℕ → Option ℤ → ℤ → Alarms → Alarms
tick_alarms settings mode None set alarms = alarms
tick_alarms settings mode (Some whole) set alarms = cond (either (eqb mode 1) (eqb mode 2)) (all_judged settings whole set alarms) alarms

-- ---- bounds, of a readable record and of a sound state

-- no flag byte above 3 (above 1 without standby, or 1 with it), no count above its delay and, in mode 0, no flag or count that is not 0
unfoldable pub bounded : ℕ → AlarmSetting → Alarm → Bool
bounded mode setting alarm =
    all
    (leb alarm.flags 3
    ∷ cond (standby setting) (not (eqb alarm.flags 1)) (leb alarm.flags 1)
    ∷ leb alarm.count setting.delay
    ∷ either (not (eqb mode 0)) (both (eqb alarm.flags 0) (eqb alarm.count 0))
    ∷ [])

unfoldable pub all_bounded : AlarmSettings → ℕ → Alarms → Bool
all_bounded settings mode alarms =
    all
    (bounded mode settings.first alarms.first
    ∷ bounded mode settings.second alarms.second
    ∷ bounded mode settings.third alarms.third
    ∷ bounded mode settings.fourth alarms.fourth
    ∷ [])
