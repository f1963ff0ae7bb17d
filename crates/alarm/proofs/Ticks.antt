-- One alarm, whatever its setting, over judged ticks in a row, each given by the value that it judges: delay, sensitivity, hold, standby, kind 0. And
-- the ticks that judge none.
-- Assumes nothing.
use Prim.Native.Nat.{ℕ, zero, suc, ◌+◌, ◌%◌, ◌≤◌, ◌<◌}
use mathlib.Core.Path.{◌≡◌, refl, sym, ap, ◌∙◌}
use mathlib.Core.Bool.{Bool, true, false, false≢true, cond, not}
use mathlib.Core.List.{List, [], ◌∷◌}
use native.Mathlib.Nat.{add-zero}
use native.Mathlib.Omega.{arith}
use borrow.Author.Tests.{le-leb, lt-leb, leb-true, ne_eqb}
use lib.Dec.{eqb, leb}
use lib.IntN.{ℤ}
use lib.ListN.{length}
use Rattle.position.specs.Tests.{both, either, all}
use Rattle.position.proofs.Tests.{both_left, both_right, either-right}
use Rattle.alarm.specs.declared.AlarmSetting.{AlarmSetting}
use Rattle.alarm.specs.declared.AlarmSettings.{AlarmSettings}
use Rattle.alarm.specs.declared.Alarm.{Alarm}
use Rattle.alarm.specs.declared.Alarms.{Alarms}
use Rattle.alarm.specs.Alarm.{odd, holds, standby, judged_value, condition, is_on, flags_of, clear, holds_at, waits, on_after, passed_after, count_after, alarm_after, judged_by, tick_alarms, bounded}
use Rattle.alarm.proofs.Bounds.{Within}
use Rattle.std.specs.Prelude.{Option, None, Some}

-- a judged tick at a value
abbrev pub judged_at : AlarmSetting → Alarm → ℤ → Alarm
judged_at setting alarm value = alarm_after setting alarm (holds_at setting alarm value)

pub judged-at : (setting : AlarmSetting) (whole set : ℤ) (alarm : Alarm) → judged_by whole set setting alarm ≡ judged_at setting alarm (judged_value setting whole set)
unfolding judged_by
judged-at setting whole set alarm = refl

-- such ticks in a row
unfoldable pub judged_over : AlarmSetting → Alarm → List ℤ → Alarm
judged_over setting alarm [] = alarm
judged_over setting alarm (value ∷ values) = judged_over setting (judged_at setting alarm value) values

-- the condition is true at each
unfoldable pub each_true : AlarmSetting → ℕ → List ℤ → Bool
each_true setting widening [] = true
each_true setting widening (value ∷ values) = both (condition setting widening value) (each_true setting widening values)

-- it is on after each
unfoldable pub each_on : AlarmSetting → Alarm → List ℤ → Bool
each_on setting alarm [] = true
each_on setting alarm (value ∷ values) = both (is_on (judged_at setting alarm value)) (each_on setting (judged_at setting alarm value) values)

-- an alarm that does not wait: there is no standby, or it has passed
abbrev pub going : AlarmSetting → Bool → ℕ → Alarm
going setting on count = record { flags = flags_of on (standby setting); count = count }

-- without standby a cleared alarm is one
pub going-clear : (setting : AlarmSetting) → standby setting ≡ false → going setting false 0 ≡ clear
unfolding flags_of
going-clear setting none = rw none

-- and so is every alarm within its bounds that is on
pub going_on : (setting : AlarmSetting) (mode : ℕ) (alarm : Alarm) → Within mode setting alarm → is_on alarm ≡ true → alarm ≡ going setting true alarm.count
unfolding bounded all flags_of
going_on setting mode alarm within on =
    λ i. record { flags = byte alarm.flags (standby setting) (both_left _ _ within) (both_left _ _ (both_right _ _ within)) on i; count = alarm.count }
  where
    byte : (flags : ℕ) (by : Bool) → leb flags 3 ≡ true → cond by (not (eqb flags 1)) (leb flags 1) ≡ true → odd flags ≡ true → flags ≡ flags_of true by
    byte zero by low right on = absurd (false≢true on)
    byte (suc zero) true low right on = absurd (false≢true right)
    byte (suc zero) false low right on = refl
    byte (suc (suc zero)) by low right on = absurd (false≢true on)
    byte (suc (suc (suc zero))) true low right on = refl
    byte (suc (suc (suc zero))) false low right on = absurd (false≢true right)
    byte (suc (suc (suc (suc flags)))) by low right on = absurd (omega (arith, leb-true (suc (suc (suc (suc flags)))) 3 low))

-- ---- one tick of an alarm that does not wait

-- on after it: once on, while the condition is true or with hold; else with as many true ticks before as the delay
abbrev pub next_on : AlarmSetting → Bool → ℕ → Bool → Bool
next_on setting on count test = cond on (either test (holds setting)) (both test (leb setting.delay count))

next : (setting : AlarmSetting) (on : Bool) (count : ℕ) (test : Bool)
    → alarm_after setting (going setting on count) test
    ≡ going setting (next_on setting on count test) (cond (either (not test) (next_on setting on count test)) 0 (count + 1))
unfolding alarm_after waits on_after passed_after count_after flags_of both either
next setting on count test = go (standby setting) on test refl
  where
    go : (by on test : Bool) → standby setting ≡ by
        → alarm_after setting (record { flags = flags_of on by; count = count }) test
        ≡ record { flags = flags_of (next_on setting on count test) by; count = cond (either (not test) (next_on setting on count test)) 0 (count + 1) }
    go true true true known = rw known
    go true true false known = rw known
    go true false true known = rw known
    go true false false known = rw known
    go false true true known = rw known
    go false true false known = rw known
    go false false true known = rw known
    go false false false known = rw known

is-on : (setting : AlarmSetting) (on : Bool) (count : ℕ) → is_on (going setting on count) ≡ on
unfolding flags_of
is-on setting on count = go on (standby setting)
  where
    go : (on by : Bool) → is_on (record { flags = flags_of on by; count = count }) ≡ on
    go true true = refl
    go true false = refl
    go false true = refl
    go false false = refl

-- the tick, by its condition
by-test : (setting : AlarmSetting) (on : Bool) (count : ℕ) (value : ℤ) (test : Bool) → condition setting (cond on setting.sensitivity 0) value ≡ test
    → judged_at setting (going setting on count) value
    ≡ going setting (next_on setting on count test) (cond (either (not test) (next_on setting on count test)) 0 (count + 1))
unfolding holds_at
by-test setting on count value test known = rw (is-on setting on count, known) (next setting on count test)

module _ (setting : AlarmSetting) (count : ℕ) (value : ℤ) where
  -- off and true, below the delay: one more
  pub counts : condition setting 0 value ≡ true → count < setting.delay → judged_at setting (going setting false count) value ≡ going setting false (count + 1)
  unfolding both either
  counts known below = by-test setting false count value true known ∙ rw (lt-leb setting.delay count below)

  -- at the delay: on
  pub rises : condition setting 0 value ≡ true → setting.delay ≤ count → judged_at setting (going setting false count) value ≡ going setting true 0
  unfolding both either
  rises known reached = by-test setting false count value true known ∙ rw (le-leb setting.delay count reached)

  -- off and false: the count is 0
  pub breaks : condition setting 0 value ≡ false → judged_at setting (going setting false count) value ≡ going setting false 0
  unfolding both either
  breaks known = by-test setting false count value false known

  -- once on it stays on while the condition with C is true, or with hold
  pub stays : judged_at setting (going setting true count) value ≡ going setting (either (condition setting setting.sensitivity value) (holds setting)) 0
  unfolding either
  stays = go (condition setting setting.sensitivity value) refl
    where
      go : (test : Bool) → condition setting setting.sensitivity value ≡ test
          → judged_at setting (going setting true count) value ≡ going setting (either test (holds setting)) 0
      go true known = by-test setting true count value true known
      go false known = by-test setting true count value false known

-- ---- ticks in a row

module _ (setting : AlarmSetting) where
  -- delay: true ticks up to the delay are counted and leave it off
  pub delayed : (count : ℕ) (values : List ℤ) → each_true setting 0 values ≡ true → count + length values ≤ setting.delay
      → judged_over setting (going setting false count) values ≡ going setting false (count + length values)
  unfolding judged_over each_true
  delayed count [] known low = rw (add-zero count)
  delayed count (value ∷ values) known low =
      let sum : count + 1 + length values ≡ count + suc (length values) = omega arith in
      rw (counts setting count value (both_left _ _ known) (omega arith)) (delayed (count + 1) values (both_right _ _ known) (omega arith) ∙ ap (going setting false) sum)

  -- and one more turns it on, with count 0
  pub turned_on : (count : ℕ) (values : List ℤ) → each_true setting 0 values ≡ true → count ≤ setting.delay → count + length values ≡ setting.delay + 1
      → judged_over setting (going setting false count) values ≡ going setting true 0
  unfolding judged_over each_true
  turned_on count [] known low sum = absurd (omega arith)
  turned_on count (value ∷ []) known low sum = rises setting count value (both_left _ _ known) (omega arith)
  turned_on count (value ∷ (second ∷ values)) known low sum =
      rw (counts setting count value (both_left _ _ known) (omega arith))
      (turned_on (count + 1) (second ∷ values) (both_right _ _ known) (omega arith) (omega arith))

  -- so from cleared, without standby: as many true ticks as the delay leave it off with that count, and the next turns it on
  module _ (none : standby setting ≡ false) (values : List ℤ) (known : each_true setting 0 values ≡ true) where
    pub delayed-clear : length values ≤ setting.delay → judged_over setting clear values ≡ record { flags = 0; count = length values }
    unfolding flags_of
    delayed-clear low =
        let sum : 0 + length values ≡ length values = omega arith in
        ap (λ (alarm : Alarm). judged_over setting alarm values) (sym (going-clear setting none)) ∙ delayed 0 values known (omega arith) ∙ rw (none, sum)

    pub on-clear : length values ≡ setting.delay + 1 → judged_over setting clear values ≡ record { flags = 1; count = 0 }
    unfolding flags_of
    on-clear sum =
        ap (λ (alarm : Alarm). judged_over setting alarm values) (sym (going-clear setting none)) ∙ turned_on 0 values known (omega arith) (omega arith) ∙ rw none

  -- once on without hold it stays on exactly while the condition with C is true
  pub on-exactly : holds setting ≡ false → (count : ℕ) (values : List ℤ)
      → each_on setting (going setting true count) values ≡ each_true setting setting.sensitivity values
  unfolding each_on each_true both either
  on-exactly none count [] = refl
  on-exactly none count (value ∷ values) = go (condition setting setting.sensitivity value) refl (on-exactly none 0 values)
    where
      go : (test : Bool) → condition setting setting.sensitivity value ≡ test
          → each_on setting (going setting true 0) values ≡ each_true setting setting.sensitivity values
          → both (is_on (judged_at setting (going setting true count) value)) (each_on setting (judged_at setting (going setting true count) value) values)
          ≡ both test (each_true setting setting.sensitivity values)
      go true known rest = rw (stays setting count value, known, is-on setting true 0) rest
      go false known rest = rw (stays setting count value, known, none, is-on setting false 0)

  -- and the first tick at which it is not leaves it off, with count 0
  pub off_at : (count : ℕ) (value : ℤ) → holds setting ≡ false → condition setting setting.sensitivity value ≡ false
      → judged_at setting (going setting true count) value ≡ going setting false 0
  unfolding either
  off_at count value none known = stays setting count value ∙ rw (known, none)

  -- hold keeps it on until cleared
  pub held : holds setting ≡ true → (count : ℕ) (values : List ℤ) → each_on setting (going setting true count) values ≡ true
  unfolding each_on both
  held hold count [] = refl
  held hold count (value ∷ values) =
      rw (stays setting count value, either-right (condition setting setting.sensitivity value) (holds setting) hold, is-on setting true 0) (held hold 0 values)

  -- standby waits for one false tick after start: true ones leave the alarm cleared
  module _ (by : standby setting ≡ true) where
    waits-at : (test : Bool) → alarm_after setting clear test ≡ record { flags = cond test 0 2; count = 0 }
    unfolding alarm_after waits on_after passed_after count_after flags_of both either
    waits-at true = rw by
    waits-at false = rw by

    pub waiting : (values : List ℤ) → each_true setting 0 values ≡ true → judged_over setting clear values ≡ clear
    unfolding holds_at judged_over each_true
    waiting [] known = refl
    waiting (value ∷ values) known = rw (both_left _ _ known, waits-at true) (waiting values (both_right _ _ known))

    -- and the false one passes standby and leaves it off
    pub passes : (value : ℤ) → condition setting 0 value ≡ false → judged_at setting clear value ≡ going setting false 0
    unfolding holds_at flags_of
    passes value known = rw known (waits-at false ∙ rw by)

  -- kind 0 is never true
  pub never : setting.kind ≡ 0 → (widening : ℕ) (value : ℤ) → condition setting widening value ≡ false
  unfolding condition both either
  never none widening value = rw none

  -- so it never goes on
  off-after : (alarm : Alarm) → is_on alarm ≡ false → is_on (alarm_after setting alarm false) ≡ false
  unfolding alarm_after on_after flags_of both either
  off-after alarm off = rw off (go (waits setting alarm) (passed_after setting alarm false))
    where
      go : (waiting passed : Bool) → eqb ((cond (cond waiting false false) 1 0 + cond passed 2 0) % 2) 1 ≡ false
      go true true = refl
      go true false = refl
      go false true = refl
      go false false = refl

  pub never_on : setting.kind ≡ 0 → (alarm : Alarm) (values : List ℤ) → is_on alarm ≡ false → is_on (judged_over setting alarm values) ≡ false
  unfolding holds_at judged_over
  never_on none alarm [] off = off
  never_on none alarm (value ∷ values) off = never_on none (judged_at setting alarm value) values (rw (never none _ value) (off-after alarm off))

-- ---- ticks that judge none

module _ (settings : AlarmSettings) (set : ℤ) (alarms : Alarms) where
  -- without a filtered value flags and counts stay
  pub unfiltered-stays : (mode : ℕ) → tick_alarms settings mode None set alarms ≡ alarms
  unfolding tick_alarms
  unfiltered-stays mode = refl

  -- and so they do outside modes 1 and 2
  pub unjudged-stays : (mode : ℕ) (whole : Option ℤ) → (mode ≡ 1 → ⊥) → (mode ≡ 2 → ⊥) → tick_alarms settings mode whole set alarms ≡ alarms
  unfolding tick_alarms either
  unjudged-stays mode None running paused = refl
  unjudged-stays mode (Some whole) running paused = rw (ne_eqb mode 1 running, ne_eqb mode 2 paused)
