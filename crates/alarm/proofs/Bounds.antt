-- The bounds of the alarms: a tick keeps them, a move to any mode keeps them, cleared alarms are within them, and while stopped only those are. No
-- law here asks that the settings are in range.
-- Assumes nothing.
use Prim.Native.Nat.{ℕ, ◌+◌, ◌≤◌, ◌<◌}
use mathlib.Core.Path.{◌≡◌, refl, sym}
use mathlib.Core.Bool.{Bool, true, false, false≢true, cond, not}
use mathlib.Core.List.{[], ◌∷◌}
use mathlib.Core.Logic.{⊎_elim}
use native.Mathlib.Omega.{arith}
use borrow.Author.Tests.{le-leb, leb-true, leb-false, eqb-true, eqb-false, ne_eqb}
use lib.Dec.{eqb, leb}
use lib.IntN.{ℤ}
use Rattle.position.specs.Tests.{both, either, all}
use Rattle.position.proofs.Tests.{both_left, both_right, both_true, either-cases, choice}
use Rattle.alarm.specs.declared.AlarmSetting.{AlarmSetting}
use Rattle.alarm.specs.declared.AlarmSettings.{AlarmSettings}
use Rattle.alarm.specs.declared.Alarm.{Alarm}
use Rattle.alarm.specs.declared.Alarms.{Alarms}
use Rattle.alarm.specs.Alarm.{holds, standby, is_on, has_passed, flags_of, clear, waits, on_after, passed_after, count_after, alarm_after, judged_by, all_clear, kept_in, all_judged, tick_alarms, bounded, all_bounded}
use Rattle.std.specs.Prelude.{Option, None, Some}

-- ---- the four

-- four tests that all hold, each
pub each_holds : (first second third fourth : Bool) → all (first ∷ second ∷ third ∷ fourth ∷ []) ≡ true
    → (first ≡ true) × (second ≡ true) × (third ≡ true) × (fourth ≡ true)
unfolding all
each_holds first second third fourth known =
    let after_one = both_right _ _ known in
    let after_two = both_right _ _ after_one in
    (both_left _ _ known, both_left _ _ after_one, both_left _ _ after_two, both_left _ _ (both_right _ _ after_two))

-- what holds of each alarm with its setting
pub record Each (P : AlarmSetting → Alarm → Type 0) (settings : AlarmSettings) (alarms : Alarms) : Type 0 where
  pub first : P settings.first alarms.first
  pub second : P settings.second alarms.second
  pub third : P settings.third alarms.third
  pub fourth : P settings.fourth alarms.fourth

-- an alarm within its bounds
abbrev pub Within : ℕ → AlarmSetting → Alarm → Type 0
Within mode setting alarm = bounded mode setting alarm ≡ true

-- all are within them if each is
pub each-bounded : (settings : AlarmSettings) (mode : ℕ) (alarms : Alarms) → all_bounded settings mode alarms ≡ true → Each (Within mode) settings alarms
unfolding all_bounded
each-bounded settings mode alarms holds =
    let each = each_holds _ _ _ _ holds in
    record { first = each.0; second = each.1; third = each.2; fourth = each.3 }

pub all-bounded : (settings : AlarmSettings) (mode : ℕ) (alarms : Alarms) → Each (Within mode) settings alarms → all_bounded settings mode alarms ≡ true
unfolding all_bounded all
all-bounded settings mode alarms each =
    both_true _ _ each.first (both_true _ _ each.second (both_true _ _ each.third (both_true _ _ each.fourth refl)))

-- ---- a judged tick

-- a count that grows is below the delay, whatever it was
pub grows : (setting : AlarmSetting) (alarm : Alarm) (test : Bool)
    → either (not test) (either (waits setting alarm) (on_after setting alarm test)) ≡ false → alarm.count < setting.delay
unfolding on_after either both
grows setting alarm test none = go test (waits setting alarm) (is_on alarm) (leb setting.delay alarm.count) refl none
  where
    go : (test waiting on reached : Bool) → leb setting.delay alarm.count ≡ reached
        → either (not test) (either waiting (cond waiting false (cond on (either test (holds setting)) (both test reached)))) ≡ false
        → alarm.count < setting.delay
    go false waiting on reached known none = absurd (false≢true (sym none))
    go true true on reached known none = absurd (false≢true (sym none))
    go true false true reached known none = absurd (false≢true (sym none))
    go true false false true known none = absurd (false≢true (sym none))
    go true false false false known none = leb-false setting.delay alarm.count known

flags-low : (on passed : Bool) → leb (flags_of on passed) 3 ≡ true
unfolding flags_of
flags-low true true = refl
flags-low true false = refl
flags-low false true = refl
flags-low false false = refl

-- the bounds of a flag byte by the standby of its setting
abbrev byte_right : Bool → ℕ → Bool
byte_right by flags = cond by (not (eqb flags 1)) (leb flags 1)

flags-right : (by passed on test : Bool) → (both by (not passed) ≡ true → on ≡ false) → byte_right by (flags_of on (both by (either passed (not test)))) ≡ true
unfolding flags_of both either
flags-right false passed true test off = refl
flags-right false passed false test off = refl
flags-right true true true test off = refl
flags-right true true false test off = refl
flags-right true false on true off = rw (off refl)
flags-right true false on false off = rw (off refl)

waits-off : (setting : AlarmSetting) (alarm : Alarm) (test : Bool) → waits setting alarm ≡ true → on_after setting alarm test ≡ false
unfolding on_after
waits-off setting alarm test waiting = rw waiting

-- it leaves an alarm within its bounds, whatever it was before, in every mode but 0
pub after-bounded : (setting : AlarmSetting) (mode : ℕ) (alarm : Alarm) (test : Bool) → (mode ≡ 0 → ⊥) → Within mode setting (alarm_after setting alarm test)
unfolding bounded all alarm_after passed_after count_after waits either
after-bounded setting mode alarm test other =
    both_true _ _ (flags-low (on_after setting alarm test) (passed_after setting alarm test))
    (both_true _ _ (flags-right (standby setting) (has_passed alarm) (on_after setting alarm test) test (waits-off setting alarm test))
    (both_true _ _
    (choice (λ (count : ℕ). leb count setting.delay ≡ true) (either (not test) (either (waits setting alarm) (on_after setting alarm test)))
    (λ _. le-leb 0 setting.delay (omega arith))
    (λ none. le-leb (alarm.count + 1) setting.delay (omega (arith, grows setting alarm test none))))
    (both_true _ _ (rw (ne_eqb mode 0 other)) refl)))

-- so a tick keeps the bounds
pub tick-bounded : (settings : AlarmSettings) (mode : ℕ) (whole : Option ℤ) (set : ℤ) (alarms : Alarms)
    → all_bounded settings mode alarms ≡ true → all_bounded settings mode (tick_alarms settings mode whole set alarms) ≡ true
unfolding tick_alarms judged_by
tick-bounded settings mode None set alarms holds = holds
tick-bounded settings mode (Some whole) set alarms holds =
    choice (λ (left : Alarms). all_bounded settings mode left ≡ true) (either (eqb mode 1) (eqb mode 2))
    (λ judged. all-bounded settings mode (all_judged settings whole set alarms)
    (record { first = one judged _ _ _; second = one judged _ _ _; third = one judged _ _ _; fourth = one judged _ _ _ }))
    (λ _. holds)
  where
    one : either (eqb mode 1) (eqb mode 2) ≡ true → (setting : AlarmSetting) (alarm : Alarm) (test : Bool) → Within mode setting (alarm_after setting alarm test)
    one judged setting alarm test =
        after-bounded setting mode alarm test
        (λ stopped. ⊎_elim (λ (is : eqb mode 1 ≡ true). let same = eqb-true mode 1 is in omega arith) (λ (is : eqb mode 2 ≡ true). let same = eqb-true mode 2 is in omega arith)
        (either-cases _ _ judged))

-- ---- clearing, and a change of mode

-- a cleared alarm is within the bounds of every mode
clear_within : (setting : AlarmSetting) (mode : ℕ) → Within mode setting clear
unfolding bounded all both either
clear_within setting mode =
    let low : leb 0 setting.delay ≡ true = le-leb 0 setting.delay (omega arith) in
    go (standby setting) (eqb mode 0) low
  where
    go : (by stopped : Bool) → leb 0 setting.delay ≡ true → both (cond by true true) (both (leb 0 setting.delay) (both (either (not stopped) true) true)) ≡ true
    go true true low = rw low
    go true false low = rw low
    go false true low = rw low
    go false false low = rw low

pub clear-bounded : (settings : AlarmSettings) (mode : ℕ) → all_bounded settings mode all_clear ≡ true
clear-bounded settings mode =
    all-bounded settings mode all_clear
    (record { first = clear_within _ mode; second = clear_within _ mode; third = clear_within _ mode; fourth = clear_within _ mode })

-- a change of mode, but to stopped, keeps them
within-mode : (mode other : ℕ) (setting : AlarmSetting) (alarm : Alarm) → (other ≡ 0 → ⊥) → Within mode setting alarm → Within other setting alarm
unfolding bounded all either
within-mode mode other setting alarm moving holds =
    let each = each_holds _ _ _ _ holds in
    both_true _ _ each.0 (both_true _ _ each.1 (both_true _ _ each.2 (both_true _ _ (rw (ne_eqb other 0 moving)) refl)))

pub mode-bounded : (settings : AlarmSettings) (mode other : ℕ) (alarms : Alarms) → (other ≡ 0 → ⊥)
    → all_bounded settings mode alarms ≡ true → all_bounded settings other alarms ≡ true
mode-bounded settings mode other alarms moving holds =
    let each = each-bounded settings mode alarms holds in
    all-bounded settings other alarms
    (record {
      first = within-mode mode other _ _ moving each.first;
      second = within-mode mode other _ _ moving each.second;
      third = within-mode mode other _ _ moving each.third;
      fourth = within-mode mode other _ _ moving each.fourth;
    })

-- so a move to any mode keeps them
pub kept-bounded : (settings : AlarmSettings) (mode other : ℕ) (alarms : Alarms)
    → all_bounded settings mode alarms ≡ true → all_bounded settings other (kept_in other alarms) ≡ true
unfolding kept_in
kept-bounded settings mode other alarms holds =
    choice (λ (left : Alarms). all_bounded settings other left ≡ true) (eqb other 0) (λ _. clear-bounded settings other)
    (λ moving. mode-bounded settings mode other alarms (eqb-false other 0 moving) holds)

-- while stopped only cleared alarms are within them
stopped-within : (setting : AlarmSetting) (alarm : Alarm) → Within 0 setting alarm → alarm ≡ clear
unfolding bounded either
stopped-within setting alarm holds =
    let none = (each_holds _ _ _ _ holds).3 in
    λ i. record { flags = eqb-true alarm.flags 0 (both_left _ _ none) i; count = eqb-true alarm.count 0 (both_right _ _ none) i }

pub stopped-clear : (settings : AlarmSettings) (alarms : Alarms) → all_bounded settings 0 alarms ≡ true → alarms ≡ all_clear
stopped-clear settings alarms holds =
    let each = each-bounded settings 0 alarms holds in
    λ i. record {
      first = stopped-within settings.first alarms.first each.first i;
      second = stopped-within settings.second alarms.second each.second i;
      third = stopped-within settings.third alarms.third each.third i;
      fourth = stopped-within settings.fourth alarms.fourth each.fourth i;
    }

-- ---- how large

-- flags up to 3, and a count up to the delay
pub record Small (setting : AlarmSetting) (alarm : Alarm) : Type 0 where
  pub flags : alarm.flags ≤ 3
  pub count : alarm.count ≤ setting.delay

within-small : (mode : ℕ) (setting : AlarmSetting) (alarm : Alarm) → Within mode setting alarm → Small setting alarm
unfolding bounded
within-small mode setting alarm holds =
    let each = each_holds _ _ _ _ holds in
    record { flags = leb-true alarm.flags 3 each.0; count = leb-true alarm.count setting.delay each.2 }

pub bounded-small : (settings : AlarmSettings) (mode : ℕ) (alarms : Alarms) → all_bounded settings mode alarms ≡ true → Each Small settings alarms
bounded-small settings mode alarms holds =
    let each = each-bounded settings mode alarms holds in
    record {
      first = within-small mode _ _ each.first;
      second = within-small mode _ _ each.second;
      third = within-small mode _ _ each.third;
      fourth = within-small mode _ _ each.fourth;
    }
