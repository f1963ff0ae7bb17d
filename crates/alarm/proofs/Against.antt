-- Laws that shut out wrong alarms. Each says in its comment which one. They rest on the definitions alone.
-- Assumes nothing.
use Prim.Native.Nat.{ℕ, zero, suc, ◌+◌, ◌-◌}
use mathlib.Core.Path.{◌≡◌, refl, sym, ◌∙◌}
use mathlib.Core.Bool.{Bool, true, false}
use mathlib.Core.List.{[], ◌∷◌}
use native.Mathlib.Omega.{arith}
use borrow.Author.Tests.{ltb-true, ltb-false, le-leb, lt-leb}
use lib.Dec.{leb, ltb}
use lib.IntN.{ℤ, pos, negsuc, sub_ℕ, ◌-ℤ◌, +ℤ_idr}
use lib.Signed.{le_z}
use Rattle.position.specs.Tests.{both, either, all, within, temperature}
use Rattle.position.proofs.Raised.{sub-ge, sub-lt}
use Rattle.position.proofs.Tests.{same}
use Rattle.alarm.specs.declared.AlarmSetting.{AlarmSetting}
use Rattle.alarm.specs.declared.AlarmSettings.{AlarmSettings}
use Rattle.alarm.specs.declared.Alarm.{Alarm}
use Rattle.alarm.specs.declared.Alarms.{Alarms}
use Rattle.alarm.specs.Alarm.{in_range, judged_value, condition, flags_of, clear, holds_at, waits, on_after, passed_after, count_after, alarm_after, all_clear, kept_in, all_judged, tick_alarms, bounded}
use Rattle.alarm.proofs.Ticks.{judged_over}
use Rattle.std.specs.Prelude.{Some}

-- the setting of this kind, H, L, C, delay and flags; and the alarm of these flags and count
abbrev made : ℕ → ℤ → ℤ → ℕ → ℕ → ℕ → AlarmSetting
made kind high low sensitivity delay flags = record { kind = kind; high = high; low = low; sensitivity = sensitivity; delay = delay; flags = flags }

abbrev at : ℕ → ℕ → Alarm
at flags count = record { flags = flags; count = count }

-- ---- settings

-- the order of L and H is asked of kinds 4 and 8, and of no other
pub order-asked : (in_range (made 4 (pos 400) (pos 500) 0 0 0) ≡ false) × (in_range (made 8 (pos 400) (pos 500) 0 0 0) ≡ false)
unfolding in_range all both either within temperature
order-asked = (refl, refl)

pub order-free : (in_range (made 1 (pos 400) (pos 500) 0 0 0) ≡ true) × (in_range (made 7 (pos 400) (pos 500) 0 0 0) ≡ true)
unfolding in_range all both either within temperature
order-free = (refl, refl)

-- a bound that the kind does not use is judged too
pub unused-judged : (in_range (made 0 (pos 30000) (pos 0) 0 0 0) ≡ false) × (in_range (made 6 (pos 0) (pos 30000) 0 0 0) ≡ false)
unfolding in_range all both either within temperature
unused-judged = (refl, refl)

-- the ends of the ranges are in them, and one past each is not
pub ends-in : (in_range (made 8 (pos 29999) (negsuc 19998) 9999 9999 3) ≡ true) × (in_range (made 9 (pos 0) (pos 0) 0 0 0) ≡ false)
unfolding in_range all both either within temperature
ends-in = (refl, refl)

pub ends-out : (in_range (made 0 (pos 0) (pos 0) 10000 0 0) ≡ false)
    × (in_range (made 0 (pos 0) (pos 0) 0 10000 0) ≡ false)
    × (in_range (made 0 (pos 0) (pos 0) 0 0 4) ≡ false)
unfolding in_range all both either within temperature
ends-out = (refl, refl, refl)

-- ---- the condition

-- 0 is at most a difference where what is taken away is at most the other
less : (first second : ℕ) → le_z (pos 0) (sub_ℕ first second) ≡ leb second first
less first second = go (ltb first second) refl
  where
    go : (test : Bool) → ltb first second ≡ test → le_z (pos 0) (sub_ℕ first second) ≡ leb second first
    go true known = rw (sub-lt first second (ltb-true first second known)) (sym (lt-leb second first (ltb-true first second known)))
    go false known =
        rw (sub-ge first second (ltb-false first second known))
        (le-leb 0 (first - second) (omega arith) ∙ sym (le-leb second first (ltb-false first second known)))

difference : (whole set : ℤ) → le_z (pos 0) (whole -ℤ set) ≡ le_z set whole
difference (pos whole) (pos zero) = le-leb 0 (whole + 0) (omega arith) ∙ sym (le-leb 0 whole (omega arith))
difference (pos whole) (pos (suc set)) = less whole (suc set)
difference (pos whole) (negsuc set) = le-leb 0 (whole + suc set) (omega arith)
difference (negsuc whole) (pos zero) = rw (+ℤ_idr (negsuc whole))
difference (negsuc whole) (pos (suc set)) = refl
difference (negsuc whole) (negsuc set) = less (suc set) (suc whole) ∙ same (suc whole) (suc set) whole set (λ known. omega arith) (λ known. omega arith)

-- kinds 1 to 4 judge the measured value less the set value, and not the set value less the measured value: with H 0, kind 2 is true exactly where the
-- set value is at most the measured value
pub measured-less-set : (low : ℤ) (sensitivity delay flags : ℕ) (whole set : ℤ)
    → let setting = made 2 (pos 0) low sensitivity delay flags in condition setting 0 (judged_value setting whole set) ≡ le_z set whole
unfolding condition judged_value either
measured-less-set low sensitivity delay flags whole set = difference whole set

-- kinds 5 to 8 judge the measured value, whatever the set value is
pub measured-alone : judged_value (made 5 (pos 0) (pos 0) 0 0 0) (pos 450) (pos 600) ≡ pos 450
unfolding judged_value
measured-alone = refl

-- sensitivity lowers an "at least H" and raises an "at most L", and not the other way round
pub high-lowered : (condition (made 6 (pos 500) (pos 0) 50 0 0) 50 (pos 450) ≡ true) × (condition (made 6 (pos 500) (pos 0) 50 0 0) 50 (pos 449) ≡ false)
unfolding condition either
high-lowered = (refl, refl)

pub low-raised : (condition (made 7 (pos 0) (pos 100) 50 0 0) 50 (pos 150) ≡ true) × (condition (made 7 (pos 0) (pos 100) 50 0 0) 50 (pos 151) ≡ false)
unfolding condition either
low-raised = (refl, refl)

-- kind 5 keeps on by either side, whichever turned it on
pub either_side : judged_over (made 5 (pos 500) (pos 100) 50 0 0) clear (pos 500 ∷ pos 150 ∷ []) ≡ at 1 0
unfolding judged_over condition holds_at alarm_after waits on_after passed_after count_after flags_of both either
either_side = refl

-- the range widens at both ends
pub range-widened : (condition (made 8 (pos 500) (pos 100) 50 0 0) 50 (pos 550) ≡ true) × (condition (made 8 (pos 500) (pos 100) 50 0 0) 50 (pos 50) ≡ true)
unfolding condition both either within
range-widened = (refl, refl)

-- not before it is on: H − C does not turn it on
pub not-before : judged_over (made 6 (pos 500) (pos 0) 50 0 0) clear (pos 450 ∷ []) ≡ clear
unfolding judged_over condition holds_at alarm_after waits on_after passed_after count_after flags_of both either
not-before = refl

-- ---- an alarm

-- delay 2: on at the third true tick, and neither at the second nor at the fourth
pub second-off : judged_over (made 6 (pos 500) (pos 0) 0 2 0) clear (pos 500 ∷ pos 500 ∷ []) ≡ at 0 2
unfolding judged_over condition holds_at alarm_after waits on_after passed_after count_after flags_of both either
second-off = refl

pub third-on : judged_over (made 6 (pos 500) (pos 0) 0 2 0) clear (pos 500 ∷ pos 500 ∷ pos 500 ∷ []) ≡ at 1 0
unfolding judged_over condition holds_at alarm_after waits on_after passed_after count_after flags_of both either
third-on = refl

-- a false tick breaks the row
pub false-breaks : judged_over (made 6 (pos 500) (pos 0) 0 2 0) clear (pos 500 ∷ pos 499 ∷ pos 500 ∷ []) ≡ at 0 1
unfolding judged_over condition holds_at alarm_after waits on_after passed_after count_after flags_of both either
false-breaks = refl

-- once on the count stays 0, and a count that was left there goes
pub on-counts-none : judged_over (made 6 (pos 500) (pos 0) 0 3 0) (at 1 2) (pos 500 ∷ []) ≡ at 1 0
unfolding judged_over condition holds_at alarm_after waits on_after passed_after count_after flags_of both either
on-counts-none = refl

-- hold keeps it on, and without hold it goes off
pub hold-keeps : judged_over (made 6 (pos 500) (pos 0) 0 0 1) clear (pos 500 ∷ pos 0 ∷ []) ≡ at 1 0
unfolding judged_over condition holds_at alarm_after waits on_after passed_after count_after flags_of both either
hold-keeps = refl

pub off-without : judged_over (made 6 (pos 500) (pos 0) 0 0 0) clear (pos 500 ∷ pos 0 ∷ []) ≡ clear
unfolding judged_over condition holds_at alarm_after waits on_after passed_after count_after flags_of both either
off-without = refl

-- standby is passed by a false tick and by no true one, and is then not asked again
pub true-waits : judged_over (made 6 (pos 500) (pos 0) 0 1 2) clear (pos 600 ∷ pos 600 ∷ pos 600 ∷ []) ≡ clear
unfolding judged_over condition holds_at alarm_after waits on_after passed_after count_after flags_of both either
true-waits = refl

pub false-passes : judged_over (made 6 (pos 500) (pos 0) 0 1 2) clear (pos 600 ∷ pos 499 ∷ pos 600 ∷ pos 600 ∷ []) ≡ at 3 0
unfolding judged_over condition holds_at alarm_after waits on_after passed_after count_after flags_of both either
false-passes = refl

-- kind 0 with standby: never true, so the first judged tick passes it
pub none_passes : judged_over (made 0 (pos 0) (pos 0) 0 0 2) clear (pos 0 ∷ []) ≡ at 2 0
unfolding judged_over condition holds_at alarm_after waits on_after passed_after count_after flags_of both either
none_passes = refl

-- ---- all four

module _ (settings : AlarmSettings) (whole set : ℤ) (alarms : Alarms) where
  -- paused ticks are judged as running ones are
  pub paused-judged : (tick_alarms settings 1 (Some whole) set alarms ≡ all_judged settings whole set alarms)
      × (tick_alarms settings 2 (Some whole) set alarms ≡ all_judged settings whole set alarms)
  unfolding tick_alarms either
  paused-judged = (refl, refl)

  -- stopped and ended ones are not
  pub ended-stays : (tick_alarms settings 0 (Some whole) set alarms ≡ alarms) × (tick_alarms settings 3 (Some whole) set alarms ≡ alarms)
  unfolding tick_alarms either
  ended-stays = (refl, refl)

-- a move to stopped clears, and an end does not
pub stopped-clears : (alarms : Alarms) → (kept_in 0 alarms ≡ all_clear) × (kept_in 3 alarms ≡ alarms)
unfolding kept_in
stopped-clears alarms = (refl, refl)

-- ---- bounds

-- a count up to the delay is within them, and one above it is not
pub count-bounded : (bounded 1 (made 6 (pos 0) (pos 0) 0 3 0) (at 0 3) ≡ true) × (bounded 1 (made 6 (pos 0) (pos 0) 0 3 0) (at 0 4) ≡ false)
unfolding bounded all both either
count-bounded = (refl, refl)

-- a count once on is within them too
pub on-bounded : bounded 1 (made 6 (pos 0) (pos 0) 0 3 0) (at 1 2) ≡ true
unfolding bounded all both either
on-bounded = refl

-- with standby flags 0, 2 and 3, and not 1
pub standby-bytes : (bounded 1 (made 6 (pos 0) (pos 0) 0 0 2) (at 1 0) ≡ false)
    × (bounded 1 (made 6 (pos 0) (pos 0) 0 0 2) (at 2 0) ≡ true)
    × (bounded 1 (made 6 (pos 0) (pos 0) 0 0 2) (at 3 0) ≡ true)
unfolding bounded all both either
standby-bytes = (refl, refl, refl)

-- without it 0 and 1, and not 2
pub plain-bytes : (bounded 1 (made 6 (pos 0) (pos 0) 0 0 0) (at 1 0) ≡ true) × (bounded 1 (made 6 (pos 0) (pos 0) 0 0 0) (at 2 0) ≡ false)
unfolding bounded all both either
plain-bytes = (refl, refl)

-- none above 3
pub high_byte : bounded 1 (made 6 (pos 0) (pos 0) 0 0 2) (at 4 0) ≡ false
unfolding bounded all both either
high_byte = refl

-- while stopped neither a flag nor a count
pub stopped-bytes : (bounded 0 (made 6 (pos 0) (pos 0) 0 3 0) (at 1 0) ≡ false) × (bounded 0 (made 6 (pos 0) (pos 0) 0 3 0) (at 0 1) ≡ false)
unfolding bounded all both either
stopped-bytes = (refl, refl)
