-- Sensitivity only widens: what is true of an alarm that is off is true of it once on.
-- Assumes nothing.
use Prim.Native.Nat.{ℕ, zero, suc, ◌+◌, ◌-◌}
use mathlib.Core.Path.{◌≡◌, refl}
use mathlib.Core.Bool.{Bool, true, false, false≢true, cond}
use mathlib.Core.Logic.{⊎_elim}
use native.Mathlib.Omega.{arith}
use borrow.Author.Tests.{ltb-true, ltb-false, leb-true, le-leb}
use lib.Dec.{ltb}
use lib.IntN.{ℤ, pos, negsuc, sub_ℕ, ◌+ℤ◌, ◌-ℤ◌, +ℤ_idr}
use lib.Signed.{le_z}
use Rattle.position.specs.Tests.{both, either, within}
use Rattle.position.proofs.Raised.{sub-ge, sub-lt}
use Rattle.position.proofs.Tests.{both_left, both_right, both_true, either-cases, either_left, either-right}
use Rattle.alarm.specs.declared.AlarmSetting.{AlarmSetting}
use Rattle.alarm.specs.Alarm.{is_kind, condition}
use Rattle.alarm.proofs.Ticks.{judged_at, going, stays}

-- a bound below a value, lowered, and one above it, raised
lower : (bound value : ℤ) (widening : ℕ) → le_z (bound -ℤ pos 0) value ≡ true → le_z (bound -ℤ pos widening) value ≡ true
lower bound value zero known = known
lower (pos bound) (pos value) (suc widening) known = go (ltb bound (suc widening)) refl
  where
    go : (test : Bool) → ltb bound (suc widening) ≡ test → le_z (sub_ℕ bound (suc widening)) (pos value) ≡ true
    go true below = rw (sub-lt bound (suc widening) (ltb-true bound (suc widening) below))
    go false below =
        rw (sub-ge bound (suc widening) (ltb-false bound (suc widening) below))
        (le-leb (bound - suc widening) value (omega (arith, leb-true (bound + 0) value known)))
lower (pos bound) (negsuc value) (suc widening) known = absurd (false≢true known)
lower (negsuc bound) (pos value) (suc widening) known = refl
lower (negsuc bound) (negsuc value) (suc widening) known =
    le-leb value (suc (bound + widening)) (omega (arith, leb-true value bound (rw (+ℤ_idr (negsuc bound)) at known)))

raise : (value bound : ℤ) (widening : ℕ) → le_z value (bound +ℤ pos 0) ≡ true → le_z value (bound +ℤ pos widening) ≡ true
raise value bound zero known = known
raise (pos value) (pos bound) (suc widening) known = le-leb value (bound + suc widening) (omega (arith, leb-true value (bound + 0) known))
raise (pos value) (negsuc bound) (suc widening) known = absurd (false≢true (rw (+ℤ_idr (negsuc bound)) at known))
raise (negsuc value) (pos bound) (suc widening) known = refl
raise (negsuc value) (negsuc bound) (suc widening) known = go (ltb (suc widening) (suc bound)) refl
  where
    go : (test : Bool) → ltb (suc widening) (suc bound) ≡ test → le_z (negsuc value) (sub_ℕ (suc widening) (suc bound)) ≡ true
    go true below =
        rw (sub-lt (suc widening) (suc bound) (ltb-true _ _ below))
        (le-leb (suc bound - suc (suc widening)) value (omega (arith, leb-true bound value (rw (+ℤ_idr (negsuc bound)) at known))))
    go false below = rw (sub-ge (suc widening) (suc bound) (ltb-false _ _ below))

-- the condition only widens
pub widens : (setting : AlarmSetting) (widening : ℕ) (value : ℤ) → condition setting 0 value ≡ true → condition setting widening value ≡ true
unfolding condition within
widens setting widening value = go (is_kind setting 1) (is_kind setting 2) (is_kind setting 3) (is_kind setting 4)
  where
    go : (outside high low inside : Bool)
        → cond outside (either (le_z (setting.high -ℤ pos 0) value) (le_z value (setting.low +ℤ pos 0)))
        (cond high (le_z (setting.high -ℤ pos 0) value)
        (cond low (le_z value (setting.low +ℤ pos 0))
        (both inside (both (le_z (setting.low -ℤ pos 0) value) (le_z value (setting.high +ℤ pos 0))))))
        ≡ true
        → cond outside (either (le_z (setting.high -ℤ pos widening) value) (le_z value (setting.low +ℤ pos widening)))
        (cond high (le_z (setting.high -ℤ pos widening) value)
        (cond low (le_z value (setting.low +ℤ pos widening))
        (both inside (both (le_z (setting.low -ℤ pos widening) value) (le_z value (setting.high +ℤ pos widening))))))
        ≡ true
    go true high low inside known =
        ⊎_elim (λ over. either_left _ _ (lower setting.high value widening over)) (λ under. either-right _ _ (raise value setting.low widening under))
        (either-cases _ _ known)
    go false true low inside known = lower setting.high value widening known
    go false false true inside known = raise value setting.low widening known
    go false false false inside known =
        let ends = both_right _ _ known in
        both_true _ _ (both_left _ _ known)
        (both_true _ _ (lower setting.low value widening (both_left _ _ ends)) (raise value setting.high widening (both_right _ _ ends)))

-- so an alarm stays on at a value that turned it on
pub steady : (setting : AlarmSetting) (count : ℕ) (value : ℤ) → condition setting 0 value ≡ true → judged_at setting (going setting true count) value ≡ going setting true 0
unfolding either
steady setting count value known = rw (stays setting count value, widens setting setting.sensitivity value known)
