-- Making by what it is refused for.
-- Assumes nothing.
use mathlib.Core.Path.{◌≡◌, refl, sym, ap, ◌∙◌}
use mathlib.Core.Bool.{Bool, true, false, cond, not}
use mathlib.Core.List.{List}
use Prim.Native.Nat.{ℕ}
use Rattle.setting.specs.Found.{Checked, unless, numbers_of}
use Rattle.setting.proofs.Laws.{numbers-tell}
use Rattle.bank.specs.Check.{found_in}
use Rattle.alarm.specs.Alarm.{all_in_range}
use Rattle.plain.specs.declared.Refusal.{Refusal}
use Rattle.plain.specs.declared.AnyRefusal.{AnyRefusal}
use Rattle.plain.specs.Record.{sized}
use Rattle.plain.specs.Setup.{Setup}
use Rattle.plain.specs.Event.{After, dark, after, retained_in, make_outcome}
use Rattle.making.specs.Ran.{allowed_by, begun}
use Rattle.std.specs.Prelude.{Result, Ok, Err, MatchResult, IsErrAnd}
use Rattle.std.proofs.lemmas.Result.{err_from_is_err_and}

-- what a refusal leaves, or else what making leaves
abbrev pub made : Setup → List ℕ → Result (Unit {0}) AnyRefusal → After
made setup store (Ok done) = begun setup
made setup store (Err refusal) = after dark store (Err refusal)

-- the bank's refusal is one of a call, and ends it; where there is none, the call goes on
abbrev pub of_bank : Checked → Result (Unit {0}) AnyRefusal → Result (Unit {0}) AnyRefusal
of_bank found rest = unless found (λ refusal. Err (AnyRefusal.Bank refusal)) rest

mapped-is : (found : Checked) (mapped : Result (Unit {0}) AnyRefusal)
    → MatchResult found (λ x. mapped ≡ Ok x) (λ e. IsErrAnd mapped (λ y. y ≡ AnyRefusal.Bank e)) → mapped ≡ of_bank found (Ok tt)
mapped-is (Ok done) mapped h = h
mapped-is (Err refusal) mapped h = let p = err_from_is_err_and mapped h in rw (p.1, p.2)

module _ (bank : List ℕ) (checked : Checked) (mapped : Result (Unit {0}) AnyRefusal) (same : numbers_of checked ≡ numbers_of (found_in bank))
    (cases : MatchResult checked (λ x. mapped ≡ Ok x) (λ e. IsErrAnd mapped (λ y. y ≡ AnyRefusal.Bank e))) (rest : Result (Unit {0}) AnyRefusal) where
  found-is : of_bank (found_in bank) (Ok tt) ≡ mapped
  found-is = sym (mapped-is checked mapped cases ∙ ap (λ found. of_bank found (Ok tt)) (numbers-tell checked (found_in bank) same))

  pub bank-ends : {refusal : AnyRefusal} → mapped ≡ Err refusal → Err refusal ≡ of_bank (found_in bank) rest
  bank-ends {refusal = refusal} h = go (found_in bank) (found-is ∙ h)
    where
      go : (found : Checked) → of_bank found (Ok tt) ≡ Err refusal → Err refusal ≡ of_bank found rest
      go (Ok done) e = cc
      go (Err refusal) e = sym e

  pub bank-goes : mapped ≡ Ok tt → of_bank (found_in bank) rest ≡ rest
  bank-goes h = go (found_in bank) (found-is ∙ h)
    where
      go : (found : Checked) → of_bank found (Ok tt) ≡ Ok tt → of_bank found rest ≡ rest
      go (Ok done) e = refl
      go (Err refusal) e = cc

-- the refusals, by what is found of the bank, the record and the settings of the alarms
abbrev by_tests : Checked → Bool → Bool → Result (Unit {0}) AnyRefusal
by_tests found fits right =
    unless found (λ refusal. Err (AnyRefusal.Bank refusal))
    (cond (not fits) (Err (AnyRefusal.Own Refusal.Buffer)) (cond (not right) (Err (AnyRefusal.Own Refusal.AlarmSetting)) (Ok tt)))

module _ (setup : Setup) (store : List ℕ) where
  pub make_is : make_outcome setup store ≡ made setup store (allowed_by setup store)
  unfolding make_outcome allowed_by retained_in
  make_is = go (found_in setup.bank) (sized store) (all_in_range setup.config.alarms)
    where
      go : (found : Checked) (fits right : Bool)
          → unless found (λ refusal. after dark store (Err (AnyRefusal.Bank refusal)))
          (cond (not fits) (after dark store (Err (AnyRefusal.Own Refusal.Buffer)))
          (cond (not right) (after dark store (Err (AnyRefusal.Own Refusal.AlarmSetting))) (begun setup)))
          ≡ made setup store (by_tests found fits right)
      go (Err refusal) fits right = refl
      go (Ok done) false right = refl
      go (Ok done) true false = refl
      go (Ok done) true true = refl

  pub allowed_sized : allowed_by setup store ≡ Ok tt → sized store ≡ true
  unfolding allowed_by retained_in
  allowed_sized = go (found_in setup.bank) (sized store) (all_in_range setup.config.alarms)
    where
      go : (found : Checked) (fits right : Bool) → by_tests found fits right ≡ Ok tt → fits ≡ true
      go (Err refusal) fits right h = cc
      go (Ok done) false right h = cc
      go (Ok done) true right h = refl
