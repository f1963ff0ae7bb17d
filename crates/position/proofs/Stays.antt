-- Parts of what keeps a position readable. Assumes nothing.
use Prim.Native.Nat.{ℕ, ◌+◌, ◌-◌, ◌≤◌, ◌<◌, min}
use mathlib.Core.Path.{◌≡◌, refl, sym, ap, ◌∙◌, subst}
use mathlib.Core.Bool.{Bool, true, false, false≢true, not}
use mathlib.Core.Logic.{⊎_elim}
use native.Mathlib.Omega.{arith}
use borrow.Author.Tests.{le-leb, leb-false, eq-eqb, eqb-true, eqb-false}
use lib.Dec.{eqb, leb}
use Rattle.setting.specs.declared.Settings.{Settings}
use Rattle.position.specs.declared.Position.{Position}
use Rattle.position.specs.declared.Here.{Here}
use Rattle.position.specs.Tests.{both, temperature, within, zero_z}
use Rattle.position.specs.Program.{active, timed, placed, end_position, set_value_of, second_position, leaves_of, next_position}
use Rattle.position.specs.Command.{with_mode, stop_position}
use Rattle.position.specs.Return.{times_right, cleared_of, readable_of}
use Rattle.position.proofs.Tests.{both_true, both_false, either-false}
use Rattle.position.proofs.Cases.{second-cases, next-cases}
use Rattle.position.proofs.Laws.{active-modes, set-range}
use Rattle.position.proofs.Readable as R
use Rattle.position.proofs.Readable.{Early, Placed}
use Rattle.std.specs.Prelude.{Option}
use lib.IntN.{ℤ}

-- ---- e = w = 0

module _ (settings : Settings) (here : Here) (position : Position) where
  -- in modes 1 and 2 a position with e = w = 0 is readable by its place and base, whatever its step is
  pub fresh : active position ≡ true → position.elapsed ≡ 0 → position.waited ≡ 0
      → Placed settings here position.pattern position.step position.pass → temperature position.base ≡ true
      → readable_of settings here position ≡ true
  fresh runs no-time no-wait place based = R.readable-active settings here position runs place based (R.times_zero here position no-time no-wait)

  pub ended : Placed settings here position.pattern position.step position.pass → readable_of settings here (end_position position) ≡ true
  unfolding cleared_of zero_z both temperature within
  ended place = R.readable-at settings here (end_position position) (omega arith) (λ stopped. omega arith) place refl refl

pub stopped : (settings : Settings) (here : Here) (p : ℕ) → 1 ≤ p → p ≤ settings.patterns → readable_of settings here (stop_position p) ≡ true
unfolding readable_of cleared_of zero_z both
stopped settings here p low high =
    both_true (both (leb 1 p) (leb p settings.patterns)) true (both_true _ _ (le-leb 1 p low) (le-leb p settings.patterns high)) refl

-- another step or pass of the same pattern
pub elsewhere : {settings : Settings} {here there : Here} {p k r : ℕ} → Placed settings here p k r → (step pass : ℕ)
    → 1 ≤ step → step ≤ there.count → 1 ≤ pass → pass ≤ there.limit → Placed settings there p step pass
elsewhere place step pass some-step in-steps some-pass in-passes =
    record {
      pattern-low = place.pattern-low;
      pattern-high = place.pattern-high;
      step-low = some-step;
      step-high = in-steps;
      pass-low = some-pass;
      pass-high = in-passes;
    }

-- next, from a right place
pub next-readable : (settings : Settings) (here there : Here) (position : Position) → there.count ≡ here.count → there.limit ≡ here.limit
    → active position ≡ true → Placed settings here position.pattern position.step position.pass
    → temperature position.base ≡ true → temperature here.target ≡ true → readable_of settings there (next_position here position) ≡ true
unfolding active
next-readable settings here there position same_count same-limit runs place based aimed =
    let range = set-range here position aimed based in
    next-cases (λ (other : Position). readable_of settings there other ≡ true) here position
    (λ below. fresh settings there (placed position (position.step + 1) position.pass (set_value_of here position)) runs refl refl
    (elsewhere place (position.step + 1) position.pass (omega arith) (omega arith) (omega arith) (omega arith)) range)
    (λ below. fresh settings there (placed position 1 (position.pass + 1) (set_value_of here position)) runs refl refl
    (elsewhere place 1 (position.pass + 1) (omega arith) (omega arith) (omega arith) (omega arith)) range)
    (ended settings there position (elsewhere place position.step position.pass (omega arith) (omega arith) (omega arith) (omega arith)))

-- ---- a place kept, other times or another mode

module _ (settings : Settings) (here : Here) (position : Position) (runs : active position ≡ true) (holds : readable_of settings here position ≡ true) where
  pub timed-readable : (e w : ℕ) → times_right here (timed position e w) ≡ true → readable_of settings here (timed position e w) ≡ true
  unfolding active
  timed-readable e w right =
      let not_stopped = (active-modes position runs).0 in
      R.readable-active settings here (timed position e w) runs (R.placed settings here position not_stopped holds) (R.base-range settings here position not_stopped holds) right

  -- the same of a position that keeps all but e and w
  pub kept-readable : (other : Position) → other ≡ timed position other.elapsed other.waited
      → times_right here other ≡ true → readable_of settings here other ≡ true
  kept-readable other kept right =
      subst (λ (moved : Position). readable_of settings here moved ≡ true) (sym kept)
      (timed-readable other.elapsed other.waited (subst (λ (moved : Position). times_right here moved ≡ true) kept right))

  pub mode-readable : (mode : ℕ) → active (with_mode position mode) ≡ true → readable_of settings here (with_mode position mode) ≡ true
  unfolding times_right
  mode-readable mode still-runs =
      let not_stopped = (active-modes position runs).0 in
      R.readable-active settings here (with_mode position mode) still-runs (R.placed settings here position not_stopped holds) (R.base-range settings here position not_stopped holds)
      (R.times-right settings here position runs holds)

-- ---- the times of a step that ends

module _ (here : Here) (position : Position) (ends : here.endless ≡ false) where
  pub early : position.waited ≡ 0 → position.elapsed ≤ here.time → times_right here position ≡ true
  early no-waiting timely = R.times-early here position (record { no-wait = no-waiting; in-time = rw ends timely })

  in-time : Early here position.elapsed position.waited → position.elapsed ≤ here.time
  in-time timely = rw ends at timely.in-time

  pub most : times_right here position ≡ true → position.elapsed ≤ here.time
  most right = ⊎_elim (λ timely. in-time timely) (λ late. omega (arith, late.over)) (R.times-cases here position right)

  -- before the end of its time it has not waited
  pub unwaited : times_right here position ≡ true → position.elapsed < here.time → position.waited ≡ 0
  unwaited right low = ⊎_elim (λ timely. timely.no-wait) (λ late. absurd (omega (arith, late.over, low))) (R.times-cases here position right)

  -- where it has waited the wait is not over
  pub waiting : times_right here position ≡ true → 0 < position.waited → position.waited < here.wait
  waiting right low = ⊎_elim (λ timely. absurd (omega (arith, timely.no-wait, low))) (λ late. late.in-wait) (R.times-cases here position right)

  -- a step that is not left at the end of its time still waits
  pub not_left : (whole : Option ℤ) → position.elapsed ≡ here.time → leaves_of here whole position ≡ false → position.waited < here.wait
  unfolding leaves_of
  not_left whole over stays =
      let tests = both_false _ _ (ap not ends) stays in
      let waits = both_false _ _ (eq-eqb position.elapsed here.time over) tests in
      leb-false _ _ (either-false _ _ (either-false _ _ waits).1).1

  -- a minute less of a wait
  pub less-waited : times_right here position ≡ true → here.time ≤ position.elapsed → 60 ≤ position.waited
      → times_right here (timed position position.elapsed (position.waited - 60)) ≡ true
  less-waited right low high = go (eqb position.waited 60) refl
    where
      go : (test : Bool) → eqb position.waited 60 ≡ test → times_right here (timed position position.elapsed (position.waited - 60)) ≡ true
      go true known =
          let sixty : position.waited ≡ 60 = eqb-true _ _ known in
          R.times-early here (timed position position.elapsed (position.waited - 60)) (record { no-wait = omega arith; in-time = rw ends (most right) })
      go false known =
          let sixty : position.waited ≡ 60 → ⊥ = eqb-false _ _ known in
          R.times-late here (timed position position.elapsed (position.waited - 60))
          (record {
            ends = ends;
            over = omega (arith, most right);
            waits = omega arith;
            in-wait = omega (arith, waiting right (omega arith));
          })

-- a second of a step that is not left after it
pub second-times : (here : Here) (whole : Option ℤ) (position : Position) → times_right here position ≡ true
    → leaves_of here whole (second_position here position) ≡ false → times_right here (second_position here position) ≡ true
second-times here whole position right =
    second-cases (λ (other : Position). leaves_of here whole other ≡ false → times_right here other ≡ true) here position
    (λ endless _.
    let none : position.waited ≡ 0 =
    ⊎_elim (λ timely. timely.no-wait) (λ late. absurd (false≢true (sym late.ends ∙ endless))) (R.times-cases here position right) in
    R.times-early here (timed position (min (position.elapsed + 1) 359999) position.waited) (record { no-wait = none; in-time = rw endless (omega arith) }))
    (λ ends low _. early here (timed position (position.elapsed + 1) position.waited) ends (unwaited here position ends right low) (omega arith))
    (λ ends past stays.
    let over : position.elapsed ≡ here.time = omega (arith, most here position ends right) in
    let after = timed position position.elapsed (min (position.waited + 1) 4294967295) in
    R.times-late here after (record { ends = ends; over = over; waits = omega arith; in-wait = not_left here after ends whole over stays }))
