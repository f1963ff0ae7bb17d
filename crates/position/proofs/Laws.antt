-- The laws of a position: modes 1 and 2, the set value, and what a second, next, a tick, a command and a return leave. Assumes nothing.
use Prim.Native.Nat.{◌≤◌}
use mathlib.Core.Path.{◌≡◌, refl, ap, ◌∙◌}
use mathlib.Core.Bool.{true, false, cond}
use mathlib.Core.Logic.{◌⊎◌, inl, inr, ⊎_elim}
use native.Mathlib.Omega.{arith}
use borrow.Author.Tests.{eq-eqb, eqb-true, ne_eqb}
use lib.Dec.{eqb}
use lib.IntN.{ℤ, pos}
use lib.Signed.{le_z}
use Rattle.setting.specs.declared.Settings.{Settings}
use Rattle.position.specs.declared.Position.{Position}
use Rattle.position.specs.declared.Here.{Here}
use Rattle.position.specs.Tests.{both, either, within, temperature}
use Rattle.position.specs.Program.{timed, active, ramp_of, set_value_of, second_position, next_position, tick_position}
use Rattle.position.specs.Command.{with_mode, stop_position, start_position, pause_position, feed_position, back_position, plus_position, minus_position}
use Rattle.position.specs.Return.{return_position}
use Rattle.position.proofs.Tests.{either-cases, either_left, both_true, choice}
use Rattle.position.proofs.SetValue.{le_refl, above, ramp-at-once, ramp-at-end, ramp-within, ramp-within-down, ramp-range}
use Rattle.position.proofs.Cases.{second-cases, next-cases, tick-cases, start-cases, feed-cases, back-cases, plus-cases, minus-cases, pause-cases, return-cases}
use Rattle.std.specs.Prelude.{Option}

-- ---- modes 1 and 2

pub active-cases : (position : Position) → active position ≡ true → (position.mode ≡ 1) ⊎ (position.mode ≡ 2)
unfolding active
active-cases position holds = ⊎_elim (λ runs. inl (eqb-true _ _ runs)) (λ runs. inr (eqb-true _ _ runs)) (either-cases _ _ holds)

pub running-active : (position : Position) → position.mode ≡ 1 → active position ≡ true
unfolding active
running-active position holds = either_left _ _ (eq-eqb position.mode 1 holds)

pub active-modes : (position : Position) → active position ≡ true → (position.mode ≡ 0 → ⊥) × (position.mode ≡ 3 → ⊥) × (position.mode ≤ 3)
active-modes position holds =
    ⊎_elim (λ known. (λ wrong. omega arith, λ wrong. omega arith, omega arith)) (λ known. (λ wrong. omega arith, λ wrong. omega arith, omega arith))
    (active-cases position holds)

module _ (here : Here) (position : Position) where
  -- ---- the set value

  -- in modes 0 and 3 it is 0
  pub set-idle : active position ≡ false → set_value_of here position ≡ pos 0
  unfolding set_value_of
  set-idle runs = rw runs

  -- in a plain step it is the ramp's, as before there was a timer
  pub set-plain : here.timer ≡ false → set_value_of here position ≡ cond (active position) (ramp_of here position.base position.elapsed) (pos 0)
  unfolding set_value_of
  set-plain plain = rw plain

  module _ (runs : active position ≡ true) where
    -- in the timer it is b, whatever the step's time
    pub set-timer : here.timer ≡ true → set_value_of here position ≡ position.base
    unfolding set_value_of
    set-timer timer = rw (runs, timer)

    -- of a plain step: where T = 0 or it is endless the target
    pub set-at-once : here.timer ≡ false → either (eqb here.time 0) here.endless ≡ true → set_value_of here position ≡ here.target
    set-at-once plain holds = set-plain plain ∙ rw runs (ramp-at-once here position.base position.elapsed holds)

    module _ (based : temperature position.base ≡ true) (aimed : temperature here.target ≡ true) where
      -- at e = T the target
      pub set-at-end : here.timer ≡ false → position.elapsed ≡ here.time → set_value_of here position ≡ here.target
      set-at-end plain holds = set-plain plain ∙ rw runs (ramp-at-end here position.base position.elapsed based aimed (omega arith))

      -- it lies between base and target
      pub set-within : le_z position.base here.target ≡ true → within position.base (set_value_of here position) here.target ≡ true
      unfolding set_value_of within
      set-within holds =
          rw runs
          (choice (λ (value : ℤ). within position.base value here.target ≡ true) here.timer
          (λ _. both_true _ _ (le_refl position.base) holds)
          (λ _. ramp-within here position.base position.elapsed based aimed holds))

      pub set-within-down : le_z position.base here.target ≡ false → within here.target (set_value_of here position) position.base ≡ true
      unfolding set_value_of within
      set-within-down holds =
          rw runs
          (choice (λ (value : ℤ). within here.target value position.base ≡ true) here.timer
          (λ _. both_true _ _ (above position.base here.target holds) (le_refl position.base))
          (λ _. ramp-within-down here position.base position.elapsed based aimed holds))

  -- so it is in the temperature range, in every mode
  pub set-range : temperature here.target ≡ true → temperature position.base ≡ true → temperature (set_value_of here position) ≡ true
  unfolding set_value_of temperature within both
  set-range aimed based =
      choice (λ (value : ℤ). temperature value ≡ true) (active position)
      (λ _. choice (λ (value : ℤ). temperature value ≡ true) here.timer (λ _. based) (λ _. ramp-range here position.base position.elapsed based aimed))
      (λ _. refl)

  -- ---- what a move leaves

  -- a tick outside mode 1 changes nothing
  pub tick-idle : (whole : Option ℤ) → (position.mode ≡ 1 → ⊥) → tick_position here whole position ≡ position
  unfolding tick_position
  tick-idle whole holds = rw (ne_eqb position.mode 1 holds)

  -- a second, plus and minus change e and w alone
  abbrev pub Retimed : Position → Type 0
  Retimed other = other ≡ timed position other.elapsed other.waited

  pub second-keeps : Retimed (second_position here position)
  second-keeps = second-cases Retimed here position (λ _. refl) (λ _ _. refl) (λ _ _. refl)

  pub plus-keeps : Retimed (plus_position here position)
  plus-keeps = plus-cases Retimed here position (λ _. refl) (λ _. refl)

  pub minus-keeps : Retimed (minus_position here position)
  minus-keeps = minus-cases Retimed here position (λ _. refl) (λ _ _. refl) (λ _ _. refl)

  -- pause changes the mode alone
  pub pause-keeps : pause_position position ≡ with_mode position (pause_position position).mode
  pause-keeps = pause-cases (λ (other : Position). other ≡ with_mode position other.mode) here position refl refl

  -- so of a tick only next changes the step
  pub tick-step : (whole : Option ℤ)
      → (tick_position here whole position ≡ next_position here (second_position here position)) ⊎ ((tick_position here whole position).step ≡ position.step)
  tick-step whole =
      tick-cases (λ (other : Position). (other ≡ next_position here (second_position here position)) ⊎ (other.step ≡ position.step)) here position whole
      (λ _. inr refl) (λ _ _. inl refl) (λ _ _. inr (ap (λ (other : Position). other.step) second-keeps))

  -- a return keeps the step or goes to stopped
  pub return-step : (settings : Settings) (whole : Option ℤ)
      → (return_position settings here whole position ≡ stop_position position.pattern) ⊎ ((return_position settings here whole position).step ≡ position.step)
  return-step settings whole =
      return-cases (λ (other : Position). (other ≡ stop_position position.pattern) ⊎ (other.step ≡ position.step)) here position settings whole
      (inr refl) (λ _. inl refl) (λ _. inr refl)

-- nothing but a select changes the pattern
abbrev pub SamePattern : Position → Position → Type 0
SamePattern position other = other.pattern ≡ position.pattern

pub next-pattern : (here : Here) (position : Position) → SamePattern position (next_position here position)
next-pattern here position = next-cases (SamePattern position) here position (λ _. refl) (λ _. refl) refl

module _ (here : Here) (position : Position) where
  pub tick-pattern : (whole : Option ℤ) → SamePattern position (tick_position here whole position)
  tick-pattern whole =
      let holds : SamePattern position (second_position here position) = ap (λ (other : Position). other.pattern) (second-keeps here position) in
      tick-cases (SamePattern position) here position whole (λ _. refl) (λ _ _. next-pattern here (second_position here position) ∙ holds) (λ _ _. holds)

  pub start-pattern : (settings : Settings) (b : ℤ) → SamePattern position (start_position settings here position b)
  start-pattern settings b = start-cases (SamePattern position) here position settings b refl (λ _. refl) refl

  pub feed-pattern : SamePattern position (feed_position here position)
  feed-pattern = feed-cases (SamePattern position) here position refl (next-pattern here position)

  pub back-pattern : SamePattern position (back_position here position)
  back-pattern = back-cases (SamePattern position) here position (λ _. refl) refl

  pub plus-pattern : SamePattern position (plus_position here position)
  plus-pattern = ap (λ (other : Position). other.pattern) (plus-keeps here position)

  pub minus-pattern : SamePattern position (minus_position here position)
  minus-pattern = ap (λ (other : Position). other.pattern) (minus-keeps here position)

  pub pause-pattern : SamePattern position (pause_position position)
  pause-pattern = ap (λ (other : Position). other.pattern) (pause-keeps here position)

  pub return-pattern : (settings : Settings) (whole : Option ℤ) → SamePattern position (return_position settings here whole position)
  return-pattern settings whole = return-cases (SamePattern position) here position settings whole refl (λ _. refl) (λ _. refl)
