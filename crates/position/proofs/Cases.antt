-- A second, next, a tick, each command and a return by their cases: what holds of each position that they may leave holds of the one that
-- they leave. Assumes nothing.
use Prim.Native.Nat.{ℕ, ◌+◌, ◌-◌, ◌≤◌, ◌<◌, min}
use mathlib.Core.Path.{◌≡◌}
use mathlib.Core.Bool.{true, false, not}
use borrow.Author.Tests.{ltb-true, ltb-false, eqb-true, eqb-false, leb-true, leb-false, not-false}
use lib.Dec.{eqb, ltb, leb}
use lib.IntN.{ℤ}
use Rattle.setting.specs.declared.Settings.{Settings}
use Rattle.position.specs.declared.Position.{Position}
use Rattle.position.specs.declared.Here.{Here}
use Rattle.position.specs.Tests.{both, either}
use Rattle.position.specs.Program.{timed, placed, active, set_value_of, second_position, leaves_of, next_position, end_position, tick_position}
use Rattle.position.specs.Command.{with_mode, stop_position, begin_position, start_position, pause_position, feed_position, back_position, plus_position, minus_position}
use Rattle.position.specs.Return.{goes_on, return_position}
use Rattle.position.proofs.Tests.{choice}
use Rattle.std.specs.Prelude.{Option}

module _ (P : Position → Type 0) (here : Here) (position : Position) where
  pub second-cases : (here.endless ≡ true → P (timed position (min (position.elapsed + 1) 359999) position.waited))
      → (here.endless ≡ false → position.elapsed < here.time → P (timed position (position.elapsed + 1) position.waited))
      → (here.endless ≡ false → here.time ≤ position.elapsed → P (timed position position.elapsed (min (position.waited + 1) 4294967295)))
      → P (second_position here position)
  unfolding second_position
  second-cases first second third =
      choice P here.endless first
      (λ holds. choice P (ltb position.elapsed here.time) (λ also. second holds (ltb-true _ _ also)) (λ also. third holds (ltb-false _ _ also)))

  pub next-cases : (position.step < here.count → P (placed position (position.step + 1) position.pass (set_value_of here position)))
      → (position.pass < here.limit → P (placed position 1 (position.pass + 1) (set_value_of here position)))
      → P (end_position position)
      → P (next_position here position)
  unfolding next_position
  next-cases first second third =
      choice P (ltb position.step here.count) (λ holds. first (ltb-true _ _ holds))
      (λ _. choice P (ltb position.pass here.limit) (λ holds. second (ltb-true _ _ holds)) (λ _. third))

  pub tick-cases : (whole : Option ℤ)
      → ((position.mode ≡ 1 → ⊥) → P position)
      → (position.mode ≡ 1 → leaves_of here whole (second_position here position) ≡ true → P (next_position here (second_position here position)))
      → (position.mode ≡ 1 → leaves_of here whole (second_position here position) ≡ false → P (second_position here position))
      → P (tick_position here whole position)
  unfolding tick_position
  tick-cases whole first second third =
      choice P (eqb position.mode 1)
      (λ holds. choice P (leaves_of here whole (second_position here position)) (second (eqb-true _ _ holds)) (third (eqb-true _ _ holds)))
      (λ holds. first (eqb-false _ _ holds))

  -- of the start `here` is what the bank says at step 1 in pass 1
  pub start-cases : (settings : Settings) (b : ℤ)
      → P (begin_position position 1 b) → (1 < here.count → P (begin_position position 2 b)) → P (end_position (begin_position position 1 b))
      → P (start_position settings here position b)
  unfolding start_position
  start-cases settings b first second third =
      choice P (either (not (eqb settings.start 0)) here.timer) (λ _. first)
      (λ _. choice P (ltb 1 here.count) (λ holds. second (ltb-true _ _ holds)) (λ _. third))

  pub feed-cases : P (end_position position) → P (next_position here position) → P (feed_position here position)
  unfolding feed_position
  feed-cases first second = choice P here.endless (λ _. first) (λ _. second)

  pub back-cases : (1 < position.step → P (placed position (position.step - 1) position.pass (set_value_of here position)))
      → P (timed position 0 0) → P (back_position here position)
  unfolding back_position
  back-cases first second = choice P (ltb 1 position.step) (λ holds. first (ltb-true _ _ holds)) (λ _. second)

  pub plus-cases : (position.elapsed < here.time → P (timed position (position.elapsed + 60) position.waited))
      → (here.time ≤ position.elapsed → P (timed position position.elapsed (position.waited + 60)))
      → P (plus_position here position)
  unfolding plus_position
  plus-cases first second = choice P (ltb position.elapsed here.time) (λ holds. first (ltb-true _ _ holds)) (λ holds. second (ltb-false _ _ holds))

  pub minus-cases : (position.elapsed < here.time → P (timed position (position.elapsed - 60) position.waited))
      → (here.time ≤ position.elapsed → 60 ≤ position.waited → P (timed position position.elapsed (position.waited - 60)))
      → (here.time ≤ position.elapsed → position.waited < 60 → P (timed position (here.time - 60) 0))
      → P (minus_position here position)
  unfolding minus_position
  minus-cases first second third =
      choice P (ltb position.elapsed here.time) (λ holds. first (ltb-true _ _ holds))
      (λ holds. choice P (leb 60 position.waited) (λ also. second (ltb-false _ _ holds) (leb-true _ _ also)) (λ also. third (ltb-false _ _ holds) (leb-false _ _ also)))

  pub pause-cases : P (with_mode position 2) → P (with_mode position 1) → P (pause_position position)
  unfolding pause_position
  pause-cases first second = choice (λ (mode : ℕ). P (with_mode position mode)) (eqb position.mode 1) (λ _. first) (λ _. second)

  pub return-cases : (settings : Settings) (whole : Option ℤ)
      → P position → (active position ≡ true → P (stop_position position.pattern)) → (active position ≡ true → P (with_mode position 2))
      → P (return_position settings here whole position)
  unfolding return_position
  return-cases settings whole first second third =
      choice P (not (active position)) (λ _. first)
      (λ holds.
      let runs = not-false (active position) holds in
      choice P (eqb settings.outage 0) (λ _. second runs)
      (λ _. choice P (both (eqb position.mode 1) (both (not (eqb settings.outage 1)) (goes_on settings here whole position)))
      (λ _. first) (λ _. third runs)))
