-- The timer before the first ramp over a setup: what is shown and credited in it, through outages; and a start that ends at once.
-- Assumes nothing.
use mathlib.Core.Path.{◌≡◌, refl, sym, ◌∙◌}
use mathlib.Core.Bool.{true, false, cond, not}
use Prim.Native.Nat.{ℕ, ◌+◌, ◌<◌}
use native.Mathlib.Omega.{arith}
use borrow.Author.Tests.{ne_eqb}
use lib.Dec.{eqb}
use lib.IntN.{ℤ, pos}
use Rattle.bank.specs.View.{place_of}
use Rattle.measure.specs.Filter.{whole_of}
use Rattle.measure.specs.declared.Reading.{Reading}
use Rattle.position.specs.Tests.{both, either}
use Rattle.position.specs.Program.{here_of, active, set_value_of, end_position}
use Rattle.position.specs.Command.{takes_of, selects_of, is_start, is_value, lacks_value, stuck_of, start_base, begin_position, start_position, command_position}
use Rattle.position.specs.declared.Position.{Position}
use Rattle.position.specs.declared.Command.{Command}
use Rattle.position.proofs.Timer.{Timed, timer-is, timer-shows, later-said, start-value-said, begins-first, begins-ended}
use Rattle.alarm.specs.Alarm.{all_in_range, all_clear, kept_in}
use Rattle.outage.specs.Outage.{RemainingOf, ◌▹◌, plain, replay}
use Rattle.outage.specs.Credit.{one, has-start, since}
use Rattle.plain.specs.declared.Run.{Run}
use Rattle.plain.specs.declared.Credit.{Credit}
use Rattle.plain.specs.declared.Refusal.{Refusal}
use Rattle.plain.specs.Setup.{Setup, settings_in, here_in, first_in}
use Rattle.plain.specs.Answer.{is_accepted}
use Rattle.plain.specs.Run.{sound_in, tick_credit}
use Rattle.plain.specs.Refusals.{sound_state}
use Rattle.plain.specs.Event.{refused, press_effect}
use Rattle.plain.specs.Replay.{Live, tick, press, plain_effect, machine, counted_in, starts_with, counted}
use Rattle.plain.proofs.Good.{first_count}

module _ (setup : Setup) (position : Position) where
  -- from pass 2 on, and under start choice 1, what is said is what was said before there was a timer: that of a plain step
  abbrev PlainIn : Type 0
  PlainIn = here_in setup position ≡ here_of (settings_in setup) (place_of setup.bank position.pattern position.step)

  pub later-in : 1 < position.pass → PlainIn
  unfolding here_in
  later-in holds = later-said setup.bank (settings_in setup) position holds

  pub start-value-in : (settings_in setup).start ≡ 1 → PlainIn
  unfolding here_in
  start-value-in holds = start-value-said setup.bank (settings_in setup) position (λ none. omega (arith, holds, none))

  -- and so is where a run begins under start choice 1
  pub start-value-begins : (settings_in setup).start ≡ 1 → (b : ℤ)
      → start_position (settings_in setup) (first_in setup position) position b ≡ begin_position position 1 b
  start-value-begins holds b = begins-first (settings_in setup) (first_in setup position) position b (λ none. omega (arith, holds, none))

  module _ (timer : (here_in setup position).timer ≡ true) where
    pub timed : Timed (settings_in setup) (place_of setup.bank position.pattern position.step) position.step position.pass
    unfolding here_in
    timed = timer-is _ _ _ _ timer

    -- b is shown, at every e
    pub timer-shown : active position ≡ true → set_value_of (here_in setup position) position ≡ position.base
    unfolding here_in
    timer-shown runs = timer-shows _ _ position timer runs

    -- a second is credited to step 1
    pub timer-credit : position.mode ≡ 1 → tick_credit position ≡ Credit.Cook 1
    unfolding tick_credit
    timer-credit running = rw (running, timed.step)

-- ---- a start that ends at once

-- no refusal meets it: the state is sound, its mode takes a start, there is a filtered value. Under start choice 0 the pattern has one step, which is
-- no timer
pub record EndsAtOnce (setup : Setup) (run : Run) : Type 0 where
  pub settings : all_in_range setup.config.alarms ≡ true
  pub sound : sound_in setup run ≡ true
  pub takes : takes_of Command.Start run.position.mode ≡ true
  pub value : is_value (whole_of run.measured) ≡ true
  pub choice : (settings_in setup).start ≡ 0
  pub one-step : (first_in setup run.position).count ≡ 1
  pub plain_step : (first_in setup run.position).timer ≡ false

module _ (setup : Setup) (run : Run) (ends : EndsAtOnce setup run) where
  some-value : lacks_value (settings_in setup) (whole_of run.measured) ≡ false
  unfolding lacks_value both
  some-value = rw (ends.choice, ends.value)

  -- it is accepted
  pub ends-done : plain_effect setup true run (press Command.Start) ≡ press_effect setup run Command.Start
  unfolding plain_effect sound_state selects_of is_start stuck_of both either
  ends-done =
      let count : (here_in setup run.position).count ≡ 1 = sym (first_count setup run.position run.position refl) ∙ ends.one-step in
      let some-step = ne_eqb (here_in setup run.position).count 0 (λ none. omega (arith, count, none)) in
      let deny = refused true run in
      λ i. cond (not (ends.sound i)) (deny Refusal.Unsound)
      (cond (not (ends.settings i)) (deny Refusal.AlarmSetting)
      (cond (not (ends.takes i)) (deny Refusal.WrongMode)
      (cond (some-step i) (deny Refusal.NoStep)
      (cond (some-value i) (deny Refusal.NoValue) (press_effect setup run Command.Start)))))

  -- it leaves the run ended with k = r = 1, u 0 and the alarms cleared
  pub ends-run : (press_effect setup run Command.Start).run
      ≡ record { position = end_position (begin_position run.position 1 (pos 0)); unsaved = 0; measured = run.measured; alarms = all_clear }
  unfolding command_position is_start kept_in
  ends-run =
      rw (begins-ended (settings_in setup) (first_in setup run.position) run.position (start_base (settings_in setup) (whole_of run.measured))
      ends.choice ends.plain_step (omega (arith, ends.one-step)))

  -- it clears the credits, and saves
  pub ends-clears : ((press_effect setup run Command.Start).credit ≡ Credit.Clear) × ((press_effect setup run Command.Start).saves ≡ true)
  unfolding is_start
  ends-clears = (refl, refl)

-- ---- counting, in what is left of a list: what no outage struck out

module _ (setup : Setup) (past : RemainingOf (machine setup)) where
  abbrev live : Live
  live = (replay (machine setup) past).0

  -- an accepted tick in the timer is one more in step 1, and in no other
  pub timer-counts : (reading : Reading) → (here_in setup live.run.position).timer ≡ true → live.run.position.mode ≡ 1
      → is_accepted (plain_effect setup true live.run (tick reading)).answer ≡ true → (k : ℕ)
      → since (machine setup) (counted setup) (past ▹ plain (tick reading)) k ≡ since (machine setup) (counted setup) past k + one (eqb 1 k)
  unfolding since counted counted_in starts_with both
  timer-counts reading timer running accepts k =
      rw (accepts, running, (timed setup live.run.position timer).step)

  -- counting begins anew at a start that ends at once
  pub ends-counts : EndsAtOnce setup live.run
      → (has-start (machine setup) (counted setup) (past ▹ plain (press Command.Start)) ≡ true)
      × ((k : ℕ) → since (machine setup) (counted setup) (past ▹ plain (press Command.Start)) k ≡ 0)
  unfolding has-start since counted starts_with is_start is_accepted both
  ends-counts ends = (rw (ends-done setup live.run ends), λ k. rw (ends-done setup live.run ends))
