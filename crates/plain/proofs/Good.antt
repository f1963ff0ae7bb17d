-- A good state: a sound run whose y is a 64-bit float, with 99 credits of 32 bits. Every event keeps it good.
-- Assumes nothing.
use mathlib.Core.Path.{◌≡◌, refl, sym, ap, ◌∙◌}
use mathlib.Core.Bool.{Bool, true, false, cond, not, ◌||◌, false≢true}
use Prim.Native.Nat.{ℕ, ◌+◌, ◌≤◌, ◌<◌}
use native.Mathlib.Omega.{arith}
use borrow.Author.Tests.{lt-ltb, le-leb, ltb-false, leb-true, eqb-false, not-false}
use lib.Dec.{eqb, ltb, leb}
use lib.IntN.{ℤ, pos, negsuc, nat_abs}
use Rattle.limits.specs.Range.{both, within, temperature}
use Rattle.setting.proofs.Laws.{both_left, both_right}
use Rattle.bank.specs.View.{place_of, pattern_of}
use Rattle.bank.specs.Check.{found_in}
use Rattle.measure.specs.Filter.{after_of, first_of, whole_of, sound_of, outside_of}
use Rattle.measure.specs.declared.Reading.{Reading}
use Rattle.measure.proofs.Laws.{after-sound, first-sound, whole-range, Fits64, after-fits, first_fits}
use Rattle.position.specs.Tests.{all}
use Rattle.position.specs.Program.{limit_of, here_by, here_at, second_position, tick_position}
use Rattle.position.specs.Command.{selects_of, is_start, is_value, value_of, start_base, lacks_value, stuck_of, start_position, command_position}
use Rattle.position.specs.Return.{readable_of}
use Rattle.position.specs.declared.Position.{Position}
use Rattle.position.specs.declared.Command.{Command}
use Rattle.position.proofs.Tests.{either-false, choice}
use Rattle.position.proofs.Cases.{next-cases, tick-cases}
use Rattle.position.proofs.Laws.{second-keeps, tick-pattern, start-pattern, feed-pattern, back-pattern, plus-pattern, minus-pattern, pause-pattern, return-pattern}
use Rattle.position.proofs.Readable.{readable-pattern}
use Rattle.position.proofs.Keeps.{Along, Bounded, bounded, taken-active, tick-stays, return-stays, start-stays, pause-stays, feed-stays, back-stays, plus-stays, minus-stays, stop-stays}
use Rattle.alarm.specs.Alarm.{all_bounded}
use Rattle.alarm.specs.declared.Alarms.{Alarms}
use Rattle.alarm.proofs.Bounds.{tick-bounded, mode-bounded, kept-bounded, clear-bounded}
use Rattle.plain.specs.declared.Run.{Run}
use Rattle.plain.specs.declared.Effect.{Effect}
use Rattle.plain.specs.Setup.{Setup, settings_in, here_in, first_in}
use Rattle.plain.specs.Run.{readable_in, sound_by, sound_in, measuring, counting, stepping, tick_by, judging, tick_run}
use Rattle.plain.specs.Run.{tick_credit, tick_saves, cleared_by, command_run, return_by, return_run}
use Rattle.plain.specs.Event.{accepted, fresh}
use Rattle.plain.specs.Replay.{Live, lived, Plain, tick, press, plain_effect, returned_live, fresh_live}
use Rattle.plain.proofs.Bank.{initial-fine, first-pattern, target-fine, some-pass, fair}
use Rattle.plain.proofs.Judged.{TakesIn, by-tick, by-press}
use Rattle.plain.proofs.Credits.{Credits, no-credits, still-credits}
use Rattle.std.specs.Prelude.{Option, None, Some}
use Rattle.setting.specs.Found.{Accepted}

-- ---- facts about values

-- a value that refusal 25 does not meet is a temperature
pub in-range : (v : ℤ) → outside_of (Reading.Value v) ≡ false → temperature v ≡ true
unfolding outside_of temperature within both
in-range (pos size) holds = le-leb size 29999 (ltb-false 29999 size holds)
in-range (negsuc size) holds = go (ltb 19998 size) refl holds
  where
    go : (test : Bool) → ltb 19998 size ≡ test → (test || false) ≡ false → both (leb size 19998) true ≡ true
    go true known inside = absurd (false≢true (sym inside))
    go false known inside = ap (λ (test : Bool). both test true) (le-leb size 19998 (ltb-false 19998 size known))

-- a pattern that can be selected
selected : (q : ℤ) (top : ℕ) → within (pos 1) q (pos top) ≡ true → (1 ≤ nat_abs q) × (nat_abs q ≤ top)
unfolding within both
selected (pos size) top holds = (leb-true 1 size (both_left _ (leb size top) holds), leb-true size top (both_right (leb 1 size) _ holds))
selected (negsuc size) top holds = absurd (false≢true holds)

module _ (setup : Setup) where
  -- what is said at a position of the same pattern
  along : (position other : Position) → other.pattern ≡ position.pattern → Along (here_in setup position) (here_in setup other) position other
  unfolding here_in here_at here_by place_of
  along position other holds =
      record {
        count = ap (λ (p : ℕ). (pattern_of setup.bank p).count) holds;
        limit = ap (λ (p : ℕ). limit_of (pattern_of setup.bank p).runs) holds;
        same = λ step pass. λ i. here_at (settings_in setup) (place_of setup.bank (holds i) (step i)) (step i) (pass i);
      }

  -- and where a run of that pattern begins
  pub first_count : (position other : Position) → other.pattern ≡ position.pattern → (first_in setup position).count ≡ (here_in setup other).count
  unfolding here_in first_in here_at here_by place_of
  first_count position other holds = ap (λ (p : ℕ). (pattern_of setup.bank p).count) (sym holds)

  -- ---- good runs and states

  pub record GoodRun (run : Run) : Type 0 where
    pub readable : readable_of (settings_in setup) (here_in setup run.position) run.position ≡ true
    pub alarms : all_bounded setup.config.alarms run.position.mode run.alarms ≡ true
    pub unsaved : run.unsaved < 60
    pub measured : sound_of run.measured ≡ true
    pub float : Fits64 run.measured

  pub record Good (live : Live) : Type 0 where
    pub run : GoodRun live.run
    pub credits : Credits live.credits

  -- a good run is readable and sound
  pub good-readable : (run : Run) → GoodRun run → readable_in setup run ≡ true
  unfolding all both
  good-readable run good = rw (good.readable, good.alarms)

  pub good-sound : (run : Run) → GoodRun run → sound_in setup run ≡ true
  unfolding sound_by all both
  good-sound run good = rw (good.readable, good.alarms, lt-ltb run.unsaved 60 good.unsaved, good.measured)

  -- a sound run's position is readable
  pub sound-readable : (run : Run) → sound_in setup run ≡ true → readable_of (settings_in setup) (here_in setup run.position) run.position ≡ true
  unfolding sound_by all
  sound-readable run holds = both_left _ _ (both_left _ _ holds)

  module _ (ok : found_in setup.bank ≡ Accepted) (run : Run) (good : GoodRun run) where
    -- a move of the run's position that keeps its pattern
    kept : (other : Position) → other.pattern ≡ run.position.pattern
        → (Along (here_in setup run.position) (here_in setup other) run.position other
        → readable_of (settings_in setup) (here_in setup other) other ≡ true)
        → readable_of (settings_in setup) (here_in setup other) other ≡ true
    kept other holds stays = stays (along run.position other holds)

    -- ---- a tick

    tick-readable : (reading : Reading)
        → let after = (tick_run setup reading run).position in readable_of (settings_in setup) (here_in setup after) after ≡ true
    unfolding tick_by counting stepping measuring judging
    tick-readable reading =
        kept _ (tick-pattern (here_in setup run.position) run.position _)
        (tick-stays (settings_in setup) (here_in setup run.position) _ run.position good.readable _ (target-fine setup ok run.position))

    tick-measured : (reading : Reading) → outside_of reading ≡ false → sound_of (tick_run setup reading run).measured ≡ true
    unfolding tick_by counting stepping measuring judging
    tick-measured reading holds = after-sound run.measured reading (settings_in setup).filter holds

    tick-float : (reading : Reading) → Fits64 (tick_run setup reading run).measured
    unfolding tick_by counting stepping measuring judging
    tick-float reading = after-fits run.measured reading (settings_in setup).filter

    -- a tick that does not save leaves u below 60
    tick-unsaved : (reading : Reading) → tick_saves run (tick_run setup reading run) ≡ false → (tick_run setup reading run).unsaved < 60
    unfolding tick_by counting stepping measuring judging tick_saves
    tick-unsaved reading holds =
        let others = (either-false _ _ (either-false _ _ holds).1).1 in
        let below = eqb-false (run.unsaved + 1) 60 (either-false _ _ others).1 in
        omega (arith, good.unsaved)

    -- the alarms stay within their bounds: in mode 1 no second stops, else the mode stays, and then they are judged
    step-bounded : (whole : Option ℤ)
        → all_bounded setup.config.alarms (tick_position (here_in setup run.position) whole run.position).mode run.alarms ≡ true
    step-bounded whole =
        let here = here_in setup run.position in
        let moved = second_position here run.position in
        tick-cases Stays here run.position whole (λ _. good.alarms)
        (λ running _. next-cases Stays here moved (λ _. second-bounded running) (λ _. second-bounded running)
        (mode-bounded setup.config.alarms run.position.mode 3 run.alarms (λ stopped. omega (arith, stopped)) good.alarms))
        (λ running _. second-bounded running)
      where
        Stays : Position → Type 0
        Stays other = all_bounded setup.config.alarms other.mode run.alarms ≡ true

        second-bounded : run.position.mode ≡ 1 → Stays (second_position (here_in setup run.position) run.position)
        second-bounded running =
            let same = ap (λ (other : Position). other.mode) (second-keeps (here_in setup run.position) run.position) in
            mode-bounded setup.config.alarms run.position.mode (second_position (here_in setup run.position) run.position).mode run.alarms
            (λ stopped. omega (arith, stopped, same, running)) good.alarms

    tick-alarms : (reading : Reading)
        → let after = tick_run setup reading run in all_bounded setup.config.alarms after.position.mode after.alarms ≡ true
    unfolding tick_by counting stepping measuring judging
    tick-alarms reading = tick-bounded setup.config.alarms _ _ _ run.alarms (step-bounded (whole_of (after_of run.measured reading (settings_in setup).filter)))

    good-tick : (reading : Reading) → outside_of reading ≡ false → (test : Bool) → tick_saves run (tick_run setup reading run) ≡ test
        → GoodRun (accepted setup (tick_credit run.position) test (tick_run setup reading run)).run
    good-tick reading holds true saving =
        record {
          readable = tick-readable reading;
          alarms = tick-alarms reading;
          unsaved = omega arith;
          measured = tick-measured reading holds;
          float = tick-float reading;
        }
    good-tick reading holds false saving =
        record {
          readable = tick-readable reading;
          alarms = tick-alarms reading;
          unsaved = tick-unsaved reading saving;
          measured = tick-measured reading holds;
          float = tick-float reading;
        }

    -- ---- a command

    -- b at a start is a temperature
    base-fine : lacks_value (settings_in setup) (whole_of run.measured) ≡ false → temperature (start_base (settings_in setup) (whole_of run.measured)) ≡ true
    unfolding lacks_value start_base is_value value_of both
    base-fine holds = go (eqb (settings_in setup).start 0) holds
      where
        value : (whole : Option ℤ) → whole_of run.measured ≡ whole → is_value whole ≡ true → temperature (value_of whole) ≡ true
        value None known some = absurd (false≢true some)
        value (Some v) known some = in-range v (whole-range run.measured v known)

        go : (test : Bool) → both test (not (is_value (whole_of run.measured))) ≡ false
            → temperature (cond test (value_of (whole_of run.measured)) (settings_in setup).initial) ≡ true
        go true known = value (whole_of run.measured) refl (not-false _ known)
        go false known = initial-fine setup ok

    command-readable : (command : Command) → TakesIn setup run command
        → let after = (command_run setup command run).position in readable_of (settings_in setup) (here_in setup after) after ≡ true
    unfolding command_position selects_of stuck_of is_start both
    command-readable (Command.Select q) takes =
        let range = selected q (settings_in setup).patterns takes.selects in
        stop-stays (settings_in setup) _ (nat_abs q) range.0 range.1
    command-readable Command.Start takes =
        let some = eqb-false (here_in setup run.position).count 0 takes.some-step in
        let first = first_in setup run.position in
        let b = start_base (settings_in setup) (whole_of run.measured) in
        let there = start_position (settings_in setup) first run.position b in
        let pattern = start-pattern first run.position (settings_in setup) b in
        let same = (along run.position there pattern).count in
        start-stays (settings_in setup) (here_in setup run.position) (here_in setup there) run.position good.readable first b
        (first_count run.position there pattern) (omega (arith, same, some)) (some-pass setup ok there) (base-fine takes.some-value)
    command-readable Command.Pause takes =
        kept _ (pause-pattern (here_in setup run.position) run.position)
        (pause-stays (settings_in setup) (here_in setup run.position) _ run.position good.readable (sym (taken-active run.position).pause ∙ takes.takes))
    command-readable Command.Reset takes =
        let range = readable-pattern (settings_in setup) (here_in setup run.position) run.position good.readable in
        stop-stays (settings_in setup) _ run.position.pattern range.0 range.1
    command-readable Command.Feed takes =
        kept _ (feed-pattern (here_in setup run.position) run.position)
        (feed-stays (settings_in setup) (here_in setup run.position) _ run.position good.readable (sym (taken-active run.position).feed ∙ takes.takes)
        (target-fine setup ok run.position))
    command-readable Command.Back takes =
        kept _ (back-pattern (here_in setup run.position) run.position)
        (back-stays (settings_in setup) (here_in setup run.position) _ run.position good.readable (sym (taken-active run.position).back ∙ takes.takes)
        (target-fine setup ok run.position))
    command-readable Command.Plus takes =
        kept _ (plus-pattern (here_in setup run.position) run.position)
        (plus-stays (settings_in setup) (here_in setup run.position) _ run.position good.readable (sym (taken-active run.position).plus ∙ takes.takes)
        (not-false _ takes.moves))
    command-readable Command.Minus takes =
        kept _ (minus-pattern (here_in setup run.position) run.position)
        (minus-stays (settings_in setup) (here_in setup run.position) _ run.position good.readable (sym (taken-active run.position).minus ∙ takes.takes)
        (not-false _ takes.moves))

    command-alarms : (command : Command)
        → let after = command_run setup command run in all_bounded setup.config.alarms after.position.mode after.alarms ≡ true
    command-alarms command =
        let before = run.position.mode in
        kept-bounded setup.config.alarms before (command_run setup command run).position.mode (cleared_by command run).alarms
        (choice (λ (alarms : Alarms). all_bounded setup.config.alarms before alarms ≡ true) (is_start command)
        (λ _. clear-bounded setup.config.alarms before) (λ _. good.alarms))

    -- ---- an event keeps a good run good, and so does a return

    pub good-plain : (event : Plain) → GoodRun (plain_effect setup true run event).run
    good-plain (tick reading) =
        by-tick setup run (λ (effect : Effect). GoodRun effect.run) (λ _ _. good) reading
        (λ _ holds. good-tick reading holds (tick_saves run (tick_run setup reading run)) refl)
    good-plain (press command) =
        by-press setup run (λ (effect : Effect). GoodRun effect.run) (λ _ _. good) command
        (λ _ takes. record {
          readable = command-readable command takes;
          alarms = command-alarms command;
          unsaved = omega arith;
          measured = good.measured;
          float = good.float;
        })

    pub good-return : (reading : Reading) → outside_of reading ≡ false → GoodRun (return_run setup reading run)
    unfolding return_by
    good-return reading holds =
        record {
          readable =
              kept _ (return-pattern (here_in setup run.position) run.position (settings_in setup) (whole_of (first_of reading)))
              (return-stays (settings_in setup) (here_in setup run.position) _ run.position good.readable (whole_of (first_of reading)));
          alarms = kept-bounded setup.config.alarms run.position.mode (return_run setup reading run).position.mode run.alarms good.alarms;
          unsaved = omega arith;
          measured = first-sound reading holds;
          float = first_fits reading;
        }

    -- its position's numbers are bounded
    pub good-bounded : Bounded run.position
    good-bounded = bounded (settings_in setup) (here_in setup run.position) run.position (fair setup ok run.position) good.readable

  -- ---- states

  module _ (ok : found_in setup.bank ≡ Accepted) where
    pub good-live : (live : Live) → Good live → (event : Plain) → Good (lived live (plain_effect setup true live.run event))
    good-live live good event =
        record {
          run = good-plain ok live.run good.run event;
          credits = still-credits (plain_effect setup true live.run event).credit live.credits live.credits good.credits good.credits;
        }

    pub good-returned : (live : Live) → Good live → (reading : Reading) → outside_of reading ≡ false → Good (returned_live setup reading live)
    good-returned live good reading holds = record { run = good-return ok live.run good.run reading holds; credits = good.credits }

    pub good-fresh : Good fresh_live
    unfolding fresh sound_of
    good-fresh =
        record {
          run =
              record {
                readable = stop-stays (settings_in setup) _ 1 (omega arith) (first-pattern setup ok);
                alarms = clear-bounded setup.config.alarms 0;
                unsaved = omega arith;
                measured = refl;
                float = tt;
              };
          credits = no-credits;
        }
