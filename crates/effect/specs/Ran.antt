-- What the events of a list leave, as the code gives it.
-- Assumes nothing.
use Rattle.std.specs.Prelude.{◌≡◌, List, [], ◌∷◌, ℕ}
use Rattle.setting.specs.declared.Settings.{Settings}
use Rattle.alarm.specs.Idle.{all_idle}
use Rattle.plain.specs.Setup.{Setup}
use Rattle.plain.specs.Event.{State, After, after, events_from}
use Rattle.plain.specs.Listed.{asked_events}
use Rattle.making.specs.declared.Ran.{Ran}
use Rattle.effect.specs.declared.Moved.{Moved}
use Rattle.position.specs.Program.{said_at}
use Rattle.effect.specs.Done.{with_alarms, answer_by, answer_in}
use Rattle.std.specs.Prelude.{Option}
use Rattle.plain.specs.declared.Event.{Event}

-- what an event of a list moved, with the credits
abbrev pub state_from : Moved → List ℕ → State
state_from moved credits = record { power = moved.power; run = with_alarms moved.progress moved.alarms; credits = credits }

-- what it leaves, with its answer
abbrev pub after_moved : Setup → Moved → List ℕ → List ℕ → After
after_moved setup moved credits store = after (state_from moved credits) store (answer_in setup moved.progress.position moved.verdict)

-- what goes with it to the next event: what is said at its position, and whether no tick moves its alarms
pub record Told (setup : Setup) (settings : Settings) (moved : Moved) : Type 0 where
  pub here-is : moved.here ≡ said_at setup.bank settings moved.progress.position
  pub idle-is : moved.idle ≡ all_idle setup.config.alarms moved.alarms

-- what the next one leaves, if one is asked for
abbrev pub turn_of : Setup → Moved → List ℕ → List ℕ → Option Event → After
turn_of setup moved credits store asked = events_from setup (after_moved setup moved credits store) (asked_events (asked ∷ []))

-- what the last one leaves
abbrev pub ran_by : Settings → Moved → List ℕ → Ran
ran_by settings moved credits =
    record {
      power = moved.power;
      run = with_alarms moved.progress moved.alarms;
      credits = credits;
      answer = answer_by settings moved.here moved.progress.position moved.verdict;
    }
