-- What making and each event leave, for every setup, record, state and event: state, record and answer.
-- Assumes nothing.
use Rattle.std.specs.Prelude.{ℕ, Bool, true, false, cond, List, [], ◌∷◌, ℤ, pos, replicate, Ok, Err}
use Rattle.bank.specs.Check.{found_in}
use Rattle.measure.specs.declared.Measured.{Measured}
use Rattle.measure.specs.declared.Reading.{Reading}
use Rattle.position.specs.declared.Command.{Command}
use Rattle.alarm.specs.Alarm.{all_clear}
use Rattle.plain.specs.declared.Run.{Run}
use Rattle.plain.specs.declared.Credit.{Credit}
use Rattle.plain.specs.declared.Event.{Event}
use Rattle.plain.specs.declared.Refusal.{Refusal}
use Rattle.plain.specs.declared.Effect.{Effect}
use Rattle.plain.specs.Record.{Checkpoint, record_of, position_in, credits_in, alarms_in, sized}
use Rattle.plain.specs.Setup.{Setup}
use Rattle.plain.specs.Answer.{numbers_of, Answer}
use Rattle.plain.specs.Run.{fresh_run, saved, readable_in, shown_in, credited, tick_run, tick_credit, tick_saves, command_run, command_credit, return_run}
use Rattle.plain.specs.Refusals.{checked, judged, Retained, call_rows, event_rows}
use Rattle.plain.specs.declared.AnyRefusal.{AnyRefusal}

-- ---- the state, and what a call leaves

pub record State : Type 0 where
  pub power : Bool
  pub run : Run
  pub credits : List ℕ

-- fresh: power on, and all credits 0
unfoldable pub fresh : State
fresh = record { power = true; run = fresh_run; credits = replicate 99 0 }

-- with power off the state is all zeros
unfoldable pub dark_run : Run
dark_run =
    record {
      position = record { mode = 0; pattern = 0; step = 0; pass = 0; elapsed = 0; waited = 0; base = pos 0 };
      unsaved = 0;
      measured = Measured.NoReading;
      alarms = all_clear;
    }

unfoldable pub dark : State
dark = record { power = false; run = dark_run; credits = replicate 99 0 }

-- state, record and answer, the answer with its number and values
pub record After : Type 0 where
  pub state : State
  pub store : List ℕ
  pub answer : Answer
  pub numbers : List ℤ

abbrev pub after : State → List ℕ → Answer → After
after state store answer = record { state = state; store = store; answer = answer; numbers = numbers_of answer }

-- ---- saving

-- what the record holds of a run and credits, and the record
abbrev pub checkpoint_for : Run → List ℕ → Checkpoint
checkpoint_for run credits = record { position = run.position; credits = credits; alarms = run.alarms }

abbrev pub record_for : Run → List ℕ → List ℕ
record_for run credits = record_of (checkpoint_for run credits)

-- what an effect leaves of a record and credits: saving writes the record whole from the state that the event leaves
abbrev pub applied : List ℕ → List ℕ → Effect → After
applied store credits effect =
    let left = credited effect.credit (credits_in store) credits in
    after (record { power = effect.power; run = effect.run; credits = left })
    (cond effect.saves (record_for effect.run left) store)
    effect.answer

-- ---- what an event does

-- a refusal leaves all
abbrev pub unchanged : Bool → Run → Answer → Effect
unchanged power run answer = record { power = power; run = run; credit = Credit.Keep; saves = false; answer = answer }

abbrev pub refused : Bool → Run → Refusal → Effect
refused power run refusal = unchanged power run (Err (AnyRefusal.Own refusal))

-- accepted with power on, with the run that is left
abbrev pub accepted : Setup → Credit → Bool → Run → Effect
accepted setup credit saves run =
    record {
      power = true;
      run = cond saves (saved run) run;
      credit = credit;
      saves = saves;
      answer = Ok (shown_in setup run);
    }

-- a tick
abbrev pub tick_effect : Setup → Run → Reading → Effect
tick_effect setup run reading =
    accepted setup (tick_credit run.position) (tick_saves run (tick_run setup reading run)) (tick_run setup reading run)

-- a command saves
abbrev pub press_effect : Setup → Run → Command → Effect
press_effect setup run command = accepted setup (command_credit command) true (command_run setup command run)

-- a cut turns power off and loses all state but the record
unfoldable pub cut_effect : Setup → Effect
cut_effect setup =
    record {
      power = false;
      run = dark_run;
      credit = Credit.Clear;
      saves = false;
      answer = Ok (shown_in setup dark_run);
    }

-- what a record brings back, before the choices
unfoldable pub brought_back : List ℕ → Run
brought_back store = record { position = position_in store; unsaved = 0; measured = Measured.NoReading; alarms = alarms_in store }

-- a return brings back the record, takes its reading as a first reading, and saves
abbrev pub return_effect : Setup → List ℕ → Reading → Effect
return_effect setup store reading = accepted setup Credit.Restore true (return_run setup reading (brought_back store))

abbrev pub accepted_effect : Setup → List ℕ → Run → Event → Effect
accepted_effect setup store run (Event.Tick reading) = tick_effect setup run reading
accepted_effect setup store run (Event.Press command) = press_effect setup run command
accepted_effect setup store run Event.Cut = cut_effect setup
accepted_effect setup store run (Event.Return reading) = return_effect setup store reading

-- ---- an event: its refusals, or what it does

-- what a call finds of a record
unfoldable pub retained_in : Setup → List ℕ → Retained
retained_in setup store = record { fits = sized store; readable = readable_in setup (brought_back store) }

-- over a bank that is accepted
unfoldable pub known_effect : Setup → List ℕ → Bool → Run → Event → Effect
known_effect setup store power run event =
    judged (event_rows setup (retained_in setup store) power run event) (refused power run)
    (accepted_effect setup store run event)

unfoldable pub event_effect : Setup → List ℕ → Bool → Run → Event → Effect
event_effect setup store power run event =
    checked (found_in setup.bank) (unchanged power run) (known_effect setup store power run event)

unfoldable pub event_outcome : Setup → List ℕ → State → Event → After
event_outcome setup store state event =
    applied store state.credits (event_effect setup store state.power state.run event)

-- ---- making gives the fresh state and saves; a refusal gives no state, here all zeros

unfoldable pub make_outcome : Setup → List ℕ → After
make_outcome setup store =
    checked (found_in setup.bank) (after dark store)
    (judged (call_rows setup (retained_in setup store)) (λ refusal. after dark store (Err (AnyRefusal.Own refusal)))
    (after fresh (record_for fresh.run fresh.credits) (Ok (shown_in setup fresh.run))))

-- ---- a list of events: each gets the setup, and the state and record that the one before it left, refused or not

unfoldable pub events_from : Setup → After → List Event → After
events_from setup start [] = start
events_from setup start (event ∷ events) = events_from setup (event_outcome setup start.store start.state event) events

-- from the state and record that making gave
unfoldable pub final : Setup → List ℕ → List Event → After
final setup store events = events_from setup (make_outcome setup store) events
