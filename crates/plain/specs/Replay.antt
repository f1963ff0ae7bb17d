-- The replay machine: the plain machine without cut or record, always on.
-- Assumes nothing.
use Rattle.std.specs.Prelude.{ℕ, Bool, true, false, not, List, eqb, Ok, Err}
use Rattle.measure.specs.Filter.{outside_of}
use Rattle.measure.specs.declared.Reading.{Reading}
use Rattle.position.specs.Tests.{both}
use Rattle.position.specs.Command.{is_start}
use Rattle.position.specs.declared.Command.{Command}
use Rattle.outage.specs.Outage.{Machine, Listed, other, cut, back}
use Rattle.outage.specs.Credit.{Counting}
use Rattle.plain.specs.declared.Run.{Run}
use Rattle.plain.specs.declared.Event.{Event}
use Rattle.plain.specs.declared.Refusal.{Refusal}
use Rattle.plain.specs.declared.Effect.{Effect}
use Rattle.plain.specs.Record.{credits_in}
use Rattle.plain.specs.Setup.{Setup}
use Rattle.plain.specs.Answer.{is_accepted, Answer}
use Rattle.plain.specs.Run.{shown_in, credited, return_run}
use Rattle.plain.specs.Refusals.{judged, no_record, event_rows}
use Rattle.plain.specs.Event.{State, fresh, dark_run, record_for, refused, tick_effect, press_effect, brought_back}
use Rattle.plain.specs.declared.AnyRefusal.{AnyRefusal}

-- ---- what the machine keeps

pub record Live : Type 0 where
  pub run : Run
  pub credits : List ℕ

abbrev pub powered : Live → State
powered live = record { power = true; run = live.run; credits = live.credits }

abbrev pub fresh_live : Live
fresh_live = record { run = fresh.run; credits = fresh.credits }

-- ---- its events: those that are no cut and no return

pub data Plain : Type 0 where
  tick : Reading → Plain
  press : Command → Plain

abbrev pub event_of : Plain → Event
event_of (tick reading) = Event.Tick reading
event_of (press command) = Event.Press command

-- an event of a list
unfoldable pub listed : Event → Listed Plain Reading
listed (Event.Tick reading) = other (tick reading)
listed (Event.Press command) = other (press command)
listed Event.Cut = cut
listed (Event.Return reading) = back reading

-- an event, with the refusals of every event, over no record
abbrev pub done_by : Setup → Run → Plain → Effect
done_by setup run (tick reading) = tick_effect setup run reading
done_by setup run (press command) = press_effect setup run command

unfoldable pub plain_effect : Setup → Bool → Run → Plain → Effect
plain_effect setup power run event =
    judged (event_rows setup no_record power run (event_of event)) (refused power run) (done_by setup run event)

-- what an effect leaves; none restores credits from a record
abbrev pub lived : Live → Effect → Live
lived live effect = record { run = effect.run; credits = credited effect.credit live.credits live.credits }

-- with power off: 25 for a return, 23 for all else
unfoldable pub refused_off : Listed Plain Reading → Answer
refused_off (other event) = Err (AnyRefusal.Own Refusal.PowerOff)
refused_off cut = Err (AnyRefusal.Own Refusal.PowerOff)
refused_off (back reading) = Err (AnyRefusal.Own Refusal.Outside)

-- a return added with power off acts on the state left by the event before it
abbrev pub returned_live : Setup → Reading → Live → Live
returned_live setup reading live = record { run = return_run setup reading live.run; credits = live.credits }

-- what a record brings back
abbrev pub restored : List ℕ → Live
restored store = record { run = brought_back store; credits = credits_in store }

abbrev pub answer_by : Setup → Live → Answer
answer_by setup live = Ok (shown_in setup live.run)

-- ---- the controller over a setup, as a machine

abbrev pub machine : Setup → Machine
machine setup =
    record {
      S = Live;
      R = List ℕ;
      A = Answer;
      E = Plain;
      Q = Reading;
      fresh = fresh_live;
      made = answer_by setup fresh_live;
      run = λ live event. (lived live (plain_effect setup true live.run event), (plain_effect setup true live.run event).answer);
      saves = λ live event. (plain_effect setup true live.run event).saves;
      refused-on = λ live reading. Err (AnyRefusal.Own Refusal.PowerOn);
      cut-answer = Ok (shown_in setup dark_run);
      accepts = λ reading. not (outside_of reading);
      refused-off = λ store event. refused_off event;
      return = λ live reading. (returned_live setup reading live, answer_by setup (returned_live setup reading live));
      write = λ live. record_for live.run live.credits;
      restore = λ store reading. (
        returned_live setup reading (restored store),
        answer_by setup (returned_live setup reading (restored store)),
      );
    }

-- ---- counting

-- a tick is counted in step k if it is accepted in mode 1 at k, mode and step taken as before it
unfoldable pub counted_in : Setup → Live → Plain → ℕ → Bool
counted_in setup live (tick reading) k =
    both (is_accepted (plain_effect setup true live.run (tick reading)).answer)
    (both (eqb live.run.position.mode 1) (eqb live.run.position.step k))
counted_in setup live (press command) k = false

-- an accepted start
unfoldable pub starts_with : Setup → Live → Plain → Bool
starts_with setup live (tick reading) = false
starts_with setup live (press command) =
    both (is_start command) (is_accepted (plain_effect setup true live.run (press command)).answer)

unfoldable pub counted : (setup : Setup) → Counting (machine setup) ℕ
counted setup = record { counts = counted_in setup; starts = starts_with setup }
