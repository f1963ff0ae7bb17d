-- What an accepted event does, before what it shows is looked up and before what becomes of alarms and credits; and its effect, with all of these.
-- Assumes nothing.
use Rattle.std.specs.Prelude.{◌≡◌, Bool, true, false, cond, List, ℕ, Result, Ok, Err}
use Rattle.setting.specs.declared.Settings.{Settings}
use Rattle.measure.specs.Filter.{whole_of}
use Rattle.measure.specs.declared.Measured.{Measured}
use Rattle.position.specs.Command.{is_start}
use Rattle.position.specs.Program.{set_value_of, shown_of}
use Rattle.position.specs.declared.Position.{Position}
use Rattle.position.specs.declared.Here.{Here}
use Rattle.alarm.specs.Alarm.{all_clear, kept_in, tick_alarms, all_bounded}
use Rattle.alarm.specs.declared.Alarms.{Alarms}
use Rattle.plain.specs.declared.Config.{Config}
use Rattle.plain.specs.declared.Run.{Run}
use Rattle.plain.specs.declared.Credit.{Credit}
use Rattle.plain.specs.declared.Event.{Event}
use Rattle.plain.specs.declared.Refusal.{Refusal}
use Rattle.plain.specs.declared.Effect.{Effect}
use Rattle.plain.specs.Record.{position_in, alarms_in}
use Rattle.plain.specs.Setup.{Setup, over, settings_in, here_in}
use Rattle.plain.specs.Run.{tick_credit, tick_saves, command_credit}
use Rattle.plain.specs.Event.{refused, brought_back, known_effect}
use Rattle.effect.specs.declared.Progress.{Progress}
use Rattle.effect.specs.declared.Done.{Done}
use Rattle.effect.specs.Known.{Ready}
use Rattle.plain.specs.Answer.{Answer}
use Rattle.plain.specs.declared.AnyRefusal.{AnyRefusal}

-- ---- a run without its alarms, and with them

abbrev pub progress_of : Run → Progress
progress_of run = record { position = run.position; unsaved = run.unsaved; measured = run.measured }

abbrev pub with_alarms : Progress → Alarms → Run
with_alarms progress alarms =
    record { position = progress.position; unsaved = progress.unsaved; measured = progress.measured; alarms = alarms }

-- a stage of the tick's own step leaves the alarms as they are, whatever they are
abbrev pub Leaves : (Run → Run) → Progress → Progress → Type 0
Leaves stage progress left = (alarms : Alarms) → with_alarms left alarms ≡ stage (with_alarms progress alarms)

-- whether a tick saves, whatever the alarms are before and after it
abbrev pub IsSaving : Progress → Progress → Bool → Type 0
IsSaving before after saves = (alarms judged : Alarms) → saves ≡ tick_saves (with_alarms before alarms) (with_alarms after judged)

-- what a record brings back, with its alarms
abbrev pub BroughtBack : List ℕ → Progress → Type 0
BroughtBack store progress = with_alarms progress (alarms_in store) ≡ brought_back store

-- what a return makes of that: any move to stopped clears the alarms
abbrev pub Returned : (Run → Run) → Progress → Progress → Type 0
Returned return progress left =
    (alarms : Alarms) → with_alarms left (kept_in left.position.mode alarms) ≡ return (with_alarms progress alarms)

-- ---- accepted with power on, with what is left; saving sets u to 0

abbrev pub saved_progress : Progress → Progress
saved_progress progress = record { position = progress.position; unsaved = 0; measured = progress.measured }

abbrev pub accepted_done : Bool → Progress → Done
accepted_done saves progress = record { power = true; progress = cond saves (saved_progress progress) progress; saves = saves }

-- ---- the answer: a refusal, or what is shown of a position

abbrev pub answer_by : Settings → Here → Position → Result (Unit {0}) Refusal → Answer
answer_by settings here position (Ok done) = Ok (shown_of settings here position)
answer_by settings here position (Err refusal) = Err (AnyRefusal.Own refusal)

abbrev pub answer_in : Setup → Position → Result (Unit {0}) Refusal → Answer
answer_in setup position verdict = answer_by (settings_in setup) (here_in setup position) position verdict

-- ---- what becomes of the credits; the position is that of before the event

abbrev pub credit_by : Event → Position → Credit
credit_by (Event.Tick reading) before = tick_credit before
credit_by (Event.Press command) before = command_credit command
credit_by Event.Cut before = Credit.Clear
credit_by (Event.Return reading) before = Credit.Restore

-- ---- what becomes of the alarms, by what is said at the position that is left, that position and the measured value: a tick judges them, a start
-- and a cut clear them, a return takes those of the record, and any move to stopped clears

abbrev pub alarms_by : Config → Here → List ℕ → Event → Alarms → Position → Measured → Alarms
alarms_by config there store (Event.Tick reading) alarms position measured =
    tick_alarms config.alarms position.mode (whole_of measured) (set_value_of there position) alarms
alarms_by config there store (Event.Press command) alarms position measured = kept_in position.mode (cond (is_start command) all_clear alarms)
alarms_by config there store Event.Cut alarms position measured = all_clear
alarms_by config there store (Event.Return reading) alarms position measured = kept_in position.mode (alarms_in store)

-- they stay as they are where the event is a tick and they are idle; of the other events that is not asked
abbrev pub keeps_alarms : Bool → Event → Bool
keeps_alarms idle (Event.Tick reading) = idle
keeps_alarms idle (Event.Press command) = false
keeps_alarms idle Event.Cut = false
keeps_alarms idle (Event.Return reading) = false

-- whether the alarms that the record holds are within their bounds
abbrev pub record_bounded : Config → List ℕ → Bool
record_bounded config store = all_bounded config.alarms (position_in store).mode (alarms_in store)

-- ---- what an event does to a run, with credits, alarms and answer

abbrev pub effect_of : Setup → List ℕ → Run → Event → Done → Effect
effect_of setup store run event done =
    let left = done.progress in
    let there = here_in setup left.position in
    record {
      power = done.power;
      run = with_alarms left (alarms_by setup.config there store event run.alarms left.position left.measured);
      credit = credit_by event run.position;
      saves = done.saves;
      answer = answer_in setup left.position (Ok tt);
    }

-- where it may be refused; a refusal leaves all
abbrev pub effect_if : Setup → List ℕ → Bool → Run → Event → Result Done Refusal → Effect
effect_if setup store power run event (Ok done) = effect_of setup store run event done
effect_if setup store power run event (Err refusal) = refused power run refusal

-- that it is the effect that the definitions give, over a setup and a record, and with these alarms
abbrev pub DoesTo : Setup → List ℕ → Bool → Progress → Event → Result Done Refusal → Alarms → Type 0
DoesTo setup store power progress event done alarms =
    effect_if setup store power (with_alarms progress alarms) event done ≡ known_effect setup store power (with_alarms progress alarms) event

-- what a tick does: so it is over every setup, record and alarms on which the state is sound
abbrev pub Does : Settings → Here → Bool → Progress → Event → Result Done Refusal → Type 0
Does settings here power progress event done =
    (setup : Setup) (store : List ℕ) (alarms : Alarms) → Ready setup store power (with_alarms progress alarms) settings here
    → DoesTo setup store power progress event done alarms

-- what a command does over a bank, which says where a run begins
abbrev pub DoesPress : List ℕ → Settings → Here → Bool → Progress → Event → Result Done Refusal → Type 0
DoesPress bank settings here power progress event done =
    (config : Config) (store : List ℕ) (alarms : Alarms) → Ready (over bank config) store power (with_alarms progress alarms) settings here
    → DoesTo (over bank config) store power progress event done alarms

-- what a cut does, whatever is left of the run and whatever is said
abbrev pub DoesCut : Bool → Result Done Refusal → Type 0
DoesCut power done = (settings : Settings) (here : Here) (progress : Progress) → Does settings here power progress Event.Cut done

-- what an event does over a bank, the settings beside it and a record
abbrev pub DoesOver : List ℕ → Config → List ℕ → Settings → Here → Bool → Progress → Event → Result Done Refusal → Type 0
DoesOver bank config store settings here power progress event done =
    (alarms : Alarms) → Ready (over bank config) store power (with_alarms progress alarms) settings here
    → DoesTo (over bank config) store power progress event done alarms

-- what a return does, whatever the run before it is and is said there
abbrev pub DoesReturn : List ℕ → Config → List ℕ → Settings → Bool → Event → Result Done Refusal → Type 0
DoesReturn bank config store settings power event done =
    (here : Here) (progress : Progress) → DoesOver bank config store settings here power progress event done
