-- The plain machine: what a tick, a command and a return make of a run, and what is done to the credits.
-- Assumes nothing.
use Rattle.std.specs.Prelude.{ℕ, ◌+◌, ◌-◌, min, Bool, cond, not, List, [], ◌∷◌, eqb, ltb, get_or, set, replicate}
use Rattle.setting.specs.declared.Settings.{Settings}
use Rattle.measure.specs.Filter.{after_of, first_of, whole_of, sound_of}
use Rattle.measure.specs.declared.Measured.{Measured}
use Rattle.measure.specs.declared.Reading.{Reading}
use Rattle.position.specs.Tests.{either, all}
use Rattle.position.specs.Program.{set_value_of, shown_of, tick_position}
use Rattle.position.specs.Command.{stop_position, is_start, command_position}
use Rattle.position.specs.Return.{return_position, readable_of}
use Rattle.position.specs.declared.Position.{Position}
use Rattle.position.specs.declared.Here.{Here}
use Rattle.position.specs.declared.Shown.{Shown}
use Rattle.position.specs.declared.Command.{Command}
use Rattle.alarm.specs.Alarm.{all_clear, kept_in, tick_alarms, all_bounded}
use Rattle.plain.specs.declared.Run.{Run}
use Rattle.plain.specs.declared.Credit.{Credit}
use Rattle.plain.specs.declared.Config.{Config}
use Rattle.plain.specs.Setup.{Setup, settings_in, here_in, first_in}

-- ---- a run: all of the state that an event moves, but power and credits

-- fresh: mode 0, p = k = r = 1, all else 0, no reading
abbrev pub fresh_run : Run
fresh_run = record { position = stop_position 1; unsaved = 0; measured = Measured.NoReading; alarms = all_clear }

-- a command and a return replace the position so; any move to stopped clears flags and counts of the alarms
abbrev pub moved_to : Run → Position → Run
moved_to run position =
    record { position = position; unsaved = run.unsaved; measured = run.measured; alarms = kept_in position.mode run.alarms }

-- saving sets u to 0
abbrev pub saved : Run → Run
saved run = record { position = run.position; unsaved = 0; measured = run.measured; alarms = run.alarms }

-- what a record can bring back: each part that it has of a run is readable
abbrev pub readable_by : Config → Settings → Here → Run → Bool
readable_by config settings here run =
    all
    (readable_of settings here run.position
    ∷ all_bounded config.alarms run.position.mode run.alarms
    ∷ [])

-- sound with power on: the position is readable, the alarms are within their bounds, u < 60, any y lies within −19,999 and 29,999
unfoldable pub sound_by : Config → Settings → Here → Run → Bool
sound_by config settings here run =
    all
    (readable_by config settings here run
    ∷ ltb run.unsaved 60
    ∷ sound_of run.measured
    ∷ [])

-- both, and what an accepted answer shows, over a setup
abbrev pub readable_in : Setup → Run → Bool
readable_in setup run = readable_by setup.config (settings_in setup) (here_in setup run.position) run

abbrev pub sound_in : Setup → Run → Bool
sound_in setup run = sound_by setup.config (settings_in setup) (here_in setup run.position) run

abbrev pub shown_in : Setup → Run → Shown
shown_in setup run = shown_of (settings_in setup) (here_in setup run.position) run.position

-- ---- credits

-- credit of step k gains 1, held at 4,294,967,295
unfoldable pub cooked : List ℕ → ℕ → List ℕ
cooked credits k = set credits (k - 1) (min (get_or credits (k - 1) 0 + 1) 4294967295)

-- the credits that are left, from those of the record and those of before
unfoldable pub credited : Credit → List ℕ → List ℕ → List ℕ
credited Credit.Keep recorded credits = credits
credited (Credit.Cook k) recorded credits = cooked credits k
credited Credit.Clear recorded credits = replicate 99 0
credited Credit.Restore recorded credits = recorded

-- ---- a tick: a row of stages

-- the measured value is updated
unfoldable pub measuring : Settings → Reading → Run → Run
measuring settings reading run =
    record {
      position = run.position;
      unsaved = run.unsaved;
      measured = after_of run.measured reading settings.filter;
      alarms = run.alarms;
    }

-- u gains 1
unfoldable pub counting : Run → Run
counting run = record { position = run.position; unsaved = run.unsaved + 1; measured = run.measured; alarms = run.alarms }

-- in mode 1 a second of the step passes
unfoldable pub stepping : Here → Run → Run
stepping here run =
    record {
      position = tick_position here (whole_of run.measured) run.position;
      unsaved = run.unsaved;
      measured = run.measured;
      alarms = run.alarms;
    }

-- the tick's own step
unfoldable pub tick_by : Settings → Here → Reading → Run → Run
tick_by settings here reading run = stepping here (counting (measuring settings reading run))

-- the alarms are judged after it, by the measured whole value and the set value of then
unfoldable pub judging : Config → Here → Run → Run
judging config here run =
    record {
      position = run.position;
      unsaved = run.unsaved;
      measured = run.measured;
      alarms = tick_alarms config.alarms run.position.mode (whole_of run.measured) (set_value_of here run.position) run.alarms;
    }

abbrev pub judged_in : Setup → Run → Run
judged_in setup run = judging setup.config (here_in setup run.position) run

abbrev pub tick_run : Setup → Reading → Run → Run
tick_run setup reading run = judged_in setup (tick_by (settings_in setup) (here_in setup run.position) reading run)

-- in mode 1 credit of step k gains 1, mode and step taken as before the tick
unfoldable pub tick_credit : Position → Credit
tick_credit position = cond (eqb position.mode 1) (Credit.Cook position.step) Credit.Keep

-- a tick saves if it changes mode, step or pass, or makes u 60
unfoldable pub tick_saves : Run → Run → Bool
tick_saves before after =
    either (not (eqb before.position.mode after.position.mode))
    (either (not (eqb before.position.step after.position.step))
    (either (not (eqb before.position.pass after.position.pass)) (eqb after.unsaved 60)))

-- ---- a command

-- a start clears flags and counts of the alarms
abbrev pub cleared_by : Command → Run → Run
cleared_by command run =
    record {
      position = run.position;
      unsaved = run.unsaved;
      measured = run.measured;
      alarms = cond (is_start command) all_clear run.alarms;
    }

abbrev pub command_run : Setup → Command → Run → Run
command_run setup command run =
    let position = run.position in
    moved_to (cleared_by command run)
    (command_position (settings_in setup) (here_in setup position) (first_in setup position) (whole_of run.measured) position command)

-- start sets the credits to 0
abbrev pub command_credit : Command → Credit
command_credit command = cond (is_start command) Credit.Clear Credit.Keep

-- ---- a return: the reading becomes a first reading, u is 0, the choices apply

abbrev pub read_first : Reading → Run → Run
read_first reading run = record { position = run.position; unsaved = 0; measured = first_of reading; alarms = run.alarms }

unfoldable pub return_by : Settings → Here → Reading → Run → Run
return_by settings here reading run =
    moved_to (read_first reading run) (return_position settings here (whole_of (first_of reading)) run.position)

abbrev pub return_run : Setup → Reading → Run → Run
return_run setup reading run = return_by (settings_in setup) (here_in setup run.position) reading run
