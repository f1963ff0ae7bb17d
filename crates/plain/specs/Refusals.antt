-- The order of refusals: one list of rows, behind the bank's own.
-- Assumes nothing.
use Rattle.std.specs.Prelude.{Bool, true, false, cond, not, List, [], ◌∷◌, ◌++◌, eqb, Option, Result}
use Rattle.setting.specs.Found.{unless, Checked}
use Rattle.setting.specs.declared.Settings.{Settings}
use Rattle.measure.specs.Filter.{whole_of, outside_of}
use Rattle.position.specs.Tests.{both, either}
use Rattle.position.specs.Command.{takes_of, selects_of, is_start, lacks_value, stuck_of, command_position}
use Rattle.position.specs.declared.Position.{Position}
use Rattle.position.specs.declared.Here.{Here}
use Rattle.position.specs.declared.Command.{Command}
use Rattle.alarm.specs.Alarm.{all_in_range}
use Rattle.plain.specs.declared.Run.{Run}
use Rattle.plain.specs.declared.Event.{Event}
use Rattle.plain.specs.declared.Refusal.{Refusal}
use Rattle.plain.specs.Setup.{Setup, settings_in, here_in}
use Rattle.plain.specs.Run.{sound_in}
use Rattle.std.specs.Prelude.{Ok, Err}
use Rattle.plain.specs.Answer.{Answer}
use Rattle.plain.specs.declared.AnyRefusal.{AnyRefusal}
use lib.IntN.{ℤ}

-- 11 to 14: all check the bank anew
abbrev pub checked : {A : Type 0} → Checked → (Answer → A) → A → A
checked found refuse next = unless found (λ refusal. refuse (Err (AnyRefusal.Bank refusal))) next

-- a refusal, and whether it is met
abbrev pub Row : Type 0
Row = Refusal × Bool

-- the first refusal of rows that is met, or else what follows
abbrev pub judged : {A : Type 0} → List Row → (Refusal → A) → A → A
judged [] refuse next = next
judged (row ∷ rows) refuse next = cond row.1 (refuse row.0) (judged rows refuse next)

-- ---- what an event is

abbrev pub is_return : Event → Bool
is_return (Event.Tick reading) = false
is_return (Event.Press command) = false
is_return Event.Cut = false
is_return (Event.Return reading) = true

-- a tick or a return with a reading outside the temperature range
abbrev pub reads_outside : Event → Bool
reads_outside (Event.Tick reading) = outside_of reading
reads_outside (Event.Press command) = false
reads_outside Event.Cut = false
reads_outside (Event.Return reading) = outside_of reading

-- ---- what a call finds of the record: whether its buffer has the record's size, and whether it is readable

pub record Retained : Type 0 where
  pub fits : Bool
  pub readable : Bool

-- as the replay machine, which has no record, never finds anything wrong with it
abbrev pub no_record : Retained
no_record = record { fits = true; readable = true }

-- ---- the rows, lower numbers first; the settings' own, 41, come after 22

-- of buffers and settings, which making judges too
abbrev pub call_rows : Setup → Retained → List Row
call_rows setup retained =
    (Refusal.Buffer, not retained.fits)
    ∷ (Refusal.AlarmSetting, not (all_in_range setup.config.alarms))
    ∷ []

-- of a command on a position
abbrev pub command_rows : Settings → Here → Option ℤ → Position → Command → List Row
command_rows settings here whole position command =
    (Refusal.NoPattern, not (selects_of settings command))
    ∷ (Refusal.WrongMode, not (takes_of command position.mode))
    ∷ (Refusal.NoStep, both (is_start command) (eqb here.count 0))
    ∷ (Refusal.NoValue, both (is_start command) (lacks_value settings whole))
    ∷ (Refusal.Stuck, stuck_of here position command)
    ∷ []

abbrev pub press_rows : Setup → Run → Event → List Row
press_rows setup run (Event.Tick reading) = []
press_rows setup run (Event.Press command) =
    command_rows (settings_in setup) (here_in setup run.position) (whole_of run.measured) run.position command
press_rows setup run Event.Cut = []
press_rows setup run (Event.Return reading) = []

-- a state is sound if power is off, or if its run is sound
unfoldable pub sound_state : Setup → Bool → Run → Bool
sound_state setup power run = either (not power) (sound_in setup run)

-- of an event
abbrev pub event_rows : Setup → Retained → Bool → Run → Event → List Row
event_rows setup retained power run event =
    (Refusal.Unsound, not (sound_state setup power run))
    ∷ call_rows setup retained
    ++ (Refusal.PowerOff, both (not power) (not (is_return event)))
    ∷ (Refusal.PowerOn, both power (is_return event))
    ∷ (Refusal.Outside, reads_outside event)
    ∷ press_rows setup run event
    ++ (Refusal.Unreadable, both (is_return event) (not retained.readable))
    ∷ []

-- ---- a command on a position: 26 to 30, or where it goes. `first` is what the bank says at step 1 in pass 1
unfoldable pub command_move : Settings → Here → Here → Option ℤ → Position → Command → Result Position Refusal
command_move settings here first whole position command =
    judged (command_rows settings here whole position command) Err
    (Ok (command_position settings here first whole position command))
