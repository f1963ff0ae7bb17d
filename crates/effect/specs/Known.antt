-- What the functions of `effect` ask.
-- Assumes nothing.
use Rattle.std.specs.Prelude.{◌≡◌, Bool, true, List, ℕ, length}
use Rattle.setting.specs.Setting.{settings_at}
use Rattle.setting.specs.declared.Settings.{Settings}
use Rattle.position.specs.declared.Position.{Position}
use Rattle.position.specs.declared.Here.{Here}
use Rattle.position.specs.Program.{said_at}
use Rattle.alarm.specs.Alarm.{all_in_range}
use Rattle.alarm.specs.Idle.{all_idle}
use Rattle.plain.specs.declared.Run.{Run}
use Rattle.plain.specs.Record.{sized}
use Rattle.plain.specs.Setup.{Setup}
use Rattle.plain.specs.Run.{shown_in}
use Rattle.plain.specs.Refusals.{sound_state}
use Rattle.plain.specs.Event.{State}
use Rattle.plain.proofs.Standing.{Stands}
use Rattle.making.specs.declared.Ran.{Ran}
use Rattle.std.specs.Prelude.{Ok}

-- the settings, and what is said at a position
pub record Known (bank : List ℕ) (position : Position) (settings : Settings) (here : Here) : Type 0 where
  pub settings-are : settings ≡ settings_at bank
  pub here-is : here ≡ said_at bank settings position

-- those of a sound state, and alarm settings in range
pub record Sound (setup : Setup) (power : Bool) (run : Run) (settings : Settings) (here : Here) : Type 0 where
  pub known : Known setup.bank run.position settings here
  pub sound : sound_state setup power run ≡ true
  pub alarms : all_in_range setup.config.alarms ≡ true

-- and a record of its size
pub record Ready (setup : Setup) (store : List ℕ) (power : Bool) (run : Run) (settings : Settings) (here : Here) : Type 0 where
  pub sound : Sound setup power run settings here
  pub whole : sized store ≡ true

-- what is known within a list of events; `idle` says whether no tick moves the alarms
pub record Within (setup : Setup) (settings : Settings) (here : Here) (idle : Bool) (state : State) (store : List ℕ) : Type 0 where
  pub known : Known setup.bank state.run.position settings here
  pub idle-is : idle ≡ all_idle setup.config.alarms state.run.alarms
  pub stands : Stands setup state store
  pub long : length state.credits ≡ 99

-- what making gave, accepted
pub record Made (setup : Setup) (ran : Ran) (store : List ℕ) : Type 0 where
  pub stands : Stands setup (record { power = ran.power; run = ran.run; credits = ran.credits }) store
  pub answer-is : ran.answer ≡ Ok (shown_in setup ran.run)
