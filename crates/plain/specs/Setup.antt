-- What every call is given beside record, state and event, and what it says at a position.
-- Assumes nothing.
use Rattle.std.specs.Prelude.{ℕ, ◌≡◌, true, List}
use Rattle.setting.specs.Setting.{settings_at}
use Rattle.setting.specs.declared.Settings.{Settings}
use Rattle.bank.specs.Check.{found_in}
use Rattle.position.specs.declared.Position.{Position}
use Rattle.position.specs.declared.Here.{Here}
use Rattle.position.specs.Program.{said_at, first_at}
use Rattle.alarm.specs.Alarm.{all_in_range}
use Rattle.plain.specs.declared.Config.{Config}
use Rattle.setting.specs.Found.{Accepted}

-- the bank, and the settings that go beside it
pub record Setup : Type 0 where
  pub bank : List ℕ
  pub config : Config

abbrev pub over : List ℕ → Config → Setup
over bank config = record { bank = bank; config = config }

-- one that no refusal meets: the bank is accepted, the settings beside it are in range
pub record Usable (setup : Setup) : Type 0 where
  pub bank : found_in setup.bank ≡ Accepted
  pub alarms : all_in_range setup.config.alarms ≡ true

abbrev pub settings_in : Setup → Settings
settings_in setup = settings_at setup.bank

-- what the bank says at a position: at its pattern and step, in its pass
unfoldable pub here_in : Setup → Position → Here
here_in setup position = said_at setup.bank (settings_in setup) position

-- and where a run of its pattern begins: at step 1 in pass 1
unfoldable pub first_in : Setup → Position → Here
first_in setup position = first_at setup.bank (settings_in setup) position
