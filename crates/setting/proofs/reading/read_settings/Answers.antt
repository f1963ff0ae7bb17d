-- `setting::reading::read_settings` meets its contract.
-- Assumes nothing.
use mathlib.Core.Path.{◌∙◌}
use Rattle.setting.proofs.Padded.{settings-padded}
use Rattle.setting.proofs.reading.read_settings.Goals as goal

pub returns-then-bank-lt45 : goal.returns-then-bank-lt45
returns-then-bank-lt45 c = c.settings_in.ensures ∙ settings-padded _ c.args.bank.now c.padded.ensures
