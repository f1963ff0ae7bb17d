-- `setting::range::is_above` meets its contract.
-- Assumes nothing.
use mathlib.Core.Path.{sym}
use mir.Facts.{to_z-of_z}
use Rattle.setting.proofs.Laws.{both-and}
use Rattle.setting.proofs.range.is_above.Goals as goal

pub returns : goal.returns
returns c = rw (c.is_temperature.ensures, to_z-of_z c.ranges.low, to_z-of_z c.ranges.high) (sym (both-and _ _))
