-- `field::long` meets its contract.
-- Assumes nothing.
use Rattle.std.proofs.Common.{◌∙◌}
use Rattle.std.specs.Int.{w32}
use Rattle.field.proofs.Laws.{le_bytes-field}
use Rattle.field.proofs.long.Goals as goal

pub returns : goal.returns
returns c = c.from_le_bytes.ensures ∙ le_bytes-field w32 _ _ _ c.bytes.ensures
