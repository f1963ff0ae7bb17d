-- `field::quad` meets its contract.
-- Assumes nothing.
use Rattle.std.proofs.Common.{◌∙◌}
use Rattle.std.specs.Int.{w64}
use Rattle.field.proofs.Laws.{le_bytes-field}
use Rattle.field.proofs.quad.Goals as goal

pub returns : goal.returns
returns c = c.from_le_bytes.ensures ∙ le_bytes-field w64 _ _ _ c.bytes.ensures
