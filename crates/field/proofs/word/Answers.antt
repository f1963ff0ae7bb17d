-- `field::word` meets its contract.
-- Assumes nothing.
use Rattle.std.proofs.Common.{◌∙◌}
use Rattle.std.specs.Int.{w16}
use Rattle.field.proofs.Laws.{le_bytes-field}
use Rattle.field.proofs.word.Goals as goal

pub returns : goal.returns
returns c = c.from_le_bytes.ensures ∙ le_bytes-field w16 _ _ _ c.bytes.ensures
