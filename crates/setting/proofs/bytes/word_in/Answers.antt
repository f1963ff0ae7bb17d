-- `setting::bytes::word_in` meets its contract.
-- Assumes nothing.
use mathlib.Core.Path.{sym, ◌∙◌}
use Rattle.field.proofs.Laws.{field-two}
use Rattle.setting.proofs.bytes.word_in.Goals as goal

pub returns : goal.returns
returns c = c.join2.ensures ∙ sym (field-two _ _)
