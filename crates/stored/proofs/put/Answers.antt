-- `stored::put` meets its contract.
-- Assumes nothing.
use Rattle.std.proofs.Common.{◌+◌, ◌∙◌, sym, refl, arith}
use Rattle.field.proofs.Laws.{stored-fits, stored_past}
use Rattle.stored.proofs.Part.{part-digits}
use Rattle.stored.proofs.put.Goals as goal

pub returns-then-buffer-width : goal.returns-then-buffer-width
returns-then-buffer-width c = let a = c.args in sym (stored_past a.width a.buffer.now a.at a.v (omega arith))

pub returns : goal.returns
returns c =
    let a = c.args in
    part-digits a.buffer.now _ a.at (a.at + a.width) a.width a.v refl (omega arith) c.put_digits.ensures
    ∙ sym (stored-fits a.width a.buffer.now a.at a.v (omega arith))
