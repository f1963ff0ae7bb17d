-- `writer::rewrite` meets its contract: what was read is written as the bytes that it was read from.
-- Assumes nothing.
use mathlib.Core.Path.{◌∙◌}
use native.Mathlib.Omega.{arith}
use Rattle.writer.proofs.Again.{written-again}
use Rattle.writer.proofs.rewrite.Goals as goal

pub returns : goal.returns
returns c = c.write.ensures.out_after ∙ written-again c.args.bank.now c.args.out.now _ _ (λ i. (c.type_inv.bank i).fits) (grind arith)
