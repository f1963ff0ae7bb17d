-- `writer::put::put_step` meets its contract.
-- Assumes nothing.
use native.Mathlib.Omega.{arith}
use mathlib.Core.List.{◌∷◌}
use lib.ListN.{drop}
use Rattle.field.specs.Row.{total}
use Rattle.arrays.specs.Encode.{step_widths, step_numbers}
use Rattle.arrays.proofs.Values.{step_fits}
use Rattle.writer.proofs.Rows.{row_put, bits_put}
use Rattle.writer.proofs.put.put_step.Goals as goal

pub returns : goal.returns
unfolding total
returns c =
    let step = c.args.step in
    let target = bits_put (step_fits c.args.step _ c.well_formed.1.1.0).target c.bits.ensures in
    row_put step_widths c.args.out.now c.args.at _ c.put_row.ensures (λ i. target i ∷ drop 1 (step_numbers step)) (omega arith) (omega (arith, c.requires))
