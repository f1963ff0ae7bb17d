-- `writer::put::put_head` meets its contract.
-- Assumes nothing.
use native.Mathlib.Omega.{arith}
use mathlib.Core.List.{[], ◌∷◌}
use lib.ListN.{take}
use Rattle.field.specs.Row.{total}
use Rattle.arrays.specs.Encode.{setting_widths}
use Rattle.arrays.proofs.Values.{settings-fit}
use Rattle.writer.proofs.Rows.{row_put, bits_put}
use Rattle.writer.proofs.put.put_head.Goals as goal

pub returns : goal.returns
unfolding total
returns c =
    let settings = c.args.settings in
    let fit = settings-fit c.args.settings _ c.well_formed.1.0 in
    let low = bits_put fit.low c.bits.ensures in
    let high = bits_put fit.high c.bits-2.ensures in
    let initial = bits_put fit.initial c.bits-3.ensures in
    row_put (take 8 setting_widths) c.args.out.now 0 _ c.put_row.ensures
    (λ i. settings.patterns ∷ settings.start ∷ settings.outage ∷ low i ∷ high i ∷ initial i ∷ settings.width ∷ settings.filter ∷ []) (omega arith) (omega (arith, c.requires))
