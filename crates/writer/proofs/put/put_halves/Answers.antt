-- `writer::put::put_halves` meets its contract.
-- Assumes nothing.
use mathlib.Core.Path.{sym}
use native.Mathlib.Omega.{arith}
use lib.ListN.{replicate}
use borrow.Author.Rules.{rules}
use Rattle.field.specs.Row.{total}
use Rattle.arrays.proofs.Sizes.{paired-four}
use Rattle.writer.proofs.Rows.{row_put}
use Rattle.writer.proofs.put.put_halves.Goals as goal

pub returns : goal.returns
unfolding total
returns c =
    let same = sym (paired-four c.args.xs c.args.ys (search rules) (search rules)) in
    row_put (replicate 8 2) c.args.out.now c.args.at _ c.put_row.ensures same (omega arith) (omega (arith, c.requires))
