-- `carried::writing::put_rest` meets its contract.
-- Assumes nothing.
use mathlib.Core.Path.{◌≡◌, ap, ◌∙◌}
use native.Mathlib.Omega.{arith}
use lib.ListN.{length, set, length-set}
use lib.Seq.{sets}
use Rattle.field.specs.Row.{total}
use Rattle.field.proofs.Laws.{stored-fits}
use Rattle.plain.specs.Record.{credit_widths, widths_of}
use Rattle.calls.specs.Carried.{kind_of, bits_of, rest_from}
use Rattle.calls.proofs.Written.{rest-row}
use borrow.Author.Rules.{rules}
use Rattle.carried.proofs.writing.put_rest.Goals as goal

pub returns : goal.returns
unfolding credit_widths widths_of total
returns c =
    let bytes = c.args.bytes.now in
    let run = c.args.run in
    let first = set (set bytes 424 run.unsaved) 425 (kind_of run.measured) in
    let long : length first ≡ 434 = simp (length-set, length-set) c.told-bytes in
    c.put.ensures
    ∙ rw c.kind_and_bits-kind.ensures (stored-fits 8 first 426 (bits_of run.measured) (omega (arith, long)))
    ∙ ap (sets bytes rest_from) (rest-row run (search rules))
