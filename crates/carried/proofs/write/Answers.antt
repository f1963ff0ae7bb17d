-- `carried::write` meets its contract.
-- Assumes nothing.
use mathlib.Core.Path.{◌≡◌}
use borrow.Author.Tests.{eq-eqb, ne_eqb}
use lib.ListN.{length}
use Rattle.field.specs.Row.{total}
use Rattle.plain.specs.Record.{credit_widths, widths_of}
use Rattle.calls.specs.Carried.{roomy}
use Rattle.controller.specs.Holds.{state_of}
use Rattle.carried.proofs.Parts.{state-put}
use borrow.Author.Rules.{rules}
use Rattle.carried.proofs.write.Goals as goal

pub returns-in_default : goal.returns-in_default
unfolding roomy credit_widths widths_of total
returns-in_default c = rw (ne_eqb (length c.args.bytes.now) 434 c.in_default.ensures.cases)

pub returns : goal.returns
unfolding roomy credit_widths widths_of total
returns c =
    let bytes = c.args.bytes.now in
    let state = state_of c.args.state in
    let many : length state.credits ≡ 99 = search rules in
    let whole = c.in-Some.ensures.cases in
    rw (eq-eqb (length bytes) 434 whole.long, c.put_rest.ensures, c.put_record.ensures, c.from.ensures, whole.same)
    (state-put state many bytes whole.long)
