-- `carried::make` meets its contract.
-- Assumes nothing.
use borrow.Author.Rules.{rules}
use borrow.Author.Tests.{eq-eqb, ne_eqb}
use Rattle.field.specs.Row.{total}
use Rattle.plain.specs.Record.{credit_widths, widths_of}
use Rattle.plain.specs.Setup.{over}
use Rattle.calls.specs.Carried.{roomy}
use Rattle.carried.proofs.Left.{bank-behind, make-alone, made}
use Rattle.carried.proofs.make.Goals as goal

pub returns-then-bytes-ne-SIZE : goal.returns-then-bytes-ne-SIZE
unfolding roomy credit_widths widths_of total
returns-then-bytes-ne-SIZE c =
    let a = c.args in
    make-alone (over a.bank.now a.config) a.store.now a.bytes.now _ (search (rules, bank-behind)) (ne_eqb _ 434 c.if-bytes-ne-SIZE.true)

pub returns-then-is_ok : goal.returns-then-is_ok
unfolding roomy credit_widths widths_of total
returns-then-is_ok c =
    let a = c.args in
    let room = eq-eqb _ 434 c.if-bytes-ne-SIZE.false in
    made (over a.bank.now a.config) a.store.now a.bytes.now _ c.make-made.ensures room _
    (rw (← c.is_ok.ensures.value, c.if-is_ok.true, c.write.ensures, room))

pub returns-else-is_ok : goal.returns-else-is_ok
unfolding roomy credit_widths widths_of total
returns-else-is_ok c =
    let a = c.args in
    let room = eq-eqb _ 434 c.if-bytes-ne-SIZE.false in
    made (over a.bank.now a.config) a.store.now a.bytes.now _ c.make-made.ensures room _ (rw (← c.is_ok.ensures.value, c.if-is_ok.false))
