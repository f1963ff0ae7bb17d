-- `line::start` meets its contract, for a refused bank and for an accepted one.
-- Assumes nothing.
use mathlib.Core.Path.{refl, sym}
use Rattle.std.specs.Prelude.{Ok, Err}
use Rattle.plain.specs.Setup.{over}
use Rattle.controller.specs.Holds.{after}
use Rattle.line.proofs.Laws.{begun}
use Rattle.line.proofs.start.Goals as goal

pub returns-in-Ok : goal.returns-in-Ok
returns-in-Ok c =
    let a = c.args in
    let config = c.sheet_config in
    let made = c.make-made in
    rw (sym config.ensures) (begun (over a.bank.now config.result) a.store.now a.out.now (after made.result.state made.new.store made.result.answer)
    (Ok tt) made.ensures c.check.ensures c.in-Ok.is refl)

pub returns-in-Err : goal.returns-in-Err
returns-in-Err c =
    let a = c.args in
    let config = c.sheet_config in
    let made = c.make-made in
    rw (sym config.ensures) (begun (over a.bank.now config.result) a.store.now a.out.now (after made.result.state made.new.store made.result.answer)
    (Err c.in-Err.refusal) made.ensures c.check.ensures c.in-Err.is c.put_refusal.ensures)
