-- `line::lines::respond` meets its contract: a line that asks for an event, and one of any other form.
-- Assumes nothing.
use Rattle.controller.specs.Holds.{state_of, after}
use Rattle.line.specs.Beside.{sheet_over}
use Rattle.line.proofs.Laws.{event-answered}
use Rattle.line.proofs.lines.respond.Goals as goal

pub returns : goal.returns
returns c =
    let a = c.args in
    let event = c.event-outcome in
    let left = after event.result.state event.new.store event.result.answer in
    rw c.in-Some.is
    (event-answered (sheet_over a.bank.now) a.store.now (state_of a.state) c.in-Some.wanted left event.ensures c.number.ensures)
