-- The lines are those of a controller that was made over an accepted bank.
use Rattle.std.proofs.Common.{sym}
use Rattle.line.specs.Beside.{sheet_over}
use Rattle.terminal.proofs.Laws.{all_lines}
use Rattle.terminal.proofs.run_bank.Goals as goal

pub returns-in_ok-last-in-Ok : goal.returns-in_ok-last-in-Ok
returns-in_ok-last-in-Ok g c =
    let begun = rw c.in-Ok.is at c.start.ensures in
    all_lines (sheet_over c.args.bank.now) _ c.in-Ok.ran c.in_ok-last-in-Ok.last (sym begun.found) begun.is c.in_ok-last-in-Ok.ensures
