-- One turn behind the others.
use Rattle.line.specs.Beside.{sheet_over}
use Rattle.terminal.proofs.Laws.{no_part, part-part, part_end}
use Rattle.terminal.proofs.run_lines.Goals as goal

pub turns-init : goal.turns-init
turns-init g c =
    let a = c.args in
    no_part (sheet_over a.bank.now) a.between a.store.now

pub turns-preserved : goal.turns-preserved
turns-preserved g c = part-part (sheet_over c.args.bank.now) c.turns.invariant (rw c.in-Continue.is at c.in_ok-next.ensures)

pub returns-in-Break : goal.returns-in-Break
returns-in-Break g c = part_end (sheet_over c.args.bank.now) c.turns.invariant (rw c.in-Break.is at c.in_ok-next.ensures)
