-- Before each turn a part of the input was run.
use Rattle.line.specs.Beside.{sheet_over}
use Rattle.line.specs.Part.{found}
use Rattle.terminal.specs.Input.{Part}
use Rattle.terminal.proofs.run_lines.Given as goal

abbrev pub invariant-turns : goal.invariant-turns
invariant-turns g l = Part (sheet_over l.bank) (found l.fn.between l.fn.store) (found l.so_far l.store)
