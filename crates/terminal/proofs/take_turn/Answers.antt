-- A read at the end of the input, and one that gives a part.
use Rattle.std.proofs.Common.{arith, ◌*◌, ◌≤◌, length, take}
use Rattle.std.proofs.lemmas.List.{length-take}
use Rattle.line.specs.Beside.{sheet_over}
use Rattle.line.specs.Part.{found}
use Rattle.terminal.proofs.Laws.{ran-part, finished}
use Rattle.terminal.proofs.take_turn.Goals as goal

pub returns-then-count-eq0 : goal.returns-then-count-eq0
returns-then-count-eq0 g c =
    let a = c.args in
    let last = c.finish-last in
    finished (sheet_over a.bank.now) (found a.between a.store.now) a.out.now last.result (omega arith) last.ensures

pub returns : goal.returns
returns g c =
    let a = c.args in
    let ran = c.run-ran in
    let cs = take c.in-Ok.count c.read.new.buf in
    let room : 168 * length cs ≤ length a.out.now = omega (arith, length-take c.in-Ok.count c.read.new.buf) in
    ran-part (sheet_over a.bank.now) (found a.between a.store.now) cs a.out.now ran.result room ran.ensures
