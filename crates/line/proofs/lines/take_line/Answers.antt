-- `line::lines::take_line` meets its contract: the bytes that are kept are answered.
-- Assumes nothing.
use mathlib.Core.Path.{ap, ◌∙◌}
use borrow.Author.Rules.{rules}
use lib.IntN.{pos}
use Rattle.controller.specs.Holds.{state_of}
use Rattle.key.specs.Line.{asked_by}
use Rattle.line.specs.Beside.{sheet_over}
use Rattle.line.specs.Text.{said}
use Rattle.line.specs.Part.{found}
use Rattle.line.proofs.Laws.{kept_line, line_taken}
use Rattle.line.proofs.lines.take_line.Goals as goal

pub returns : goal.returns
returns c =
    let a = c.args in
    let between = a.ran.between in
    let setup = sheet_over a.bank.now in
    let left = c.respond-said in
    let state = state_of left.result.state in
    let kept = kept_line between.kept between.line (search rules) c.min.ensures in
    line_taken setup (found between a.store.now) a.out.now a.ran.end
    (said setup state left.new.store (pos left.result.number)) left.ensures (c.parse-asked.ensures ∙ ap asked_by kept)
    c.put_eight.ensures
