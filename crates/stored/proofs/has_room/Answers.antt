-- `stored::has_room` meets its contract.
-- Assumes nothing.
use Rattle.std.proofs.Common.{◌∙◌, sym, drop, arith}
use borrow.Author.Tests.{lt-leb, le-leb}
use Rattle.field.specs.Row.{total}
use Rattle.field.proofs.Rows.{total-turn, total-end, fits-turn}
use Rattle.stored.proofs.has_room.Goals as goal

pub returns-in_default : goal.returns-in_default
returns-in_default c =
    let l = c.loop-width in
    let t = total-turn c.args.widths.now l.width-index c.loop-width-test.true in
    sym (l.invariant ∙ lt-leb (total (drop l.width-index c.args.widths.now)) l.left (omega (arith, c.in_default.ensures)))

pub loop-width-preserved : goal.loop-width-preserved
loop-width-preserved c =
    let l = c.loop-width in
    let h = c.in-Some.ensures in
    l.invariant ∙ rw h.1 (fits-turn c.args.widths.now l.width-index l.left c.loop-width-test.true h.0)

pub returns : goal.returns
returns c =
    let l = c.loop-width in
    let t = total-end c.args.widths.now l.width-index (omega arith) in
    sym (l.invariant ∙ le-leb (total (drop l.width-index c.args.widths.now)) l.left (omega arith))
