-- `stored::put_row` meets its contract.
-- Assumes nothing.
use mathlib.Core.Path.{sym, ◌∙◌}
use native.Mathlib.Omega.{arith}
use Prim.Native.Nat.{◌-◌}
use lib.ListN.{length}
use Rattle.field.specs.Row.{total}
use borrow.Author.Tests.{leb-true, leb-false}
use Rattle.field.proofs.Rows.{stored_row_lem, row-few, row-past}
use Rattle.stored.proofs.put_row.Goals as goal

pub returns-then-numbers-widths : goal.returns-then-numbers-widths
returns-then-numbers-widths c = let a = c.args in sym (row-few a.widths.now a.buffer.now a.at a.numbers.now (omega arith))

pub returns-then-buffer-at : goal.returns-then-buffer-at
returns-then-buffer-at c = let a = c.args in sym (row-past a.widths.now a.buffer.now a.at a.numbers.now (omega arith) (omega arith))

pub returns-then-not-has_room : goal.returns-then-not-has_room
returns-then-not-has_room c =
    let a = c.args in
    let h = leb-false (total a.widths.now) (length a.buffer.now - a.at) (sym c.has_room.ensures ∙ c.if-not-has_room.true) in
    sym (row-past a.widths.now a.buffer.now a.at a.numbers.now (omega arith) (omega arith))

pub put_all-requires : goal.put_all-requires
put_all-requires c =
    let a = c.args in
    let h = leb-true (total a.widths.now) (length a.buffer.now - a.at) (sym c.has_room.ensures ∙ c.if-not-has_room.false) in
    record { enough = omega arith; room = omega arith }

pub returns : goal.returns
returns c =
    let a = c.args in
    let h = leb-true (total a.widths.now) (length a.buffer.now - a.at) (sym c.has_room.ensures ∙ c.if-not-has_room.false) in
    c.put_all.ensures ∙ sym (stored_row_lem a.widths.now a.buffer.now a.at a.numbers.now (omega arith) (omega arith))
