-- `carried::writing::put_retained` meets its contract.
-- Assumes nothing.
use mathlib.Core.Path.{◌≡◌, ap, ◌∙◌}
use lib.ListN.{length}
use lib.Seq.{length-sets}
use Rattle.plain.specs.Run.{credited}
use Rattle.calls.proofs.Written.{keep-put, cook-put}
use Rattle.field.specs.Row.{total}
use Rattle.plain.specs.Record.{credit_widths, widths_of, position_widths, position_numbers}
use Rattle.carried.proofs.Parts.{position-put, alarms-put, bytes-placed}
use Rattle.carried.proofs.writing.put_retained.Goals as goal

pub returns-in-Keep : goal.returns-in-Keep
unfolding credited credit_widths widths_of total
returns-in-Keep c =
    let a = c.args in
    let placed = c.write_position.ensures ∙ position-put a.bytes.now c.told-bytes a.position in
    let long : length c.write_position.new.bytes ≡ 434 = ap length placed ∙ simp length-sets c.told-bytes in
    let small = bytes-placed position_widths (position_numbers a.position) a.bytes.now 1 _ placed c.fits-bytes in
    rw c.in-Keep.is
    (c.write_alarms.ensures ∙ alarms-put _ long a.alarms
    ∙ keep-put a.bytes.now a.position a.alarms c.told-bytes _ placed small)

pub returns-in-Cook : goal.returns-in-Cook
unfolding credited credit_widths widths_of total
returns-in-Cook c =
    let a = c.args in
    rw c.in-Cook.is
    (c.write_alarms-in-Cook.ensures ∙ alarms-put _ c.cook.array_long a.alarms
    ∙ cook-put a.bytes.now a.position a.alarms c.told-bytes _ (c.write_position-in-Cook.ensures ∙ position-put a.bytes.now c.told-bytes a.position) c.in-Cook.k _ c.cook.ensures)

pub returns-in-Clear : goal.returns-in-Clear
unfolding credited
returns-in-Clear c = rw c.in-Clear.is c.put_record.ensures

pub returns-in-Restore : goal.returns-in-Restore
unfolding credited
returns-in-Restore c = rw c.in-Restore.is (rw c.credits.ensures at c.put_record-in-Restore.ensures)
