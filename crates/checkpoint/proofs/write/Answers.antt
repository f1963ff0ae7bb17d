-- `checkpoint::write` meets its contract.
-- Assumes nothing.
use Prim.Native.Nat.{ℕ}
use mathlib.Core.Path.{◌≡◌, sym, ap, ◌∙◌}
use mathlib.Core.List.{List}
use native.Mathlib.Omega.{arith}
use borrow.Author.Rules.{rules}
use borrow.Author.Tests.{eq-eqb}
use lib.ListN.{length}
use lib.Seq.{sets}
use Rattle.field.specs.Row.{row, total}
use Rattle.field.proofs.Rows.{stored_row_lem}
use Rattle.alarm.specs.Part.{alarm_widths, alarm_numbers}
use Rattle.plain.specs.Record.{Checkpoint, widths_of, position_widths, position_numbers, credit_widths, record_size, credits_from, alarms_from, sized}
use Rattle.plain.proofs.Record.{put_record}
use Rattle.checkpoint.proofs.write.Goals as goal

pub returns : goal.returns
unfolding sized credit_widths widths_of total
returns c =
    let store = c.args.store.now in
    let position = c.args.position in
    let credits = c.args.credits in
    let alarms = c.args.alarms in
    let checkpoint : Checkpoint = record { position = position; credits = credits; alarms = alarms } in
    let size : length store ≡ record_size = omega arith in
    let first = c.write_position.ensures ∙ stored_row_lem position_widths store 0 (position_numbers position) (omega arith) (omega arith) in
    let second = c.put_credits.ensures ∙ ap (λ (bytes : List ℕ). sets bytes credits_from (row credit_widths credits)) first in
    let third = c.write_alarms.ensures ∙ stored_row_lem alarm_widths _ alarms_from (alarm_numbers alarms) (omega arith) (omega arith) in
    third
    ∙ ap (λ (bytes : List ℕ). sets bytes alarms_from (row alarm_widths (alarm_numbers alarms))) second
    ∙ put_record checkpoint store ((let long : length c.args.credits ≡ 99 = search rules in long)) size
    ∙ sym (rw (eq-eqb (length store) record_size size))
