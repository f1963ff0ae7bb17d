-- `carried::writing::put_record` meets its contract.
-- Assumes nothing.
use mathlib.Core.Path.{◌≡◌, ap, ◌∙◌}
use native.Mathlib.Omega.{arith}
use borrow.Author.Tests.{eq-eqb}
use borrow.Rule.Slice.PartMut.{put_mid}
use lib.ListN.{length, take, drop, length-take, length-drop}
use Rattle.field.specs.Row.{total}
use Rattle.plain.specs.Record.{Checkpoint, credit_widths, widths_of, record_size, record_of, sized}
use Rattle.plain.proofs.Record.{length-record}
use Rattle.carried.proofs.Parts.{put-part}
use borrow.Author.Rules.{rules}
use Rattle.carried.proofs.writing.put_record.Goals as goal

pub returns : goal.returns
unfolding credit_widths widths_of total sized
returns c =
    let a = c.args in
    let bytes = a.bytes.now in
    let many : length a.credits ≡ 99 = search rules in
    let checkpoint : Checkpoint = record { position = a.position; credits = a.credits; alarms = a.alarms } in
    let size : length (take record_size (drop 1 bytes)) ≡ record_size = length-take record_size (drop 1 bytes) ∙ omega (arith, length-drop 1 bytes, c.told-bytes) in
    let wrote : _ ≡ record_of checkpoint = rw (eq-eqb _ record_size size) at c.write.ensures in
    ap (put_mid 1 record_size bytes) wrote ∙ put-part 1 record_size bytes (record_of checkpoint) (length-record checkpoint many) (omega (arith, c.told-bytes))
