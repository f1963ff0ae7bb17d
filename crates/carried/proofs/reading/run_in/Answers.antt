-- `carried::reading::run_in` meets its contract. Assumes nothing.
use native.Mathlib.Omega.{arith}
use lib.ListN.{drop, length-drop}
use lib.Seq.{take_all}
use Rattle.field.specs.Row.{total}
use Rattle.plain.specs.Record.{credit_widths, widths_of}
use Rattle.calls.specs.Carried.{state_in}
use Rattle.carried.proofs.reading.run_in.Goals as goal

pub returns : goal.returns
unfolding state_in credit_widths widths_of total
returns c =
    let bytes = c.args.bytes.now in
    let behind = take_all 433 (drop 1 bytes) (omega (arith, length-drop 1 bytes, c.told-bytes)) in
    rw (c.read_alarms.ensures, c.measured_as.ensures, c.quad.ensures, c.byte-2.ensures, c.byte.ensures, c.read_position.ensures, behind)
