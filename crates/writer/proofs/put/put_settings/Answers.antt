-- `writer::put::put_settings` meets its contract: three rows, one behind the other.
-- Assumes nothing.
use mathlib.Core.Path.{◌≡◌, refl}
use mathlib.Core.List.{List, ◌++◌}
use Prim.Native.Nat.{ℕ}
use native.Mathlib.Omega.{arith}
use lib.ListN.{length, take, replicate}
use Rattle.field.specs.Row.{total}
use Rattle.arrays.specs.Encode.{setting_widths, setting_numbers, paired}
use Rattle.writer.proofs.Rows.{rows-put}
use Rattle.arrays.proofs.Sizes.{length-paired}
use Rattle.arrays.proofs.Values.{fours}
use Rattle.writer.proofs.put.put_settings.Goals as goal

pub returns : goal.returns
unfolding total
returns c =
    let settings = c.args.settings in
    let out = c.args.out.now in
    let head = take 8 (setting_numbers settings) in
    let waiting = paired settings.zones settings.waits in
    let signals = paired settings.on settings.off in
    let two : List ℕ = replicate 8 2 in
    let four = fours settings _ c.well_formed.1.0 in
    let size : 16 ≡ length (head ++ waiting) = omega (arith, length-paired 4 settings.zones settings.waits four.zones four.waits) in
    let one = c.put_head.ensures in
    let other = c.put_halves.ensures in
    let first = rows-put (take 8 setting_widths) head two waiting out 0 refl one other in
    rows-put (take 16 setting_widths) (head ++ waiting) two signals out 0 size first c.put_halves-2.ensures
