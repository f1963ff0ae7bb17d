-- `measure::first` meets its contract: a first reading is one with no reading before it.
-- Assumes nothing.
use Rattle.std.proofs.Common.{◌≡◌, sym, ◌∙◌}
use Rattle.measure.specs.declared.Measured.{Measured}
use Rattle.measure.specs.Filter.{after_of}
use Rattle.measure.proofs.Laws.{first-after}
use Rattle.measure.proofs.first.Goals as goal

pub returns : goal.returns
returns c =
    let reading = c.args.reading in
    let is : c.after.result ≡ after_of Measured.NoReading reading 0 = c.after.ensures in
    is ∙ sym (first-after reading 0)
