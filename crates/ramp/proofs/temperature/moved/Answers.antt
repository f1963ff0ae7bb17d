-- `ramp::temperature::moved` meets its contract: between b and the target no sum leaves the 16 bits.
-- Assumes nothing.
use Rattle.std.proofs.Common.{◌≡◌, true, false, arith}
use Rattle.std.proofs.lemmas.Int.{ints}
use lib.Signed.{le_z}
use Rattle.position.specs.Tests.{apart}
use Rattle.position.specs.Program.{toward}
use Rattle.ramp.proofs.temperature.moved.Goals as goal

pub returns-then-b-target : goal.returns-then-b-target
unfolding apart toward
returns-then-b-target c =
    let upward : le_z c.args.b c.args.target ≡ true = grind (arith, ints) in
    rw upward (omega (arith, ints))

pub returns-else-b-target : goal.returns-else-b-target
unfolding apart toward
returns-else-b-target c =
    let downward : le_z c.args.b c.args.target ≡ false = grind (arith, ints) in
    rw downward (omega (arith, ints))
