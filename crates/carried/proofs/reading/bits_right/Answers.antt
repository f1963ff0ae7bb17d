-- `carried::reading::bits_right` meets its contract. Assumes nothing.
use mathlib.Core.Path.{sym, ap}
use mathlib.Core.Bool.{not}
use lib.Ieee.{binary64}
use lib.Ieee.Bits.{nan_bits_is}
use Rattle.calls.specs.Carried.{bits_right}
use Rattle.carried.proofs.reading.bits_right.Goals as goal

pub returns-then-kind-eq3 : goal.returns-then-kind-eq3
unfolding bits_right
returns-then-kind-eq3 c = rw (c.is_nan.ensures.value, c.f64_from_bits_with_nan.ensures, c.if-kind-eq3.true) (ap not (sym (nan_bits_is binary64 c.args.bits)))
