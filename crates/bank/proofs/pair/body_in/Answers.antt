-- `bank::pair::body_in` meets its contract.
-- Assumes nothing.
use native.Mathlib.Omega.{arith}
use mathlib.Core.Path.{refl}
use Rattle.field.proofs.Laws.{field-joined}
use Prim.Native.Nat.{◌+◌, ◌*◌}
use Rattle.bank.proofs.pair.body_in.Goals as goal

pub returns : goal.returns
returns c =
    let bank = c.args.bank.now in
    let at = 41 + 4 * c.args.p in
    record {
      at = field-joined bank at (at + 1) at c.join2.ensures refl refl;
      len = field-joined bank (at + 2) (at + 3) (43 + 4 * c.args.p) c.join2-2.ensures (omega arith) (omega arith);
      near = omega arith;
      short = omega arith;
    }
