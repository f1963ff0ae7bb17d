-- `bank::body::body_right` meets its contract.
-- Assumes nothing.
use Prim.Native.Nat.{◌+◌}
use native.Mathlib.Omega.{arith}
use Rattle.field.proofs.Laws.{field-one}
use Rattle.setting.proofs.Laws.{both-and}
use Rattle.bank.proofs.body.body_right.Goals as goal

pub overflow_cast-result : goal.overflow_cast-result
overflow_cast-result c = omega (arith, c.type_inv.bank (c.args.at + 1))

pub returns : goal.returns
returns c = simp (field-one, both-and)
