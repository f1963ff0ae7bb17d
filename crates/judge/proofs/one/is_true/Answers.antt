-- `judge::one::is_true` meets its contract.
-- Assumes nothing.
use Rattle.std.proofs.Common.{arith}
use mir.Facts.{to_z-of_z}
use Rattle.position.specs.Tests.{both, either, within}
use Rattle.alarm.specs.Alarm.{condition}
use Rattle.judge.proofs.one.is_true.Goals as goal

pub returns-in-1 : goal.returns-in-1
unfolding condition either
returns-in-1 c = grind (arith, to_z-of_z)

pub returns-in-2 : goal.returns-in-2
unfolding condition either
returns-in-2 c = grind (arith, to_z-of_z)

pub returns-in-3 : goal.returns-in-3
unfolding condition either
returns-in-3 c = grind (arith, to_z-of_z)

pub returns-in-4 : goal.returns-in-4
unfolding condition either both within
returns-in-4 c = grind (arith, to_z-of_z)
