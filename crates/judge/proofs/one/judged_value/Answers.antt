-- `judge::one::judged_value` meets its contract.
-- Assumes nothing.
use Rattle.std.proofs.Common.{arith}
use Rattle.std.proofs.lemmas.Int.{ints}
use borrow.Author.Tests.{le-leb}
use Rattle.alarm.specs.Alarm.{judged_value}
use Rattle.judge.proofs.one.judged_value.Goals as goal

pub returns-then-setting-le4 : goal.returns-then-setting-le4
unfolding judged_value
returns-then-setting-le4 c = rw (le-leb _ _ c.if-setting-le4.true) (omega (arith, ints))
