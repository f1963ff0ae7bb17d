-- `controller::State::take` meets its contract. Each part of the state that is left is searched for, so that it may also be a value that a branch
-- gives. Assumes nothing.
use Rattle.std.proofs.Common.{arith}
use Rattle.plain.specs.Run.{credited}
use Rattle.plain.specs.Setup.{over}
use Rattle.controller.proofs.Laws.{saved, not_saved}
use Rattle.controller.proofs.State.take.Goals as goal

pub returns-then-effect : goal.returns-then-effect
unfolding credited
returns-then-effect c =
    let a = c.args in
    saved (over a.bank.now a.config) a.store.now a.self.now a.taken c.event-effect.result c.event-effect.ensures _
    (record { power = grind arith; run = grind arith; credits = grind arith }) _ c.if-effect.true c.write.ensures

pub returns-else-effect : goal.returns-else-effect
unfolding credited
returns-else-effect c =
    let a = c.args in
    not_saved (over a.bank.now a.config) a.store.now a.self.now a.taken c.event-effect.result c.event-effect.ensures _
    (record { power = grind arith; run = grind arith; credits = grind arith }) c.if-effect.false
