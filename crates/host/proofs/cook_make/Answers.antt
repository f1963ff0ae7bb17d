-- `host::cook_make` meets its contract.
-- Assumes nothing.
use Rattle.calls.specs.Calls.{make_over, make_leaves}
use Rattle.host.proofs.Laws.{answered, with-config, no-config}
use Rattle.host.proofs.cook_make.Goals as goal

pub returns-then-config-ne-SIZE : goal.returns-then-config-ne-SIZE
unfolding make_leaves
returns-then-config-ne-SIZE c =
    let a = c.args in
    no-config a.bank.now a.config.now a.store.now a.state.now (make_over a.store.now a.state.now) c.if-config-ne-SIZE.true

pub returns : goal.returns
unfolding make_leaves
returns c =
    let a = c.args in
    with-config a.bank.now a.config.now a.store.now a.state.now (make_over a.store.now a.state.now) c.if-config-ne-SIZE.false c.read.ensures
    (answered c.of_answer.ensures c.make.ensures)
