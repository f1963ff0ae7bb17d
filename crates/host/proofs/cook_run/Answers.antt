-- `host::cook_run` meets its contract.
-- Assumes nothing.
use Rattle.calls.specs.Calls.{run_over, run_leaves}
use Rattle.host.proofs.Laws.{with-config, no-config, run-left}
use Rattle.host.proofs.cook_run.Goals as goal

pub returns-then-config-ne-SIZE : goal.returns-then-config-ne-SIZE
unfolding run_leaves
returns-then-config-ne-SIZE c =
    let a = c.args in
    let both = run-left a.bank.now a.config.now a.store.now a.state.now a.events.now _
    (no-config a.bank.now a.config.now a.store.now a.state.now (run_over a.store.now a.state.now a.events.now) c.if-config-ne-SIZE.true) in
    record { state_after = both.0; run_meets = both.1 }

pub returns : goal.returns
unfolding run_leaves
returns c =
    let a = c.args in
    let both = run-left a.bank.now a.config.now a.store.now a.state.now a.events.now _
    (with-config a.bank.now a.config.now a.store.now a.state.now (run_over a.store.now a.state.now a.events.now) c.if-config-ne-SIZE.false c.read.ensures c.run_with.ensures) in
    record { state_after = both.0; run_meets = both.1 }
