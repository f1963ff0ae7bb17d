-- `carried::event` meets its contract.
-- Assumes nothing.
use mathlib.Core.Path.{sym, ◌∙◌}
use borrow.Author.Tests.{ne_eqb}
use Rattle.field.specs.Row.{total}
use Rattle.position.specs.Tests.{both}
use Rattle.plain.specs.Record.{credit_widths, widths_of}
use Rattle.plain.specs.Setup.{over}
use Rattle.calls.specs.Carried.{is_state, roomy}
use Rattle.carried.proofs.Left.{acts, event-alone, event-saves, event-refused, event-accepted}
use Rattle.carried.proofs.event.Goals as goal

pub returns-in_default : goal.returns-in_default
unfolding is_state roomy both credit_widths widths_of total
returns-in_default c =
    let a = c.args in
    event-alone (over a.bank.now a.config) a.store.now a.bytes.now a.event _ c.no_state.ensures (rw (ne_eqb _ 434 c.in_default.ensures.cases))

pub returns-then-not-is_state : goal.returns-then-not-is_state
returns-then-not-is_state c =
    let a = c.args in
    rw (← c.in-Some.ensures.cases.same)
    (event-alone (over a.bank.now a.config) a.store.now c.in-Some.state.now a.event _ c.no_state-then-not-is_state.ensures
    (sym c.is_state.ensures ∙ c.if-not-is_state.true))

pub carry_out-requires : goal.carry_out-requires
carry_out-requires c =
    let a = c.args in
    let is = acts (over a.bank.now a.config) a.store.now c.in-Some.state.now a.event c.byte-power.ensures c.run_in.ensures c.event-effect.ensures in
    event-saves (over a.bank.now a.config) a.store.now c.in-Some.state.now a.event c.event-effect.result is

pub returns-then-is_ok : goal.returns-then-is_ok
returns-then-is_ok c =
    let a = c.args in
    let is = acts (over a.bank.now a.config) a.store.now c.in-Some.state.now a.event c.byte-power.ensures c.run_in.ensures c.event-effect.ensures in
    rw (← c.in-Some.ensures.cases.same)
    (c.carry_out.ensures
    ∙ event-accepted (over a.bank.now a.config) a.store.now c.in-Some.state.now a.event c.event-effect.result is (sym c.is_state.ensures ∙ c.if-not-is_state.false)
    (sym c.is_ok.ensures.value ∙ c.if-is_ok.true))

pub returns-else-is_ok : goal.returns-else-is_ok
returns-else-is_ok c =
    let a = c.args in
    let is = acts (over a.bank.now a.config) a.store.now c.in-Some.state.now a.event c.byte-power.ensures c.run_in.ensures c.event-effect.ensures in
    rw (← c.in-Some.ensures.cases.same)
    (event-refused (over a.bank.now a.config) a.store.now c.in-Some.state.now a.event c.event-effect.result is (sym c.is_state.ensures ∙ c.if-not-is_state.false)
    (sym c.is_ok.ensures.value ∙ c.if-is_ok.false))
