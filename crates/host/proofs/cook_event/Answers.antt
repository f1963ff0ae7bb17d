-- `host::cook_event` meets its contract.
-- Assumes nothing.
use mathlib.Core.Path.{refl, sym, ap, ◌∙◌}
use mir.Facts.{to_z-of_z}
use Rattle.std.specs.Prelude.{Option}
use Rattle.plain.specs.declared.Event.{Event}
use Rattle.plain.specs.Setup.{over}
use Rattle.plain.specs.Listed.{event_of_kind}
use Rattle.calls.specs.Config.{config_in}
use Rattle.calls.specs.Calls.{asked_over, event_leaves}
use Rattle.host.proofs.Laws.{answered, with-config, no-config}
use Rattle.host.proofs.cook_event.Goals as goal

pub returns-then-config-ne-SIZE : goal.returns-then-config-ne-SIZE
unfolding event_leaves
returns-then-config-ne-SIZE c =
    let a = c.args in
    no-config a.bank.now a.config.now a.store.now a.state.now (asked_over a.store.now a.state.now (event_of_kind a.kind a.value)) c.if-config-ne-SIZE.true

pub returns-in_default : goal.returns-in_default
unfolding event_leaves
returns-in_default c =
    let a = c.args in
    let asked = sym c.in_default.is ∙ c.event_of.ensures ∙ ap (event_of_kind a.kind) (to_z-of_z c.ranges.value) in
    with-config a.bank.now a.config.now a.store.now a.state.now (asked_over a.store.now a.state.now (event_of_kind a.kind a.value)) c.if-config-ne-SIZE.false refl
    (ap (λ (x : Option Event). asked_over a.store.now a.state.now x (over a.bank.now (config_in a.config.now))) asked)

pub returns : goal.returns
unfolding event_leaves
returns c =
    let a = c.args in
    let asked = sym c.in-Some.is ∙ c.event_of.ensures ∙ ap (event_of_kind a.kind) (to_z-of_z c.ranges.value) in
    with-config a.bank.now a.config.now a.store.now a.state.now (asked_over a.store.now a.state.now (event_of_kind a.kind a.value)) c.if-config-ne-SIZE.false c.read.ensures
    (answered c.of_answer.ensures c.event.ensures ∙ ap (λ (x : Option Event). asked_over a.store.now a.state.now x (over a.bank.now c.read.result)) asked)
