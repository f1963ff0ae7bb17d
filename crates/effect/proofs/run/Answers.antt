-- `effect::run` meets its contract. Assumes nothing.
use mathlib.Core.Path.{ap, sym, ◌∙◌}
use Rattle.plain.proofs.Standing.{not_made}
use Rattle.plain.proofs.Cases.{is-accepted, is-refused}
use Rattle.plain.specs.Listed.{events_in}
use Rattle.plain.specs.Event.{After, events_from, final}
use Rattle.plain.specs.Answer.{is_accepted}
use Rattle.plain.specs.Setup.{over}
use Rattle.effect.proofs.Walk.{made-stands}
use Rattle.effect.proofs.run.Goals as goal

pub run_from-requires : goal.run_from-requires
run_from-requires c =
    let a = c.args in
    made-stands (over a.bank.now a.config) a.store.now c.make-made.result _ c.make-made.ensures (is-accepted c.in-Ok.is)

pub returns-in-Ok : goal.returns-in-Ok
unfolding final
returns-in-Ok c =
    let a = c.args in
    c.run_from.ensures
    ∙ ap (λ (left : After). events_from (over a.bank.now a.config) left (events_in a.bytes.now)) c.make-made.ensures

pub returns-in-Err : goal.returns-in-Err
unfolding final
returns-in-Err c =
    let a = c.args in
    let make = c.make-made in
    let refused = ap (λ (left : After). is_accepted left.answer) (sym make.ensures) ∙ is-refused c.in-Err.is in
    make.ensures ∙ sym (not_made (over a.bank.now a.config) a.store.now refused (events_in a.bytes.now))
