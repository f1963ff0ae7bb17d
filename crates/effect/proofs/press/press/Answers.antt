-- `effect::press::press` meets its contract. Assumes nothing.
use mathlib.Core.Path.{refl}
use Rattle.std.proofs.lemmas.Result.{err_from_is_err_and}
use Rattle.plain.specs.declared.Event.{Event}
use Rattle.effect.proofs.Rows.{off-refuses, pressed}
use Rattle.effect.proofs.press.press.Goals as goal

pub returns-then-not-power : goal.returns-then-not-power
returns-then-not-power c = λ config store alarms ready. off-refuses ready (Event.Press c.args.pressed) refl c.if-not-power.true

pub returns-in_err-progress : goal.returns-in_err-progress
returns-in_err-progress c = λ config store alarms ready.
    let p = err_from_is_err_and c.from_residual.result c.from_residual.ensures.1 in
    rw (p.1, p.2)
    (pressed ready c.if-not-power.false c.args.pressed c.whole_value-whole.ensures.value _ _ c.command.ensures c.in_err-progress.was)

pub returns : goal.returns
returns c = λ config store alarms ready.
    rw c.accepted.ensures
    (pressed ready c.if-not-power.false c.args.pressed c.whole_value-whole.ensures.value _ _ c.command.ensures c.in_ok-progress.was)
