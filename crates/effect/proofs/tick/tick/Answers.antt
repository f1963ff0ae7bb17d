-- `effect::tick::tick` meets its contract. Assumes nothing.
use mathlib.Core.Path.{sym, ◌∙◌, refl}
use native.Mathlib.Omega.{arith}
use Rattle.plain.specs.declared.Event.{Event}
use Rattle.effect.proofs.Rows.{off-refuses, tick-outside, ticked}
use Rattle.effect.proofs.tick.tick.Goals as goal

pub returns-then-not-power : goal.returns-then-not-power
returns-then-not-power c = λ setup store alarms ready. off-refuses ready (Event.Tick c.args.reading) refl c.if-not-power.true

pub returns-then-outside : goal.returns-then-outside
returns-then-outside c = λ setup store alarms ready.
    tick-outside ready c.if-not-power.false c.args.reading (sym c.outside.ensures ∙ c.if-outside.true)

pub ticked-next-requires : goal.ticked-next-requires
ticked-next-requires c = omega (arith, c.requires c.if-not-power.false)

pub returns : goal.returns
returns c = λ setup store alarms ready.
    rw c.accepted.ensures
    (ticked ready c.if-not-power.false c.args.reading (sym c.outside.ensures ∙ c.if-outside.false) (c.ticked-next.ensures alarms) c.saves.ensures)
