-- `effect::events::cut` meets its contract. Assumes nothing.
use mathlib.Core.Path.{refl}
use Rattle.plain.specs.declared.Event.{Event}
use Rattle.plain.specs.Event.{dark_run, cut_effect}
use Rattle.effect.proofs.Rows.{off-refuses, cut_on}
use Rattle.effect.proofs.events.cut.Goals as goal

pub returns-then-not-power : goal.returns-then-not-power
returns-then-not-power c = λ settings here progress setup store alarms ready. off-refuses ready Event.Cut refl c.if-not-power.true

pub returns : goal.returns
unfolding cut_effect dark_run
returns c = λ settings here progress setup store alarms ready.
    rw (c.progress_of.ensures, c.dark_run.ensures) (cut_on ready c.if-not-power.false)
