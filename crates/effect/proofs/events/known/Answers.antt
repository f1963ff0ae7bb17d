-- `effect::events::known` meets its contract. Assumes nothing.
use mathlib.Core.Path.{subst}
use Rattle.plain.specs.declared.Event.{Event}
use Rattle.effect.specs.declared.Progress.{Progress}
use Rattle.effect.specs.Done.{Does, DoesPress}
use Rattle.effect.proofs.events.known.Goals as goal

pub tick-requires : goal.tick-requires
tick-requires c = λ on. rw c.by_parts-from.ensures (c.requires on)

pub returns-in-Tick : goal.returns-in-Tick
returns-in-Tick c =
    let a = c.args in
    let does = subst (λ (progress : Progress). Does a.settings a.here a.power progress (Event.Tick c.in-Tick.reading) c.tick.result)
    c.by_parts-from.ensures c.tick.ensures in
    rw c.in-Tick.is (does _ _)

pub returns-in-Press : goal.returns-in-Press
returns-in-Press c =
    let a = c.args in
    let does =
    subst (λ (progress : Progress). DoesPress a.bank.now a.settings a.here a.power progress (Event.Press c.in-Press.pressed) c.press.result)
    c.by_parts-from.ensures c.press.ensures in
    rw c.in-Press.is (does _ _)

pub returns-in-Cut : goal.returns-in-Cut
returns-in-Cut c = rw c.in-Cut.is (c.cut.ensures _ _ _ _ _)

pub returns-in-Return : goal.returns-in-Return
returns-in-Return c = rw c.in-Return.is (c.restore.ensures _ _)
