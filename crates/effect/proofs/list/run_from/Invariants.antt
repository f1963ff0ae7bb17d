-- `effect::list::run_from` meets its contract. The loop's invariant: what the bank says is known, the state stands, and what is left of the
-- list gives what the whole list gives. Assumes nothing.
use Rattle.field.specs.Tab.{tab}
use Rattle.plain.specs.Setup.{over}
use Rattle.plain.specs.Event.{events_from}
use Rattle.plain.specs.Listed.{asked_at, asked_events}
use Rattle.effect.specs.Ran.{after_moved}
use Rattle.effect.proofs.Walk.{Walked}
use Rattle.effect.proofs.list.run_from.Given as goal

abbrev pub invariant-loop-i : goal.invariant-loop-i
invariant-loop-i l =
    let setup = over l.bank l.config in
    let begun = after_moved setup l.initial.moved l.initial.credits l.initial.store in
    Walked setup (asked_at l.bytes) l.settings l.moved.here l.moved.idle (events_from setup begun (asked_events (tab (asked_at l.bytes) 5 0 l.i-end)))
    (after_moved setup l.moved l.credits l.store) l.i l.i-end
