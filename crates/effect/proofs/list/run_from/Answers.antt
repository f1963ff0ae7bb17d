-- `effect::list::run_from` meets its contract.
-- Assumes nothing.
use mathlib.Core.Path.{sym, ap, ◌∙◌, subst}
use mathlib.Core.List.{[], ◌∷◌}
use native.Mathlib.Omega.{arith}
use borrow.Author.Tests.{eqb-true}
use Rattle.std.specs.Prelude.{Option, Ok}
use Rattle.field.specs.Tab.{tab}
use Rattle.plain.specs.declared.Event.{Event}
use Rattle.plain.specs.Answer.{Answer}
use Rattle.plain.specs.Record.{sized}
use Rattle.plain.specs.Setup.{over}
use Rattle.plain.specs.Event.{after, events_from}
use Rattle.plain.specs.Listed.{asked_at, asked_events, events_in}
use Rattle.plain.proofs.Standing.{Stands, stands-sized, stands-long}
use Rattle.making.specs.declared.Ran.{Ran}
use Rattle.making.specs.Ran.{ran_state, after_ran}
use Rattle.effect.specs.Ran.{after_moved}
use Rattle.effect.specs.Known.{Known}
use Rattle.effect.specs.Done.{with_alarms}
use Rattle.effect.specs.declared.Moved.{Moved}
use Rattle.effect.specs.declared.Progress.{Progress}
use Rattle.effect.proofs.Laws.{said_in}
use Rattle.effect.proofs.Walk.{walked-none, turned, walked_all}
use Rattle.effect.proofs.list.run_from.Goals as goal

pub loop-i-init : goal.loop-i-init
loop-i-init c =
    let a = c.args in
    let made = a.made in
    let setup = over a.bank.now a.config in
    let is = sym c.progress_of.ensures in
    walked-none setup _ _ _ _ _ _
    (subst (λ (progress : Progress). Known setup.bank progress.position c.read_settings-settings.result c.here_at.result) is
    (record { settings-are = c.read_settings-settings.ensures; here-is = c.here_at.ensures }))
    c.idle.ensures
    (subst (λ (progress : Progress). Stands setup (record { power = made.power; run = with_alarms progress made.run.alarms; credits = made.credits }) a.store.now) is
    c.requires.stands)

pub turn-moved-requires : goal.turn-moved-requires
turn-moved-requires c =
    let h = c.loop-i.invariant in
    let stands = h.stands in
    record { known = h.known; idle-is = h.idle-is; stands = stands; long = stands-long _ stands.ok _ _ stands.standing }

pub loop-i-preserved : goal.loop-i-preserved
loop-i-preserved c =
    let a = c.args in
    let setup = over a.bank.now a.config in
    let l = c.loop-i in
    let turn = c.turn-moved in
    let now = after_moved setup l.moved l.credits l.store in
    turned setup _ _ _ _ _ now l.i _ l.invariant _ _ _
    (turn.ensures.store_after ∙ ap (λ (asked : Option Event). events_from setup now (asked_events (asked ∷ []))) c.asked_at.ensures)
    turn.ensures.told.here-is turn.ensures.told.idle-is

pub shape_of-store : goal.shape_of-store
unfolding sized
shape_of-store c =
    let stands = c.loop-i.invariant.stands in
    let begun = c.requires.stands in
    eqb-true _ _ (stands-sized _ stands.ok _ _ stands.standing) ∙ sym (eqb-true _ _ (stands-sized _ begun.ok _ _ begun.standing))

pub returns : goal.returns
unfolding events_in
returns c =
    let a = c.args in
    let l = c.loop-i in
    let setup = over a.bank.now a.config in
    let made = a.made in
    let known = l.invariant.known in
    let list = tab (asked_at a.bytes.now) 5 0 _ in
    ap (λ (ran : Ran). after_ran ran l.store) c.ended.ensures
    ∙ rw (said_in setup l.moved.progress.position known, known.settings-are)
    (walked_all setup _ _ _ _ _ (after_moved setup l.moved l.credits l.store) l.i _ l.invariant (omega arith))
    ∙ ap (λ (progress : Progress).
    let first : Moved = record {
      power = made.power;
      progress = progress;
      alarms = made.run.alarms;
      here = c.here_at.result;
      idle = c.idle.result;
      verdict = Ok tt;
    } in
    events_from setup (after_moved setup first made.credits a.store.now) (asked_events list))
    c.progress_of.ensures
    ∙ ap (λ (answer : Answer). events_from setup (after (ran_state made) a.store.now answer) (asked_events list))
    (sym c.requires.answer-is)
