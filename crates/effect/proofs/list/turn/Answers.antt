-- `effect::list::turn` meets its contract.
-- Assumes nothing.
use mathlib.Core.Path.{◌≡◌, sym, ◌∙◌}
use mathlib.Core.Bool.{cond}
use mathlib.Core.List.{List}
use Prim.Native.Nat.{ℕ}
use Rattle.std.specs.Prelude.{Ok}
use Rattle.alarm.specs.Idle.{all_idle}
use Rattle.position.specs.Program.{said_at}
use Rattle.position.proofs.After.{after-said}
use Rattle.plain.specs.Setup.{over}
use Rattle.plain.specs.Event.{after, record_for, event_outcome, events_from}
use Rattle.effect.specs.Done.{with_alarms, answer_in, alarms_by}
use Rattle.effect.specs.Ran.{state_from}
use Rattle.effect.proofs.Laws.{few, kept-alarms}
use Rattle.effect.proofs.Walk.{within-ready, turn-refused, turn-done}
use Rattle.effect.proofs.list.turn.Goals as goal
use Rattle.effect.proofs.list.turn.Goals.{After-settle, then-not-keeps, else-not-keeps}

pub returns-in_default : goal.returns-in_default
unfolding events_from
returns-in_default c =
    let pre = c.requires in
    record { store_after = rw c.in_default.is; told = record { here-is = pre.known.here-is; idle-is = pre.idle-is } }

pub known-requires : goal.known-requires
known-requires c = λ on.
    let a = c.args in
    let setup = over a.bank.now a.config in
    few setup a.moved.power (state_from a.moved a.credits.now).run on (within-ready setup a.moved a.credits.now a.store.now c.requires).sound.sound

pub returns-in-Err : goal.returns-in-Err
unfolding events_from
returns-in-Err c =
    let a = c.args in
    let pre = c.requires in
    let setup = over a.bank.now a.config in
    record {
      store_after = rw c.in-Some.is
          (turn-refused setup a.moved a.credits.now a.store.now pre c.in-Some.event c.in-Err.is
          (c.known.ensures a.moved.alarms (within-ready setup a.moved a.credits.now a.store.now pre)));
      told = record { here-is = pre.known.here-is; idle-is = pre.idle-is };
    }

-- what is said at the position that is left, the alarms that become of the event, and whether no tick moves them
said : (c : After-settle) → c.here_after-there.result ≡ said_at c.args.bank.now c.args.settings c.by_parts-left.result.position
said c = c.here_after-there.ensures ∙ after-said _ _ c.args.moved.here c.args.moved.progress.position _ c.requires.known.here-is

judged : (c : After-settle) → let left = c.by_parts-left.result in
    c.if-not-keeps.alarms
    ≡ alarms_by c.args.config c.here_after-there.result c.args.store.now c.in-Some.event c.args.moved.alarms left.position left.measured
judged c =
    elim c.if-not-keeps.branch [
      | then-not-keeps w ↦ w.alarms-is ∙ w.alarms_by-alarms.ensures ∙ rw w.by_parts.ensures
      | else-not-keeps w ↦ w.alarms-is ∙ kept-alarms _ _ _ _ c.in-Some.event _ _ _ c.requires.idle-is (sym c.keeps.ensures ∙ w.if-not-keeps.false)
    ]

idle-is : (c : After-settle) → c.if-not-keeps.idle ≡ all_idle c.args.config.alarms c.if-not-keeps.alarms
idle-is c =
    elim c.if-not-keeps.branch [
      | then-not-keeps w ↦ w.idle-is ∙ w.idle-idle.ensures ∙ rw w.alarms-is
      | else-not-keeps w ↦ w.idle-is ∙ c.requires.idle-is ∙ rw w.alarms-is
    ]

-- the credits and the record, where they are those that the event leaves
after-event : (c : After-settle) (written : List ℕ)
    → written ≡ cond c.in-Ok.done.saves (record_for (with_alarms c.by_parts-left.result c.if-not-keeps.alarms) c.settle.new.credits) c.args.store.now
    → after (record {
      power = c.in-Ok.done.power;
      run = with_alarms c.by_parts-left.result c.if-not-keeps.alarms;
      credits = c.settle.new.credits;
    }) written (answer_in (over c.args.bank.now c.args.config) c.by_parts-left.result.position (Ok tt))
    ≡ event_outcome (over c.args.bank.now c.args.config) c.args.store.now (state_from c.args.moved c.args.credits.now) c.in-Some.event
after-event c written stored =
    let a = c.args in
    let setup = over a.bank.now a.config in
    turn-done setup a.moved a.credits.now a.store.now c.requires c.in-Some.event c.known.result c.in-Ok.done c.in-Ok.is c.by_parts-left.result
    c.by_parts-left.ensures
    (c.known.ensures a.moved.alarms (within-ready setup a.moved a.credits.now a.store.now c.requires)) c.here_after-there.result (said c)
    c.if-not-keeps.alarms (judged c) c.settle.new.credits written (c.settle.ensures ∙ rw c.credit_after.ensures) stored

pub returns-then-done : goal.returns-then-done
unfolding events_from
returns-then-done c =
    let at = (goal.at.returns-then-done c).After-settle in
    let setup = over c.args.bank.now c.args.config in
    let whole = (within-ready setup c.args.moved c.args.credits.now c.args.store.now c.requires).whole in
    record {
      store_after = rw c.in-Some.is (after-event at _ (rw (c.if-done.true, c.write.ensures, whole)));
      told = record { here-is = said at; idle-is = idle-is at };
    }

pub returns-else-done : goal.returns-else-done
unfolding events_from
returns-else-done c =
    let at = (goal.at.returns-else-done c).After-settle in
    record {
      store_after = rw c.in-Some.is (after-event at _ (rw c.if-done.false));
      told = record { here-is = said at; idle-is = idle-is at };
    }
