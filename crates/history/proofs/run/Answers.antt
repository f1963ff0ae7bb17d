-- `history::run` meets its contract. Assumes nothing.
use mathlib.Core.Path.{sym, ap, ◌∙◌}
use Rattle.std.specs.Prelude.{None, false}
use Rattle.plain.specs.declared.Run.{Run}
use Rattle.plain.specs.Setup.{over}
use Rattle.plain.specs.Event.{dark}
use Rattle.demand.specs.Run.{after_run, given}
use Rattle.demand.proofs.Run.{no-form, ran, run-demand}
use Rattle.history.proofs.run.Goals as goal

pub returns-then-not-is_list : goal.returns-then-not-is_list
unfolding dark
returns-then-not-is_list c =
    let a = c.args in
    let setup = over a.bank.now a.config in
    let is = ap (λ (run : Run). after_run (record { power = false; run = run; credits = dark.credits }) a.store.now None) c.dark_run.ensures
    ∙ sym (no-form setup a.store.now a.events.now (sym c.is_list.ensures ∙ c.if-not-is_list.true)) in
    record { reply_after = is; meets = run-demand setup a.store.now a.events.now _ is }

pub returns : goal.returns
returns c =
    let a = c.args in
    let setup = over a.bank.now a.config in
    let is = ap given c.run-power.ensures ∙ sym (ran setup a.store.now a.events.now (sym c.is_list.ensures ∙ c.if-not-is_list.false)) in
    record { reply_after = is; meets = run-demand setup a.store.now a.events.now _ is }
