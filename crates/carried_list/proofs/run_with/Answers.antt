-- `carried_list::run_with` meets its contract.
-- Assumes nothing.
use mathlib.Core.Path.{sym, ◌∙◌}
use Rattle.plain.specs.Setup.{over}
use Rattle.calls.proofs.Meets.{no-list}
use Rattle.calls.proofs.Replies.{reply-none, reply-bank, reply-run}
use Rattle.carried_list.proofs.Laws.{fits-all}
use Rattle.carried_list.proofs.run_with.Goals as goal
use Rattle.carried_list.proofs.run_with.Goals.{then-not-is_bank, else-not-is_bank}

pub returns-then-not-is_list : goal.returns-then-not-is_list
returns-then-not-is_list c =
    let a = c.args in
    sym (no-list (over a.bank.now a.settings) a.store.now a.state.now a.events.now (sym c.is_list.ensures ∙ c.if-not-is_list.true))

pub returns-then-not-fits : goal.returns-then-not-fits
returns-then-not-fits c = rw c.of_answer.ensures (c.misfit.ensures c.args.events.now (sym c.is_list.ensures ∙ c.if-not-is_list.false))

pub returns-in_default : goal.returns-in_default
returns-in_default c =
    let a = c.args in
    reply-none (over a.bank.now a.settings) a.store.now a.state.now a.events.now _ c.run-ran.ensures.reply_after c.in_default.is

pub returns : goal.returns
returns c =
    let a = c.args in
    let setup = over a.bank.now a.settings in
    let replied = c.run-ran.ensures.reply_after in
    let fit = fits-all a.settings a.store.now a.state.now (sym c.fits.ensures ∙ c.if-not-fits.false) in
    elim c.if-not-is_bank.branch [
      | then-not-is_bank w ↦
          reply-run setup a.store.now a.state.now a.events.now _ replied _ c.in-Some.is _ c.of_answer-2.ensures (sym c.is_bank.ensures ∙ w.if-not-is_bank.true)
          fit.0 fit.1 fit.2 _ (w.state-is ∙ w.write.ensures)
      | else-not-is_bank w ↦
          rw w.state-is
          (reply-bank setup a.store.now a.state.now a.events.now _ replied _ c.in-Some.is _ c.of_answer-2.ensures (sym c.is_bank.ensures ∙ w.if-not-is_bank.false))
    ]
