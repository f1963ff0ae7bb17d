-- `effect::answers::effect_of` meets its contract.
-- Assumes nothing.
use mathlib.Core.Path.{◌≡◌, sym, ◌∙◌}
use Rattle.position.specs.Program.{said_at}
use Rattle.position.proofs.After.{after-said}
use Rattle.plain.specs.Setup.{here_in}
use Rattle.effect.specs.Done.{alarms_by}
use Rattle.effect.proofs.Laws.{kept-alarms}
use Rattle.effect.proofs.answers.effect_of.Goals as goal
use Rattle.effect.proofs.answers.effect_of.Goals.{then-not-keeps, else-not-keeps}

pub returns : goal.returns
unfolding here_in
returns c =
    let a = c.args in
    let left = c.by_parts-progress.result in
    let said : c.here_after-there.result ≡ said_at a.bank.now a.settings left.position =
    c.here_after-there.ensures ∙ after-said _ _ a.here a.run.position _ c.requires.here-is in
    let alarms-are : c.if-not-keeps.alarms ≡ alarms_by a.config c.here_after-there.result a.store.now a.event a.run.alarms left.position left.measured =
    elim c.if-not-keeps.branch [
      | then-not-keeps w ↦ w.alarms-is ∙ w.alarms_by-alarms.ensures ∙ rw w.by_parts.ensures
      | else-not-keeps w ↦ w.alarms-is ∙ kept-alarms _ _ _ _ a.event _ _ _ c.idle-idle.ensures (sym c.keeps.ensures ∙ w.if-not-keeps.false)
    ] in
    rw (
      c.shown.ensures,
      c.credit_after.ensures,
      c.with_alarms.ensures,
      alarms-are,
      said,
      c.requires.settings-are,
      c.by_parts-progress.ensures,
    )
