-- `effect::events::event` meets its contract. Assumes nothing.
use mathlib.Core.Path.{◌≡◌, sym, ◌∙◌}
use borrow.Author.Tests.{eq-eqb, ne_eqb}
use Rattle.field.specs.Row.{total}
use Rattle.setting.specs.Found.{Accepted}
use Rattle.setting.proofs.Laws.{numbers-tell}
use Rattle.bank.specs.Check.{found_in}
use Rattle.plain.specs.Record.{credit_widths, widths_of, sized}
use Rattle.plain.specs.Setup.{over}
use Rattle.effect.specs.Known.{Known, Ready}
use Rattle.effect.proofs.Laws.{few}
use Rattle.effect.proofs.Rows.{event-bank, event-unsound, event-buffer, event-setting, ready-is, event-own}
use Rattle.effect.proofs.events.event.Goals as goal
use Rattle.effect.proofs.events.event.Goals.{In_default, After-sound, Else-not-in_range}

-- the bank is accepted, and what it says is known
ok : (c : In_default) → found_in c.args.bank.now ≡ Accepted
ok c = sym (numbers-tell _ _ c.check.ensures) ∙ c.in_default.is

here-known : (c : After-sound) → Known c.args.bank.now c.args.run.position c.read_settings-settings.result c.here_at-here.result
here-known c = record { settings-are = c.read_settings-settings.ensures; here-is = c.here_at-here.ensures }

-- none of 11 to 14, 21, 22, 41
ready : (c : Else-not-in_range) → found_in c.args.bank.now ≡ Accepted
    → Known c.args.bank.now c.args.run.position c.read_settings-settings.result c.here_at-here.result
    → Ready (over c.args.bank.now c.args.config) c.args.store.now c.args.power c.args.run c.read_settings-settings.result c.here_at-here.result
unfolding sized credit_widths widths_of total
ready c accepted known =
    ready-is (over c.args.bank.now c.args.config) c.args.power c.args.run accepted known c.sound.ensures c.if-power-sound.false
    (eq-eqb _ _ c.if-store-ne-SIZE.false) (sym c.in_range.ensures ∙ c.if-not-in_range.false)

pub returns-in-Err : goal.returns-in-Err
returns-in-Err c =
    let a = c.args in
    c.unchanged.ensures ∙ event-bank (over a.bank.now a.config) a.store.now a.power a.run a.event c.check.ensures c.in-Err.is

pub returns-then-power-sound : goal.returns-then-power-sound
returns-then-power-sound c =
    let a = c.args in
    let at = goal.at.returns-then-power-sound c in
    c.unchanged-then-power-sound.ensures
    ∙ event-unsound (over a.bank.now a.config) a.power a.run (ok at.In_default) (here-known at.After-sound) c.sound.ensures a.store.now a.event
    c.if-power-sound.true

pub returns-then-store-ne-SIZE : goal.returns-then-store-ne-SIZE
unfolding sized credit_widths widths_of total
returns-then-store-ne-SIZE c =
    let a = c.args in
    let at = goal.at.returns-then-store-ne-SIZE c in
    c.unchanged-then-store-ne-SIZE.ensures
    ∙ event-buffer (over a.bank.now a.config) a.power a.run (ok at.In_default) (here-known at.After-sound) c.sound.ensures a.store.now a.event
    c.if-power-sound.false (ne_eqb _ _ c.if-store-ne-SIZE.true)

pub returns-then-not-in_range : goal.returns-then-not-in_range
unfolding sized credit_widths widths_of total
returns-then-not-in_range c =
    let a = c.args in
    let at = goal.at.returns-then-not-in_range c in
    c.unchanged-then-not-in_range.ensures
    ∙ event-setting (over a.bank.now a.config) a.power a.run (ok at.In_default) (here-known at.After-sound) c.sound.ensures a.store.now a.event
    c.if-power-sound.false (eq-eqb _ _ c.if-store-ne-SIZE.false) (sym c.in_range.ensures ∙ c.if-not-in_range.true)

pub known-requires : goal.known-requires
known-requires c = λ on.
    let a = c.args in
    let at = goal.at.known-requires c in
    rw c.progress_of-progress.ensures
    (few (over a.bank.now a.config) a.power a.run on (ready at.Else-not-in_range (ok at.In_default) (here-known at.After-sound)).sound.sound)

pub returns-in-Err-known : goal.returns-in-Err-known
returns-in-Err-known c =
    let a = c.args in
    let at = goal.at.returns-in-Err-known c in
    c.unchanged-in-Err-known.ensures
    ∙ event-own a.bank.now a.config a.store.now a.power a.run a.event (ok at.In_default)
    (ready at.Else-not-in_range (ok at.In_default) (here-known at.After-sound)) c.progress_of-progress.ensures c.known.ensures c.in-Err-known.is

pub effect_of-requires : goal.effect_of-requires
effect_of-requires c = here-known (goal.at.effect_of-requires c).After-sound

pub returns : goal.returns
returns c =
    let a = c.args in
    let at = goal.at.returns c in
    c.effect_of.ensures
    ∙ event-own a.bank.now a.config a.store.now a.power a.run a.event (ok at.In_default)
    (ready at.Else-not-in_range (ok at.In_default) (here-known at.After-sound)) c.progress_of-progress.ensures c.known.ensures c.in-Ok.is
