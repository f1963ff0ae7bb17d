-- `carried_list::misfit` meets its contract.
-- Assumes nothing.
use mathlib.Core.Path.{sym, ◌∙◌}
use borrow.Author.Tests.{eq-eqb, ne_eqb}
use Rattle.field.specs.Row.{total}
use Rattle.setting.proofs.Laws.{numbers-tell}
use Rattle.plain.specs.Record.{credit_widths, widths_of, sized}
use Rattle.plain.specs.Setup.{over}
use Rattle.plain.specs.Answer.{number_of}
use Rattle.calls.specs.Result.{result_of}
use Rattle.calls.specs.Carried.{roomy}
use Rattle.calls.proofs.Meets.{bank-refused, no_room, no_record_lem, no-setting}
use Rattle.carried_list.proofs.Laws.{wrong-setting}
use Rattle.carried_list.proofs.misfit.Goals as goal

pub returns-in-Err : goal.returns-in-Err
unfolding result_of
returns-in-Err c =
    let a = c.args in
    λ events listed. sym (bank-refused (over a.bank.now a.settings) a.store.now a.state.now events listed (sym (numbers-tell _ _ c.check.ensures) ∙ c.in-Err.is))

pub returns-then-state-ne-SIZE : goal.returns-then-state-ne-SIZE
unfolding result_of number_of roomy credit_widths widths_of total
returns-then-state-ne-SIZE c =
    let a = c.args in
    let ok = sym (numbers-tell _ _ c.check.ensures) ∙ c.in_default.is in
    λ events listed. sym (no_room (over a.bank.now a.settings) a.store.now a.state.now events listed ok (ne_eqb _ 434 c.if-state-ne-SIZE.true))

pub returns-then-store-ne-SIZE : goal.returns-then-store-ne-SIZE
unfolding result_of number_of roomy sized credit_widths widths_of total
returns-then-store-ne-SIZE c =
    let a = c.args in
    let ok = sym (numbers-tell _ _ c.check.ensures) ∙ c.in_default.is in
    let room = eq-eqb _ 434 c.if-state-ne-SIZE.false in
    λ events listed. sym (no_record_lem (over a.bank.now a.settings) a.store.now a.state.now events listed ok room (ne_eqb _ 423 c.if-store-ne-SIZE.true))

pub returns : goal.returns
unfolding result_of number_of roomy sized credit_widths widths_of total
returns c =
    let a = c.args in
    let ok = sym (numbers-tell _ _ c.check.ensures) ∙ c.in_default.is in
    let room = eq-eqb _ 434 c.if-state-ne-SIZE.false in
    let whole = eq-eqb _ 423 c.if-store-ne-SIZE.false in
    λ events listed.
    sym (no-setting (over a.bank.now a.settings) a.store.now a.state.now events listed ok room whole
    (wrong-setting a.settings a.store.now a.state.now c.requires room whole))
