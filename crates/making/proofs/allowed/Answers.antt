-- `making::allowed` meets its contract. Assumes nothing.
use mathlib.Core.Path.{refl, sym, ◌∙◌}
use borrow.Author.Tests.{eq-eqb, ne_eqb}
use Rattle.std.proofs.lemmas.Result.{err_from_is_err_and}
use Rattle.field.specs.Row.{total}
use Rattle.plain.specs.Record.{credit_widths, widths_of, sized}
use Rattle.plain.specs.Event.{retained_in}
use Rattle.making.specs.Ran.{allowed_by}
use Rattle.making.proofs.Rows.{bank-ends, bank-goes}
use Rattle.making.proofs.allowed.Goals as goal

pub returns-in_err-map_err : goal.returns-in_err-map_err
unfolding allowed_by
returns-in_err-map_err c =
    let p = err_from_is_err_and c.from_residual.result c.from_residual.ensures.1 in
    rw (p.1, p.2) (bank-ends _ _ _ c.check.ensures c.map_err.ensures.cases _ c.in_err-map_err.was)

pub returns-then-store-ne-SIZE : goal.returns-then-store-ne-SIZE
unfolding allowed_by retained_in sized credit_widths widths_of total
returns-then-store-ne-SIZE c =
    sym (bank-goes _ _ _ c.check.ensures c.map_err.ensures.cases _ c.in_ok-map_err.was ∙ rw (ne_eqb _ _ c.if-store-ne-SIZE.true) refl)

pub returns-then-not-in_range : goal.returns-then-not-in_range
unfolding allowed_by retained_in sized credit_widths widths_of total
returns-then-not-in_range c =
    sym (bank-goes _ _ _ c.check.ensures c.map_err.ensures.cases _ c.in_ok-map_err.was
    ∙ rw (eq-eqb _ _ c.if-store-ne-SIZE.false, ← c.in_range.ensures, c.if-not-in_range.true) refl)

pub returns : goal.returns
unfolding allowed_by retained_in sized credit_widths widths_of total
returns c =
    sym (bank-goes _ _ _ c.check.ensures c.map_err.ensures.cases _ c.in_ok-map_err.was
    ∙ rw (eq-eqb _ _ c.if-store-ne-SIZE.false, ← c.in_range.ensures, c.if-not-in_range.false) refl)
