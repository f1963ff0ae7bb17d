-- `measure::whole_value` meets its contract: what is the whole value is near.
-- Assumes nothing.
use Rattle.std.proofs.Common.{sym, ap, ◌∙◌, subst, w16, Some}
use mir.ValLaws.{to_z-of_z}
use Rattle.measure.specs.Bound.{Near}
use Rattle.measure.specs.Filter.{whole_of}
use Rattle.measure.proofs.Laws.{whole-near}
use Rattle.measure.proofs.whole_value.Goals as goal

pub returns-in-Value-clause-near : goal.returns-in-Value-clause-near
unfolding whole_of
returns-in-Value-clause-near c =
    let whole = ap Some (to_z-of_z w16 _ (record { sfits = c.round.type_inv }) ∙ c.round.ensures) in
    subst (Near c.args.m) (sym (whole ∙ sym (ap whole_of c.in-Value.is))) (whole-near c.args.m)
