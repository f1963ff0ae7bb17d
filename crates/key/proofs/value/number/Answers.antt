-- `key::value::number` meets its contract. Assumes nothing.
use mathlib.Core.Path.{◌≡◌, refl, sym, ap, ◌∙◌}
use borrow.Author.Rules.{rules}
use lib.ListN.{get_or}
use mir.Syntax.{w32}
use mir.Val.{SFits}
use Rattle.key.specs.Line.{unsigned, negated, number_of}
use Rattle.key.proofs.Laws.{part, negation_is}
use Rattle.key.proofs.value.number.Goals as goal

pub returns-in_ok-digits-in-45 : goal.returns-in_ok-digits-in-45
unfolding number_of negated
returns-in_ok-digits-in-45 c =
    let minus : get_or c.args.cs.now 0 0 ≡ 45 = search rules in
    let fits : SFits w32 c.in_ok-digits-in-45.field-0 = search rules in
    let is = sym c.in_ok-digits-in-45.was ∙ c.digits.ensures ∙ ap unsigned (part 1 c.args.cs.now) in
    rw (minus, ← is, negation_is _ _ is fits) refl
