-- `setting::judging::check_halves` meets its contract. The invariant: the pairs are found to be what the rest of them is found to be.
-- Assumes nothing.
use mathlib.Core.Path.{sym, ap, ◌∙◌}
use lib.ListN.{length}
use Rattle.std.proofs.lemmas.Slice.Zip.{either_empty_from_Zip}
use Rattle.std.specs.Slice.Iter.{iter_rest}
use Rattle.std.specs.Iterator.Adapters.{zip_first, zip_second}
use Rattle.setting.specs.Setting.{halves_found}
use native.Mathlib.Omega.{arith}
use borrow.Author.Tests.{le-leb, lt-leb}
use Rattle.setting.proofs.Laws.{right, wrong, halves-more, halves-end}
use Rattle.setting.proofs.judging.check_halves.Goals as goal

pub loop-x-init : goal.loop-x-init
loop-x-init c =
    let zip = c.zip-x-items.ensures in
    let is = c.into_iter-x-iterator.ensures.into_iter_gives in
    let xs = ap (λ z. iter_rest (zip_first z)) is ∙ ap iter_rest zip.first ∙ c.iter.ensures.rest in
    let ys = ap (λ z. iter_rest (zip_second z)) is ∙ zip.second.0 in
    (omega (arith, ap length xs), λ i. halves_found c.args.top c.args.other c.args.at (sym xs i) (sym ys i))

pub returns-then-top-x : goal.returns-then-top-x
returns-then-top-x c =
    let steps = c.in-Some.ensures.steps in
    sym (c.loop-x.invariant.1 ∙ halves-more _ _ _ steps.0 steps.1 ∙ wrong _ (lt-leb _ _ c.if-top-x.true))

pub returns-then-other-y : goal.returns-then-other-y
returns-then-other-y c =
    let steps = c.in-Some.ensures.steps in
    sym (c.loop-x.invariant.1 ∙ halves-more _ _ _ steps.0 steps.1 ∙ right _ (le-leb _ _ c.if-top-x.false) ∙ wrong _ (lt-leb _ _ c.if-other-y.true))

pub loop-x-preserved : goal.loop-x-preserved
loop-x-preserved c =
    let steps = c.in-Some.ensures.steps in
    (omega (arith, ap length steps.0), c.loop-x.invariant.1 ∙ halves-more _ _ _ steps.0 steps.1 ∙ right _ (le-leb _ _ c.if-top-x.false) ∙ right _ (le-leb _ _ c.if-other-y.false))

pub overflow_add-offset : goal.overflow_add-offset
overflow_add-offset c = omega (arith, ap length c.in-Some.ensures.steps.0)

pub overflow_add-result : goal.overflow_add-result
overflow_add-result c = omega (arith, ap length c.in-Some.ensures.steps.0)

pub returns : goal.returns
returns c = sym (c.loop-x.invariant.1 ∙ halves-end _ _ _ _ _ (either_empty_from_Zip c.loop-x.x-iterator c.next.new.self _ c.in-None.is c.next.ensures.steps))
