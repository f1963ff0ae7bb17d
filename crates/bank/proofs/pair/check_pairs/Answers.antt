-- `bank::pair::check_pairs` meets its contract. The invariant: all the pairs are found to be what the rest of them is found to be.
-- Assumes nothing.
use Prim.Native.Nat.{◌+◌, ◌*◌}
use mathlib.Core.Path.{sym, ◌∙◌}
use native.Mathlib.Omega.{arith}
use borrow.Author.Tests.{le-leb, lt-leb, eq-eqb, ne_eqb}
use Rattle.setting.proofs.Laws.{right, wrong}
use Rattle.bank.proofs.Walk.{pairs_start, pair-on, pair-off, pairs_end}
use Rattle.bank.specs.Check.{pairs_found}
use Rattle.bank.proofs.pair.check_pairs.Goals as goal

pub returns-then-size-due : goal.returns-then-size-due
unfolding pairs_found
returns-then-size-due c = sym (wrong _ (lt-leb _ _ c.if-size-due.true))

pub loop-i-init : goal.loop-i-init
unfolding pairs_found
loop-i-init c = (omega arith, right _ (le-leb _ _ c.if-size-due.false) ∙ pairs_start c.args.bank.now c.args.n (45 + 4 * c.args.n))

pub returns-then-not-pair_right : goal.returns-then-not-pair_right
returns-then-not-pair_right c =
    let l = c.loop-i in
    sym (l.invariant.1 ∙ pair-off _ _ l.i l.due c.loop-i-test.true c.body_in-body.ensures c.capacity-cap.ensures (sym c.if-not-pair_right.ensures))

pub loop-i-preserved : goal.loop-i-preserved
loop-i-preserved c =
    let l = c.loop-i in
    let body = c.body_in-body.ensures in
    (omega (arith, body.short), l.invariant.1 ∙ pair-on _ _ l.i l.due c.loop-i-test.true body c.capacity-cap.ensures (sym c.if-not-pair_right.ensures))

pub returns-then-due-size : goal.returns-then-due-size
returns-then-due-size c =
    let l = c.loop-i in
    sym (l.invariant.1 ∙ pairs_end c.args.bank.now c.args.n l.i l.due c.loop-i-test.false ∙ right _ (eq-eqb _ _ c.if-due-size.true))

pub returns-else-due-size : goal.returns-else-due-size
returns-else-due-size c =
    let l = c.loop-i in
    sym (l.invariant.1 ∙ pairs_end c.args.bank.now c.args.n l.i l.due c.loop-i-test.false ∙ wrong _ (ne_eqb _ _ c.if-due-size.false))
