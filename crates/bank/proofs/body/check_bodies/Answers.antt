-- `bank::body::check_bodies` meets its contract. The invariants: all the patterns are found to be what the rest of them is found to be; inside, what the rest
-- of the steps, and then the rest of the patterns, are found to be.
-- Assumes nothing.
use Prim.Native.Nat.{ℕ, ◌+◌}
use mathlib.Core.Path.{◌≡◌, sym, ◌∙◌}
use mathlib.Core.List.{List}
use native.Mathlib.Omega.{arith}
use lib.IntN.{ℤ}
use mir.Syntax.{w16}
use mir.Val.{SFits, to_z, of_z}
use mir.Facts.{to_z-of_z}
use Rattle.field.proofs.Laws.{field-one}
use Rattle.setting.proofs.Laws.{next}
use Rattle.bank.proofs.Walk.{bodies-start, bodies-end, body-on, body-off, start-count, step-on, step-off, steps-end}
use Rattle.bank.proofs.Facts.{pairs-there, body-inside}
use Rattle.bank.proofs.body.check_bodies.Invariants.{whole}
use Rattle.bank.proofs.body.check_bodies.Goals as goal

same : (bank : List ℕ) (n : ℕ) {low high : ℤ} → SFits w16 low → SFits w16 high → whole bank n low high ≡ whole bank n (to_z w16 (of_z w16 low)) (to_z w16 (of_z w16 high))
same bank n l h = λ i. whole bank n (sym (to_z-of_z l) i) (sym (to_z-of_z h) i)

pub loop-i-init : goal.loop-i-init
loop-i-init c = bodies-start _ _ c.args.bank.now c.args.n

pub body_in-body-requires : goal.body_in-body-requires
body_in-body-requires c = omega (arith, pairs-there c.args.bank.now c.args.n c.requires)

pub body_right-requires : goal.body_right-requires
body_right-requires c =
    let inside = body-inside c.args.bank.now c.args.n c.requires _ _ (omega arith) (omega arith) c.body_in-body.ensures in
    omega arith

pub loop-k-init : goal.loop-k-init
loop-k-init c =
    let l = c.loop-i in
    l.invariant ∙ body-on _ _ _ _ l.i c.loop-i-test.true c.body_in-body.ensures c.steps_in-s.ensures (sym c.if-not-body_right.ensures)

pub step_in-requires : goal.step_in-requires
step_in-requires c =
    let inside = body-inside c.args.bank.now c.args.n c.requires _ _ (omega arith) (omega arith) c.body_in-body.ensures in
    omega (arith, c.steps_in-s.ensures)

pub overflow_cast-result : goal.overflow_cast-result
overflow_cast-result c =
    let bank = c.args.bank.now in
    let at = c.body_in-body.result.at + 1 in
    let count = start-count bank _ _ (sym c.if-not-body_right.ensures) in
    omega (arith, count, field-one bank at, (c.type_inv.bank at).fits)

pub loop-k-preserved : goal.loop-k-preserved
loop-k-preserved c =
    let l = c.loop-k in
    l.invariant ∙ step-on _ _ c.args.bank.now _ _ _ l.k _ c.loop-k-test.true c.step_in.ensures (sym c.if-not-check_step.ensures)

pub loop-i-preserved : goal.loop-i-preserved
loop-i-preserved c =
    let l = c.loop-k in
    l.invariant ∙ next (steps-end _ _ c.args.bank.now _ _ _ l.k c.loop-k-test.false)

pub returns-then-not-body_right : goal.returns-then-not-body_right
returns-then-not-body_right c =
    let l = c.loop-i in
    sym (same _ _ c.ranges.low c.ranges.high
    ∙ l.invariant ∙ body-off _ _ _ _ l.i c.loop-i-test.true c.body_in-body.ensures c.steps_in-s.ensures (sym c.if-not-body_right.ensures))

pub returns-then-not-check_step : goal.returns-then-not-check_step
returns-then-not-check_step c =
    let l = c.loop-k in
    sym (same _ _ c.ranges.low c.ranges.high
    ∙ l.invariant ∙ step-off _ _ c.args.bank.now _ _ _ l.k _ c.loop-k-test.true c.step_in.ensures (sym c.if-not-check_step.ensures))

pub returns-after-loop-i : goal.returns-after-loop-i
returns-after-loop-i c =
    let l = c.loop-i in
    sym (same _ _ c.ranges.low c.ranges.high ∙ l.invariant ∙ bodies-end _ _ c.args.bank.now c.args.n l.i c.loop-i-test.false)
