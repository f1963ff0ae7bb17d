-- `writer::pattern::check_patterns` meets its contract.
-- Assumes nothing.
use mathlib.Core.Path.{sym}
use native.Mathlib.Omega.{arith}
use Rattle.arrays.proofs.Values.{settings-fit, patterns-fit}
use Rattle.writer.proofs.Walk.{start, end, room, pattern-wrong, pattern-right, next-pattern, step-wrong, step-right}
use Rattle.writer.proofs.pattern.check_patterns.Goals as goal

pub loop-p-init : goal.loop-p-init
loop-p-init c = start c.args.settings c.args.ps c.requires

pub returns-then-not-ps-p : goal.returns-then-not-ps-p
returns-then-not-ps-p c =
    let l = c.loop-p in
    sym (pattern-wrong c.args.settings c.args.ps l.base l.p l.invariant c.loop-p-test.true _ c.capacity-most.ensures c.if-not-ps-p.true)

pub slice_bounds-step-items-end : goal.slice_bounds-step-items-end
slice_bounds-step-items-end c =
    let l = c.loop-p in
    omega (
      arith,
      (patterns-fit c.args.ps _ c.well_formed.1.0).size,
      room c.args.settings c.args.ps l.base l.p l.invariant c.loop-p-test.true _ c.capacity-most.ensures c.if-not-ps-p.false,
    )

pub loop-k-init : goal.loop-k-init
loop-k-init c =
    let l = c.loop-p in
    pattern-right c.args.settings c.args.ps l.base l.p l.invariant c.loop-p-test.true _ c.capacity-most.ensures c.if-not-ps-p.false

pub returns-then-not-check_step : goal.returns-then-not-check_step
returns-then-not-check_step c =
    let l = c.loop-k in
    sym (step-wrong c.args.settings c.args.ps (settings-fit c.args.settings _ c.well_formed.0) _ c.loop-p.p l.k _ l.invariant c.loop-k-test.true c.check_step.ensures c.if-not-check_step.true)

pub loop-k-preserved : goal.loop-k-preserved
loop-k-preserved c =
    let l = c.loop-k in
    step-right c.args.settings c.args.ps (settings-fit c.args.settings _ c.well_formed.0) _ c.loop-p.p l.k _ l.invariant c.loop-k-test.true c.check_step.ensures c.if-not-check_step.false

pub loop-p-preserved : goal.loop-p-preserved
loop-p-preserved c =
    let l = c.loop-p in
    next-pattern c.args.settings c.args.ps l.base l.p l.invariant c.loop-p-test.true _ c.capacity-most.ensures c.if-not-ps-p.false
    _ c.loop-k.k c.loop-k.invariant c.loop-k-test.false

pub returns-after-loop-p : goal.returns-after-loop-p
returns-after-loop-p c =
    let l = c.loop-p in
    sym (end c.args.settings c.args.ps l.base l.p l.invariant c.loop-p-test.false)
