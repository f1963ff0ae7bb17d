-- `bank::view::place_of` meets its contract.
-- Assumes nothing.
use Prim.Native.Nat.{ℕ, ◌+◌}
use mathlib.Core.Path.{sym, ap, ◌∙◌}
use Rattle.bank.proofs.Facts.{step-default, pattern-there, pattern-none, step-none}
use Rattle.field.specs.Field.{field}
use Rattle.bank.specs.View.{Pattern, step_at, steps_in, numbered, no_step, no_pattern, pattern_at, step_of, place_of}
use Rattle.field.specs.Tab.{tab}
use Rattle.bank.proofs.view.place_of.Goals as goal

pub returns-then-not-has_pattern : goal.returns-then-not-has_pattern
unfolding place_of no_pattern
returns-then-not-has_pattern c =
    let bank = c.args.bank.now in
    let none = sym c.has_pattern.ensures ∙ c.if-not-has_pattern.true in
    let pattern = sym (pattern-none bank c.args.p none) in
    let d = c.default.ensures in
    λ i. record {
      step = (step-default c.default.result.step d.0 ∙ sym (step-none bank c.args.p none c.args.k)) i;
      count = (d.1.0 ∙ ap (λ (x : Pattern). x.count) pattern) i;
      runs = (d.1.1 ∙ ap (λ (x : Pattern). x.runs) pattern) i;
    }

pub returns : goal.returns
unfolding place_of step_of pattern_at
returns c =
    let bank = c.args.bank.now in
    let body = c.body_of-body.ensures in
    let pattern = sym (pattern-there bank c.args.p (sym c.has_pattern.ensures ∙ c.if-not-has_pattern.false)) in
    let step = c.step_numbered.ensures
    ∙ (λ i. numbered no_step (tab (step_at bank) 9 (body.at i + 2) (steps_in (body.len i))) c.args.k)
    ∙ ap (λ (x : Pattern). numbered no_step x.steps c.args.k) pattern in
    let count = c.byte.ensures ∙ ap (λ (x : ℕ). field 1 bank (x + 1)) body.at ∙ ap (λ (x : Pattern). x.count) pattern in
    let runs = c.byte-2.ensures ∙ ap (field 1 bank) body.at ∙ ap (λ (x : Pattern). x.runs) pattern in
    λ i. record { step = step i; count = count i; runs = runs i }
