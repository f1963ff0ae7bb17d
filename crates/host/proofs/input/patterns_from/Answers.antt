-- `host::input::patterns_from` meets its contract: each element is what the call for its place gave.
-- Assumes nothing.
use borrow.Author.Rules.{rules}
use Rattle.field.specs.Field.{field}
use Rattle.bank.specs.View.{step_at}
use Rattle.calls.specs.Calls.{patterns_from}
use Rattle.host.proofs.Laws.{made-tab}
use Rattle.host.proofs.input.patterns_from.Goals as goal

pub returns : goal.returns
unfolding patterns_from
returns c =
    let pairs = c.args.pairs.now in
    let steps = c.args.steps.now in
    λ i. record {
      runs = made-tab _ _ (field 1 pairs) 2 0 (λ k y q called. (search rules, search rules)) _ 15 c.from_fn.ensures.items i;
      counts = made-tab _ _ (field 1 pairs) 2 1 (λ k y q called. (search rules, search rules)) _ 15 c.from_fn-2.ensures.items i;
      steps = made-tab _ _ (step_at steps) 9 0 (λ k y q called. (search rules, search rules)) _ 99 c.from_fn-3.ensures.items i;
    }
