-- `checkpoint::credit::all_credits` meets its contract: the front so far, and one credit more.
-- Assumes nothing.
use Prim.Native.Nat.{ℕ, ◌+◌, ◌*◌, ◌<◌}
use mathlib.Core.Path.{◌≡◌, sym, ◌∙◌}
use mathlib.Core.List.{List}
use native.Mathlib.Omega.{arith}
use lib.ListN.{length, get_or, set, length-set, length-replicate}
use lib.Seq.{ext_get_or}
use Rattle.std.proofs.lemmas.Grind.{common_steps}
use Rattle.field.specs.Field.{field}
use Rattle.field.specs.Row.{total}
use Rattle.field.proofs.Laws.{field-four}
use Rattle.field.proofs.Rows.{length-row_at}
use Rattle.plain.specs.Record.{widths_of, credit_widths, credits_from, credits_in}
use Rattle.checkpoint.proofs.Laws.{number-at}
use Rattle.checkpoint.proofs.credit.all_credits.Goals as goal

one_more : (made : List ℕ) (number : ℕ → ℕ) (i credit : ℕ) → ((k : ℕ) → k < i → get_or made k 0 ≡ number k) → i < length made → credit ≡ number i
    → (k : ℕ) → k < i + 1 → get_or (set made i credit) k 0 ≡ number k
one_more made number i credit before inside here k below = grind (arith, common_steps)

pub loop-i-preserved : goal.loop-i-preserved
unfolding widths_of total
loop-i-preserved c =
    let l = c.loop-i in
    let store = c.args.store.now in
    let credit : c.join4.result ≡ field 4 store (credits_from + 4 * l.i) = omega (arith, c.join4.ensures, field-four store (credits_from + 4 * l.i)) in
    record {
      long = omega (arith, length-set {A = ℕ});
      made = one_more _ (λ i. field 4 store (credits_from + 4 * i)) l.i _ l.invariant.made (omega arith) credit;
    }

pub returns : goal.returns
unfolding credits_in credit_widths widths_of total
returns c =
    let l = c.loop-i in
    let store = c.args.store.now in
    let size : length (credits_in store) ≡ 99 = length-row_at credit_widths store credits_from ∙ length-replicate {A = ℕ} 99 4 in
    ext_get_or 0 l.credit-items (credits_in store) (l.invariant.long ∙ sym size)
    (λ j h. l.invariant.made j (omega arith) ∙ sym (number-at 4 99 store credits_from j (omega (arith, l.invariant.long))))
