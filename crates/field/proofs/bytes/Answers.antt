-- `field::bytes` meets its contract. The invariant: the front is made.
-- Assumes nothing.
use Rattle.std.proofs.Common.{◌≡◌, ℕ, ◌+◌, ◌<◌, ◌∙◌, List, length, slice_index, get_or, set, length-set, arith}
use Rattle.std.proofs.lemmas.Grind.{common_steps}
use Rattle.field.proofs.Laws.{field-one}
use Rattle.field.proofs.bytes.Goals as goal

one_more : (made rest : List ℕ) (i b : ℕ) → ((k : ℕ) → k < i → get_or made k 0 ≡ get_or rest k 0) → i < length made → b ≡ get_or rest i 0
    → (k : ℕ) → k < i + 1 → get_or (set made i b) k 0 ≡ get_or rest k 0
one_more made rest i b before inside here k below = grind (arith, common_steps)

pub loop-i-preserved : goal.loop-i-preserved
loop-i-preserved g c =
    let rest = c.in-Some.rest.now in
    record {
      long = omega (arith, length-set {A = ℕ});
      made = one_more _ rest c.loop-i.i _ c.loop-i.invariant.made (omega arith) (c.byte.ensures ∙ field-one rest c.loop-i.i);
    }

pub returns : goal.returns
returns g c = λ i below.
    let there : slice_index c.in-Some.rest.now i ≡ slice_index c.args.buffer.now (c.args.at + i) = grind (arith, common_steps) in
    c.loop-i.invariant.made i (omega arith) ∙ there
