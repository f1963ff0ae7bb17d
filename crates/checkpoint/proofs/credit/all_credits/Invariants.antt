-- `checkpoint::credit::all_credits` meets its contract. The invariant: the front is read.
-- Assumes nothing.
use Prim.Native.Nat.{ℕ, ◌+◌, ◌*◌, ◌<◌}
use mathlib.Core.Path.{◌≡◌}
use lib.ListN.{length, get_or}
use Rattle.field.specs.Field.{field}
use Rattle.plain.specs.Record.{credits_from}
use Rattle.checkpoint.proofs.credit.all_credits.Given as goal

abbrev pub invariant-loop-i : goal.invariant-loop-i
invariant-loop-i l = record {
  long : length l.credit-items ≡ 99;
  made : (k : ℕ) → k < l.i → get_or l.credit-items k 0 ≡ field 4 l.store (credits_from + 4 * k);
}
