-- `field::bytes` meets its contract. The invariant: the front is made.
-- Assumes nothing.
use Rattle.std.proofs.Common.{◌≡◌, ℕ, ◌<◌, length, slice_index}
use Rattle.field.proofs.bytes.Given as goal

abbrev pub invariant-loop-i : goal.invariant-loop-i
invariant-loop-i g l = record { long : length l.x-items ≡ g.row.N; made : (k : ℕ) → k < l.i → slice_index l.x-items k ≡ slice_index l.rest k }
