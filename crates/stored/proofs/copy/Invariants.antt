-- `stored::copy` meets its contract. The invariant: the front is copied, and nothing else.
-- Assumes nothing.
use mathlib.Core.Path.{◌≡◌}
use mathlib.Core.List.{◌++◌}
use lib.ListN.{length, drop, take}
use Rattle.stored.proofs.copy.Given as goal

abbrev pub invariant-loop-i : goal.invariant-loop-i
invariant-loop-i l = record {
  long : length l.buffer ≡ length l.initial.buffer;
  made : l.buffer ≡ take l.i l.source ++ drop l.i l.initial.buffer;
}
