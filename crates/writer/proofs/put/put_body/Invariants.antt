-- `writer::put::put_body` meets its contract. The invariant: the steps, written into the buffer as it was, are the rest of them, written
-- into the buffer as it is.
-- Assumes nothing.
use mathlib.Core.Path.{◌≡◌}
use Prim.Native.Nat.{◌+◌, ◌*◌}
use lib.ListN.{drop}
use lib.Seq.{sets}
use Rattle.arrays.specs.Encode.{steps_bytes}
use Rattle.writer.proofs.put.put_body.Given as goal

abbrev pub invariant-loop-k : goal.invariant-loop-k
invariant-loop-k l = sets l.initial.out (l.at + 2) (steps_bytes l.steps) ≡ sets l.out (l.at + 2 + 9 * l.k) (steps_bytes (drop l.k l.steps))
