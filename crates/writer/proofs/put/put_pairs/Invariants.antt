-- `writer::put::put_pairs` meets its contract. The invariant: the whole, written into the buffer as it was, is the rest, written
-- into the buffer as it is.
-- Assumes nothing.
use mathlib.Core.Path.{◌≡◌}
use Prim.Native.Nat.{◌+◌, ◌*◌, ◌≤◌}
use lib.Seq.{sets}
use Rattle.arrays.specs.Encode.{pairs_bytes}
use Rattle.arrays.proofs.Views.{rest}
use Rattle.arrays.proofs.Taken.{pattern_in}
use Rattle.writer.proofs.put.put_pairs.Given as goal

abbrev pub invariant-loop-p : goal.invariant-loop-p
invariant-loop-p l =
    let n = l.fn.settings.patterns in
    let f = pattern_in l.fn.ps in
    record {
      few : n ≤ 15;
      near : l.due ≤ 105 + 3000 * l.p;
      left : sets l.initial.out 45 (pairs_bytes (45 + 4 * n) (rest f n 0)) ≡ sets l.out (45 + 4 * l.p) (pairs_bytes l.due (rest f n l.p));
    }
