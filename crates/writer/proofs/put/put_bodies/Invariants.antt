-- `writer::put::put_bodies` meets its contract. The invariant: the whole, written into the buffer as it was, is the rest, written
-- into the buffer as it is.
-- Assumes nothing.
use mathlib.Core.Path.{◌≡◌}
use Prim.Native.Nat.{◌+◌, ◌≤◌}
use lib.ListN.{length}
use lib.Seq.{sets}
use Rattle.arrays.specs.Encode.{bodies_bytes}
use Rattle.arrays.proofs.Views.{rest}
use Rattle.arrays.proofs.Taken.{pattern_in, sum_to}
use Rattle.writer.proofs.put.put_bodies.Given as goal

abbrev pub invariant-loop-p : goal.invariant-loop-p
invariant-loop-p l =
    let n = l.fn.settings.patterns in
    let f = pattern_in l.ps in
    record {
      few : n ≤ 15;
      inside : l.base ≤ 99;
      begins : l.base ≡ sum_to l.ps.counts l.p;
      room : l.at + length (bodies_bytes (rest f n l.p)) ≤ length l.out;
      left : sets l.initial.out l.fn.from (bodies_bytes (rest f n 0)) ≡ sets l.out l.at (bodies_bytes (rest f n l.p));
    }
