-- `stored::put_bytes` meets its contract. The invariant: the bytes so far are written.
-- Assumes nothing.
use mathlib.Core.Path.{◌≡◌}
use lib.ListN.{length, take}
use lib.Seq.{sets}
use Rattle.stored.proofs.put_bytes.Given as goal

abbrev pub invariant-loop-i : goal.invariant-loop-i
invariant-loop-i g l = record {
  long : length l.buffer ≡ length l.initial.buffer;
  made : l.buffer ≡ sets l.initial.buffer l.at (take l.i l.bytes);
}
