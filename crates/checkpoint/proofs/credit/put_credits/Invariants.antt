-- `checkpoint::credit::put_credits` meets its contract. The invariant: what is yet to be stored, stored, gives what the contract says.
-- Assumes nothing.
use Prim.Native.Nat.{◌+◌, ◌*◌}
use mathlib.Core.Path.{◌≡◌}
use lib.ListN.{length, drop}
use lib.Seq.{sets}
use Rattle.field.specs.Row.{row}
use Rattle.plain.specs.Record.{credit_widths, credits_from}
use Rattle.checkpoint.proofs.credit.put_credits.Given as goal

abbrev pub invariant-loop-i : goal.invariant-loop-i
invariant-loop-i l =
    record {
      long : length l.store ≡ length l.initial.store;
      gives : sets l.store (credits_from + 4 * l.i) (row (drop l.i credit_widths) (drop l.i l.fn.credits)) ≡ sets l.initial.store credits_from (row credit_widths l.fn.credits);
    }
