-- `stored::put_all` meets its contract. The invariant: what is left to store, stored, gives what the contract says.
-- Assumes nothing.
use Rattle.std.proofs.Common.{◌≡◌, ◌+◌, ◌≤◌, length}
use Rattle.std.proofs.Math.Seq.{sets}
use Rattle.field.specs.Row.{row, total}
use Rattle.stored.proofs.put_all.Given as goal

abbrev pub invariant-loop-width : goal.invariant-loop-width
invariant-loop-width l =
    let widths = l.width-iterator.a.rest.now in
    let numbers = l.width-iterator.b.rest.now in
    record {
      can_next : (goal.iterator-loop-width).can_next l.width-iterator;
      is_finite : (goal.iterator-loop-width).is_finite l.width-iterator;
      enough : length widths ≤ length numbers;
      room : l.to + total widths ≡ l.at + total l.widths;
      made : sets l.buffer l.to (row widths numbers) ≡ sets l.initial.buffer l.at (row l.widths l.numbers);
    }
