-- `stored::put_digits` meets its contract. The invariant: the bytes made, and those of what is left of the number, are the number's.
-- Assumes nothing.
use Rattle.std.proofs.Common.{◌≡◌, ◌-◌, ◌++◌, length, take}
use Rattle.field.specs.Field.{digits}
use Rattle.stored.proofs.put_digits.Given as goal

abbrev pub invariant-loop-i : goal.invariant-loop-i
invariant-loop-i l =
    take l.i l.place ++ digits (length l.initial.place - l.i) l.rest ≡ digits (length l.initial.place) l.v
