-- `stored::has_room` meets its contract. The invariant: all the widths fit if the rest of them fits what is left.
-- Assumes nothing.
use Rattle.std.proofs.Common.{◌≡◌, leb, drop}
use Rattle.field.specs.Row.{total}
use Rattle.stored.proofs.has_room.Given as goal

abbrev pub invariant-loop-width : goal.invariant-loop-width
invariant-loop-width l = leb (total l.widths) l.room ≡ leb (total (drop l.width-index l.widths)) l.left
