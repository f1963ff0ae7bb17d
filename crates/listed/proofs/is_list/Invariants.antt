-- `listed::is_list` meets its contract. The invariant: an event begins here, or the list ends, and the bytes are a list if all that is asked for from
-- here on is known.
-- Assumes nothing.
use Prim.Native.Nat.{◌-◌}
use mathlib.Core.Path.{◌≡◌}
use mathlib.Core.List.{map}
use lib.ListN.{length}
use Rattle.position.specs.Tests.{all}
use Rattle.plain.specs.Listed.{is_of, formed}
use Rattle.plain.proofs.Listed.{asked_from, Begins}
use Rattle.listed.proofs.is_list.Given as goal

abbrev pub invariant-loop-at : goal.invariant-loop-at
invariant-loop-at l = Begins l.bytes l.at × (all (map is_of (asked_from l.bytes l.at)) ≡ formed l.bytes)

abbrev pub decreases-loop-at : goal.decreases-loop-at
decreases-loop-at l = length l.bytes - l.at
