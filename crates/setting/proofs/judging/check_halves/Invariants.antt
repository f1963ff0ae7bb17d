-- `setting::judging::check_halves` meets its contract. The invariant: the pairs are found to be what the rest of them is found to be.
-- Assumes nothing.
use mathlib.Core.Path.{◌≡◌}
use Prim.Native.Nat.{◌+◌, ◌*◌}
use lib.ListN.{length}
use Rattle.std.specs.Slice.Iter.{iter_rest}
use Rattle.std.specs.Iterator.Adapters.{zip_first, zip_second}
use Rattle.setting.specs.Setting.{halves_found}
use Rattle.setting.proofs.judging.check_halves.Given as goal

abbrev pub invariant-loop-x : goal.invariant-loop-x
invariant-loop-x l =
    let xs = iter_rest (zip_first l.x-iterator) in
    let ys = iter_rest (zip_second l.x-iterator) in
    (l.offset + 4 * length xs ≡ l.at + 16) × (halves_found l.top l.other l.at l.fn.xs l.fn.ys ≡ halves_found l.top l.other l.offset xs ys)
