-- `line::finish` meets its contract: an empty line is left, and any other is taken.
-- Assumes nothing.
use mathlib.Core.Path.{refl}
use native.Mathlib.Omega.{arith}
use borrow.Author.Tests.{le-leb, ne_eqb}
use lib.ListN.{length, take, length-take}
use Rattle.line.specs.Beside.{sheet_over}
use Rattle.line.specs.Part.{found, end_of, finish_of}
use Rattle.line.proofs.Laws.{line-leaves}
use Rattle.line.proofs.finish.Goals as goal

pub returns : goal.returns
unfolding finish_of end_of
returns c =
    let a = c.args in
    let between = a.between in
    let store = a.store.now in
    let out = a.out.now in
    let line = take between.kept between.line in
    let some = ne_eqb (length line) 0 (λ h. omega (arith, length-take between.kept between.line)) in
    rw (le-leb 168 _ c.if-out-lt168.false, some)
    (line-leaves (sheet_over a.bank.now) (record { between = between; end = 0 }) store out (found between store) out refl
    c.take_line.ensures)
