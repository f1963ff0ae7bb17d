-- `stored::put_digits` meets its contract.
-- Assumes nothing.
use Rattle.std.proofs.Common.{◌≡◌, ◌-◌, ◌∙◌, length, arith}
use Rattle.std.proofs.lemmas.List.{append-nil}
use Rattle.std.proofs.Math.Seq.{take_all}
use Rattle.field.specs.Field.{digits}
use Rattle.field.proofs.Laws.{write-turn}
use Rattle.stored.proofs.put_digits.Goals as goal

pub loop-i-preserved : goal.loop-i-preserved
loop-i-preserved c =
    let l = c.loop-i in
    write-turn l.place l.i (length c.args.place.now) l.rest (omega arith) (omega arith) ∙ l.invariant

pub returns : goal.returns
unfolding digits
returns c =
    let l = c.loop-i in
    let n = length c.args.place.now in
    let none : n - l.i ≡ 0 = omega arith in
    rw (none, append-nil, take_all l.i l.place (omega arith)) at l.invariant
