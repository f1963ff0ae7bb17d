-- `credit_lines::put_credit` meets its contract.
-- Assumes nothing.
use mathlib.Core.List.{[], ◌∷◌, append-nil}
use mathlib.Core.Path.{refl}
use native.Mathlib.Omega.{arith}
use borrow.Author.Tests.{eq-eqb, ne_eqb}
use lib.IntN.{pos}
use Rattle.decimal.proofs.Laws.{put_is}
use Rattle.line.specs.Sheet.{credit_lines}
use Rattle.line.proofs.Laws.{line-put, small}
use Rattle.credit_lines.proofs.put_credit.Goals as goal

pub returns-then-credit-eq0 : goal.returns-then-credit-eq0
unfolding credit_lines
returns-then-credit-eq0 c = rw (eq-eqb _ 0 c.if-credit-eq0.true) (put_is refl (omega arith))

pub returns : goal.returns
unfolding credit_lines
returns c =
    let a = c.args in
    rw (ne_eqb a.credit 0 c.if-credit-eq0.false, append-nil)
    (line-put a.out.now a.at (pos a.k ∷ pos a.credit ∷ []) (omega arith)
    (λ i. small a.k (omega arith) i ∷ small a.credit (omega arith) i ∷ []) c.put_line.ensures)
