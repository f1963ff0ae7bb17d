-- `capacity::capacity` meets its contract: the quotient is tested at each of the fifteen entries, which antt computes.
-- Assumes nothing.
use mathlib.Core.Path.{◌≡◌, refl, sym, ap, ◌∙◌}
use Prim.Native.Nat.{ℕ, ◌+◌, ◌-◌, ◌/◌}
use mathlib.Core.List.{List, [], ◌∷◌}
use native.Mathlib.Omega.{arith}
use borrow.Author.Tests.{le-leb, lt-leb, eqb-true}
use mathlib.Core.Bool.{Bool, cond}
use lib.Dec.{leb, eqb}
use lib.ListN.{get_or}
use Rattle.limits.specs.Range.{both, between}
use Rattle.capacity.specs.Capacity.{capacity_of}
use Rattle.capacity.proofs.Table.{at}
use Rattle.limits.proofs.Laws.{on, off}
use Rattle.capacity.proofs.capacity.Goals as goal

table : List ℕ
table = 99 ∷ 49 ∷ 33 ∷ 24 ∷ 19 ∷ 16 ∷ 14 ∷ 12 ∷ 11 ∷ 9 ∷ 9 ∷ 8 ∷ 7 ∷ 7 ∷ 6 ∷ []

-- the entry at a place, counted from 0, is for one pattern more
rule : ℕ → ℕ → Bool
rule place x = eqb x (capacity_of (place + 1))

pub returns-then-n-lt1 : goal.returns-then-n-lt1
unfolding capacity_of between
returns-then-n-lt1 c =
    let n = c.args.n in
    sym (ap (λ (t : Bool). cond t (99 / n) 0) (off (leb n 15) (lt-leb 1 n (omega arith))))

pub returns-then-n-gt15 : goal.returns-then-n-gt15
unfolding capacity_of between
returns-then-n-gt15 c =
    let n = c.args.n in
    sym (ap (λ (t : Bool). cond t (99 / n) 0) (on (le-leb 1 n (omega arith)) ∙ lt-leb n 15 (omega arith)))

pub returns : goal.returns
unfolding table rule capacity_of between both
returns c =
    let n = c.args.n in
    let place = n - 1 in
    let same : place + 1 ≡ n = omega arith in
    eqb-true (get_or table place 0) (capacity_of (place + 1)) (at rule table refl place (omega arith)) ∙ ap capacity_of same
