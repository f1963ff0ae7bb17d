-- `bank::body::check_step` meets its contract.
-- Assumes nothing.
use mathlib.Core.Path.{◌≡◌, refl, ◌∙◌}
use mathlib.Core.List.{List, [], ◌∷◌}
use mathlib.Core.Bool.{Bool, true, false, ◌&&◌}
use Prim.Native.Nat.{ℕ}
use lib.Dec.{leb}
use lib.ListN.{length}
use native.Mathlib.Omega.{arith}
use Rattle.std.proofs.Common.{rules}
use Rattle.std.specs.List.{list_all}
use Rattle.setting.proofs.Laws.{within-bits, both-and}
use Rattle.bank.specs.Check.{step_right, signals_right}
use Rattle.bank.proofs.body.check_step.Goals as goal

and-true : (t : Bool) → (t && true) ≡ t
and-true true = refl
and-true false = refl

signals-all : (xs : List ℕ) → length xs ≡ 4 → list_all (λ (x : ℕ). leb x 5) xs ≡ signals_right xs
unfolding signals_right
signals-all [] h = absurd (omega arith)
signals-all (a ∷ []) h = absurd (omega arith)
signals-all (a ∷ b ∷ []) h = absurd (omega arith)
signals-all (a ∷ b ∷ c ∷ []) h = absurd (omega arith)
signals-all (a ∷ b ∷ c ∷ d ∷ []) h = simp (both-and, and-true)
signals-all (a ∷ b ∷ c ∷ d ∷ e ∷ xs) h = absurd (omega arith)

pub returns : goal.returns
unfolding step_right
returns c =
    let limits = c.in_limits.ensures ∙ within-bits {x = c.args.step.target} c.ranges.low (search rules) c.ranges.high in
    rw (limits, c.signals_right.ensures, signals-all c.args.step.signals (omega arith)) (simp both-and refl)
