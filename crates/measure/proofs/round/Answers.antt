-- `measure::round` meets its contract: by the sign of y, where it is in range, and 0 elsewhere, as `nearest` has it.
-- Assumes nothing.
use Rattle.std.proofs.Common.{◌≡◌, true, false, ℤ, pos, ◌-ℤ◌, neg_ℤ, sym, ap, ◌∙◌, w16, to_z, of_z, arith}
use Rattle.std.proofs.lemmas.Grind.{common_steps}
use lib.IntN.{+ℤ_idl}
use lib.Ieee.{Float, of_bits}
use mir.ValLaws.{to_z-of_z}
use Rattle.measure.specs.Filter.{within, nearest, rounded}
use Rattle.measure.proofs.Range.{inside, minus-fits}
use Rattle.measure.proofs.Nearest.{Below, below, at-nought}
use Rattle.measure.proofs.round.Goals as goal
use Rattle.measure.proofs.round.Goals.{After-half_up-then-y-2, Else-not-inside, Then-y-2}

-- ---- where y is in range
abbrev Y : Else-not-inside → Float
Y c = c.args.y

in-range : (c : Else-not-inside) → within (Y c) ≡ true
in-range c = let known : c.inside.result ≡ true = grind (arith, common_steps) in sym c.inside.ensures ∙ known

is : (c : Else-not-inside) → nearest (Y c) ≡ rounded (Y c)
unfolding nearest
is c = simp (in-range c)

-- ---- below 0
other : (c : Then-y-2) → Below (Y c.before.before)
unfolding of_bits
other c = below (Y c.before.before) (inside (Y c.before.before) (in-range c.before.before)) c.if-y-2.true

-- MIR has `-x` as `0 - x`
minus : (c : After-half_up-then-y-2) → pos 0 -ℤ to_z w16 (of_z w16 c.half_up-then-y-2.result) ≡ neg_ℤ (pos (other c.before).whole)
minus c = ap (λ (z : ℤ). pos 0 -ℤ z) (to_z-of_z w16 _ (record { sfits = c.half_up-then-y-2.type_inv }) ∙ c.half_up-then-y-2.ensures ∙ (other c.before).size) ∙ +ℤ_idl (neg_ℤ (pos (other c.before).whole))

-- ---- above 0
pub half_up-requires : goal.half_up-requires
unfolding of_bits
half_up-requires c = record { in-range = in-range c.before; above = c.if-y.true }

pub returns-then-y : goal.returns-then-y
returns-then-y c = to_z-of_z w16 _ (record { sfits = c.half_up.type_inv }) ∙ c.half_up.ensures ∙ sym (is c.before.before)

pub half_up-requires-then-y-2 : goal.half_up-requires-then-y-2
half_up-requires-then-y-2 c = record { in-range = (other c).ok; above = (other c).over }

pub overflow_sub-result : goal.overflow_sub-result
overflow_sub-result c = rw (minus c) (minus-fits w16 (other c.before).whole (other c.before).short)

pub returns-then-y-2 : goal.returns-then-y-2
returns-then-y-2 c = to_z-of_z w16 _ (overflow_sub-result c) ∙ minus c ∙ sym (other c.before).is ∙ sym (is c.before.before.before)

-- ---- 0, and out of range
pub returns-else-y-2 : goal.returns-else-y-2
unfolding of_bits
returns-else-y-2 c =
    sym (is c.before.before ∙ at-nought (Y c.before.before) (inside (Y c.before.before) (in-range c.before.before)) c.if-y.false c.if-y-2.false)

pub returns-then-not-inside : goal.returns-then-not-inside
unfolding nearest
returns-then-not-inside c = let known : c.inside.result ≡ false = grind (arith, common_steps) in simp (sym c.inside.ensures ∙ known)
