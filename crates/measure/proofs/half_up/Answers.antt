-- `measure::half_up` meets its contract: twice x is exact, so its whole part is that of `Near`.
-- Assumes nothing.
use Rattle.std.proofs.Common.{◌≡◌, ℕ, ◌+◌, ◌/◌, ◌<◌, ◌≤◌, false, pos, sym, ap, ◌∙◌, subst, arith, w16}
use lib.Ieee.{fin, binary64, of_bits, mul}
use lib.Ieee.Positive.{num, den}
use denote.Floats.{passes}
use mir.ValLaws.{to_z_pos}
use Rattle.measure.specs.Filter.{half_up, rounded}
use Rattle.measure.proofs.Range.{inside}
use Rattle.measure.proofs.Nearest.{Near, above}
use Rattle.measure.proofs.half_up.Goals as goal
use Rattle.measure.proofs.half_up.Goals.{After-truncating_f64_to_u64-doubled, Start}

twice : (c : Start) →
    let x = c.args.x in
    Near (num x) (den x) (mul binary64 x (fin false 1 (pos 1))) × (rounded x ≡ pos (half_up (num x) (den x)))
twice c = above c.args.x (passes _ c.well_formed.0.1) (inside c.args.x c.requires.in-range) c.requires.above

n-le : (c : After-truncating_f64_to_u64-doubled) → c.truncating_f64_to_u64-doubled.result ≤ 59998
unfolding of_bits
n-le c = subst (λ (count : ℕ). count ≤ 59998) (sym c.truncating_f64_to_u64-doubled.ensures) (twice c.before).0.short

half_lt : (count : ℕ) → count ≤ 59998 → (count + 1) / 2 < 32768
half_lt count h = omega arith

pub truncating_f64_to_u64-doubled-requires : goal.truncating_f64_to_u64-doubled-requires
unfolding of_bits
truncating_f64_to_u64-doubled-requires c = record { lower_bound = (twice c).0.range.0; upper_bound = (twice c).0.range.1 }

pub overflow_add-result : goal.overflow_add-result
overflow_add-result c = omega (arith, n-le c)

pub overflow_cast-result : goal.overflow_cast-result
overflow_cast-result c = record { sfits = omega (arith, n-le c) }

pub returns : goal.returns
unfolding of_bits
returns c =
    to_z_pos w16 _ (half_lt _ (n-le c))
    ∙ ap (λ (count : ℕ). pos ((count + 1) / 2)) c.truncating_f64_to_u64-doubled.ensures
    ∙ ap pos (twice c.before).0.whole
    ∙ sym (twice c.before).1
