-- The range of temperatures: a float within it, in whole numbers; what `kept` gives; a reading in it.
-- Assumes nothing.
use Rattle.std.proofs.Common.{◌≡◌, ℕ, zero, suc, ◌+◌, ◌*◌, ◌^◌, ◌<◌, ◌≤◌, Bool, true, false, cond, ◌&&◌, T, eqb, ltb, leb, ℤ, pos, negsuc, neg_ℤ, sym, refl, ◌∙◌, subst, true≢false, suc-le-suc, le_trans, le_of_eq, le_of_lt, mul-le-mul_right, mul-one, arith, lit≤, SFits, ltb-false, le-ltb, lt-ltb, le-leb, leb-true}
use mathlib.Core.Bool.{and-true, or-false}
use lib.Ieee.{Float, nan, inf, fin, binary64, up, down, le, of_int}
use lib.Ieee.Fits.{down_pos}
use lib.Ieee.Exact.{HasValue}
use lib.Ieee.Back.{round_whole}
use lib.Ieee.Scale.{finite}
use mir.Syntax.{Width}
use mir.Val.{hbits}
use Rattle.measure.specs.Filter.{lowest, highest, kept, lagged, value_after, within, outside_of}
use Rattle.measure.specs.Bound.{end}
use Rattle.measure.specs.declared.Measured.{Measured}
use Rattle.measure.specs.declared.Reading.{Reading}
use Rattle.measure.proofs.Order.{below-or-level, below-or-level-turned}

-- y is finite and within the two ends, in whole numbers: y is m * up exponent / down exponent
abbrev pub Within : Float → Type 0
Within nan = ⊥
Within (inf sign) = ⊥
Within (fin sign m exponent) = m * up exponent ≤ end sign * down exponent

pub within-finite : (y : Float) → Within y → T (finite y)
within-finite nan h = h
within-finite (inf sign) h = h
within-finite (fin sign m exponent) h = tt

-- ---- `Within` is what `within` tests: the end at the other sign is passed by any size
left : (x d : ℕ) → 0 < d → 0 < 19999 * d + x
left x d h = omega arith

right : (x d : ℕ) → 0 < d → 0 < x + 29999 * d
right x d h = omega arith

within-fin : (sign : Bool) (m : ℕ) (exponent : ℤ) → within (fin sign m exponent) ≡ leb (m * up exponent * 1) (end sign * down exponent)
unfolding within le
within-fin true m exponent =
    simp (below-or-level-turned (m * up exponent * 1) (19999 * down exponent), lt-ltb 0 (m * up exponent * 1 + 29999 * down exponent) (right (m * up exponent * 1) (down exponent) (down_pos exponent)))
    (and-true (leb (m * up exponent * 1) (19999 * down exponent)))
within-fin false m exponent =
    simp (lt-ltb 0 (19999 * down exponent + m * up exponent * 1) (left (m * up exponent * 1) (down exponent) (down_pos exponent)), below-or-level (m * up exponent * 1) (29999 * down exponent))

pub inside : (y : Float) → within y ≡ true → Within y
unfolding within le
inside nan h = absurd (true≢false (sym h))
inside (inf true) h = absurd (true≢false (sym h))
inside (inf false) h = absurd (true≢false (sym h))
inside (fin sign m exponent) h = le_trans (le_of_eq (sym (mul-one (m * up exponent)))) (leb-true (m * up exponent * 1) (end sign * down exponent) (sym (within-fin sign m exponent) ∙ h))

pub within-true : (y : Float) → Within y → within y ≡ true
within-true nan h = absurd h
within-true (inf sign) h = absurd h
within-true (fin sign m exponent) h = within-fin sign m exponent ∙ le-leb (m * up exponent * 1) (end sign * down exponent) (le_trans (le_of_eq (mul-one (m * up exponent))) h)

-- ---- what is kept in range is in range, whatever it was
pub kept-within : (x : Float) → Within (kept x)
unfolding kept within
kept-within x = go (le lowest x) (le x highest) (inside x)
  where
    go : (a other : Bool) → ((a && other) ≡ true → Within x) → Within (cond a (cond other x highest) lowest)
    go true true h = h refl
    go true false h = lit≤ tt
    go false other h = lit≤ tt

-- ---- a whole number in range, and as a float
abbrev pub InRange : ℤ → Type 0
InRange (pos count) = count ≤ 29999
InRange (negsuc count) = suc count ≤ 19999

pub in-range : (z : ℤ) → outside_of (Reading.Value z) ≡ false → InRange z
unfolding outside_of
in-range (pos count) h = ltb-false 29999 count h
in-range (negsuc count) h = suc-le-suc (ltb-false 19998 count (sym (or-false (ltb 19998 count)) ∙ h))

pub not-outside : (z : ℤ) → InRange z → outside_of (Reading.Value z) ≡ false
unfolding outside_of
not-outside (pos count) h = le-ltb 29999 count h
not-outside (negsuc count) h = or-false (ltb 19998 count) ∙ le-ltb 19998 count (fewer count h)
  where
    fewer : (count : ℕ) → suc count ≤ 19999 → count ≤ 19998
    fewer count h = omega arith

far : (a c : ℕ) → a ≤ c → c ≤ 29999 → a ≤ 9007199254740992
far a c h near = omega arith

-- the float of a whole number in range has its sign and its size exactly
abbrev pub negative : ℤ → Bool
negative (pos count) = false
negative (negsuc count) = true

abbrev pub size : ℤ → ℕ
size (pos count) = count
size (negsuc count) = suc count

pub size-le : (z : ℤ) → InRange z → size z ≤ end (negative z)
size-le (pos count) h = h
size-le (negsuc count) h = h

pub exact : (z : ℤ) → InRange z → HasValue (of_int binary64 z) (negative z) (size z) 1
unfolding of_int
exact (pos count) h = round_whole binary64 false count (far count 29999 h (lit≤ tt))
exact (negsuc count) h = round_whole binary64 true (suc count) (far (suc count) 19999 h (lit≤ tt))

value-within : (x : Float) (sign : Bool) (a : ℕ) → a ≤ end sign → HasValue x sign a 1 → Within x
value-within nan sign a h v = v
value-within (inf t) sign a h v = v
value-within (fin t m exponent) sign a h v =
    subst (λ (other : Bool). m * up exponent ≤ end other * down exponent) (sym v.0)
    (le_trans (le_of_eq (sym (mul-one (m * up exponent)))) (le_trans (le_of_eq v.1) (mul-le-mul_right (down exponent) h)))

pub of-within : (z : ℤ) → InRange z → Within (of_int binary64 z)
of-within z h = value-within (of_int binary64 z) (negative z) (size z) (size-le z h) (exact z h)

-- ---- what a value in range makes of any measured value
either : (other : Bool) (x y : Float) → Within x → Within y → Within (cond other x y)
either true x y h g = h
either false x y h g = g

pub after-within : (m : Measured) (v : Float) (f : ℕ) → Within v → Within (value_after m v f)
after-within Measured.NoReading v f h = h
after-within Measured.Over v f h = h
after-within Measured.Under v f h = h
after-within (Measured.Value y) v f h = either (eqb f 0) v (kept (lagged y v f)) h (kept-within (lagged y v f))

-- ---- the negative of a size that fits a signed width fits it too
pub minus-fits : (width : Width) (count : ℕ) → count < 2 ^ hbits width → SFits width (neg_ℤ (pos count))
minus-fits width zero h = record { sfits = h }
minus-fits width (suc count) h = record { sfits = le_of_lt h }
