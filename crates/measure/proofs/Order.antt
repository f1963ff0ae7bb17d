-- The order of floats. It is total but for NaN: `x < y` is `not (y ≤ x)`. So `kept`, which asks `≥` and `≤`, is the clamp that asks `<` and `>`, at every x that is no NaN.
-- Assumes nothing.
use Rattle.std.proofs.Common.{◌≡◌, ℕ, zero, suc, ◌+◌, ◌*◌, Bool, true, false, cond, not, ◌&&◌, ◌||◌, eqb, ltb, leb, sym, refl, ap, ◌∙◌, arith, lt-ltb}
use mathlib.Core.Bool.{and-false}
use lib.Dec.{leb-zero, leb-suc-zero, leb-suc-suc, eqb-zero-suc, eqb-suc-zero, eqb-suc-suc}
use lib.Ieee.{Float, nan, inf, fin, up, down, lt, le}
use Rattle.measure.specs.Filter.{lowest, highest, kept}
use Rattle.measure.proofs.Number.{Number}

-- ---- the tests of numbers
eqb-sym : (a other : ℕ) → eqb a other ≡ eqb other a
eqb-sym zero zero = refl
eqb-sym zero (suc other) = eqb-zero-suc other ∙ sym (eqb-suc-zero other)
eqb-sym (suc a) zero = eqb-suc-zero a ∙ sym (eqb-zero-suc a)
eqb-sym (suc a) (suc other) = eqb-suc-suc a other ∙ eqb-sym a other ∙ sym (eqb-suc-suc other a)

pub ltb-not : (a other : ℕ) → ltb a other ≡ not (leb other a)
ltb-not a zero = leb-suc-zero a ∙ ap not (sym (leb-zero a))
ltb-not zero (suc other) = leb-suc-suc 0 other ∙ leb-zero other ∙ ap not (sym (leb-suc-zero other))
ltb-not (suc a) (suc other) = leb-suc-suc (suc a) other ∙ ltb-not a other ∙ ap not (sym (leb-suc-suc other a))

-- below or level, as the library has `≤` of two floats of one sign, is ≤ of their sizes; of two that are negative the level sizes are the other way round
pub below-or-level : (a other : ℕ) → (ltb a other || (eqb a other && true)) ≡ leb a other
below-or-level zero zero = refl
below-or-level zero (suc other) = simp (lt-ltb 0 (suc other) (omega arith), leb-zero (suc other))
below-or-level (suc a) zero = simp (leb-suc-zero (suc a), eqb-suc-zero a, leb-suc-zero a)
below-or-level (suc a) (suc other) = simp (leb-suc-suc (suc a) other, eqb-suc-suc a other, leb-suc-suc a other) (below-or-level a other)

pub below-or-level-turned : (a other : ℕ) → (ltb a other || (eqb other a && true)) ≡ leb a other
below-or-level-turned a other = ap (λ (x : Bool). ltb a other || (x && true)) (eqb-sym other a) ∙ below-or-level a other

-- ---- a negative float against one that is not, each way round
cross : (a other : ℕ) → ltb 0 (a + other) ≡ not (eqb other a && eqb other 0)
cross zero zero = refl
cross (suc a) zero = simp (lt-ltb 0 (suc a + 0) (omega arith), eqb-zero-suc a)
cross a (suc other) = simp (lt-ltb 0 (a + suc other) (omega arith), eqb-suc-zero other, and-false (eqb (suc other) a))

crossed : (a other : ℕ) → false ≡ not (ltb 0 (a + other) || (eqb a other && eqb a 0))
crossed zero zero = refl
crossed zero (suc other) = simp (lt-ltb 0 (0 + suc other) (omega arith))
crossed (suc a) other = simp (lt-ltb 0 (suc a + other) (omega arith))

pub lt_not_le : (x y : Float) → Number x → Number y → lt x y ≡ not (le y x)
unfolding lt le
lt_not_le nan y known q = absurd known
lt_not_le (inf sign) nan known q = absurd q
lt_not_le (inf true) (inf true) known q = refl
lt_not_le (inf true) (inf false) known q = refl
lt_not_le (inf false) (inf true) known q = refl
lt_not_le (inf false) (inf false) known q = refl
lt_not_le (inf true) (fin t size d) known q = refl
lt_not_le (inf false) (fin t size d) known q = refl
lt_not_le (fin sign m exponent) nan known q = absurd q
lt_not_le (fin sign m exponent) (inf true) known q = refl
lt_not_le (fin sign m exponent) (inf false) known q = refl
lt_not_le (fin false m exponent) (fin false size d) known q =
    ltb-not (m * up exponent * down d) (size * up d * down exponent) ∙ ap not (sym (below-or-level (size * up d * down exponent) (m * up exponent * down d)))
lt_not_le (fin false m exponent) (fin true size d) known q = crossed (size * up d * down exponent) (m * up exponent * down d)
lt_not_le (fin true m exponent) (fin false size d) known q = cross (m * up exponent * down d) (size * up d * down exponent)
lt_not_le (fin true m exponent) (fin true size d) known q =
    ltb-not (size * up d * down exponent) (m * up exponent * down d) ∙ ap not (sym (below-or-level-turned (m * up exponent * down d) (size * up d * down exponent)))

-- ---- the clamp by `<` and `>`
pub kept-clamp : (x : Float) → Number x → kept x ≡ cond (lt x lowest) lowest (cond (lt highest x) highest x)
unfolding kept
kept-clamp x h = simp (lt_not_le x lowest h tt, lt_not_le highest x tt h) (turn (le lowest x) (le x highest) lowest highest x)
  where
    turn : (a other : Bool) (l upper x : Float) → cond a (cond other x upper) l ≡ cond (not a) l (cond (not other) upper x)
    turn true true l upper x = refl
    turn true false l upper x = refl
    turn false true l upper x = refl
    turn false false l upper x = refl
