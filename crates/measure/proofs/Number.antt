-- Which operations give no NaN. A sum of a finite value and a number, a product with ten, and a quotient by a positive value may overflow to an infinity, and are never a NaN.
-- Assumes nothing.
use Rattle.std.proofs.Common.{ℕ, zero, suc, ◌+◌, ◌-◌, ◌*◌, ◌^◌, ◌<◌, ◌≤◌, Bool, true, false, cond, ◌&&◌, T, ltb, pos, arith}
use mathlib.Core.Bool.{beq}
use lib.Dec.{eqb-suc-zero}
use lib.Ieee.{Float, nan, inf, fin, Format, binary64, prec, emax, low, unlike, up, down, odd, units, round, sum, neg, add, sub, mul, div, of_int}
use lib.Ieee.Fits.{round_is}
use lib.Ieee.Back.{round_whole}
use lib.Ieee.Scale.{finite}
use lib.Ieee.Positive.{positive, positive_of_value}
use Rattle.measure.specs.Filter.{ten, lagged}

-- x is no NaN
abbrev pub Number : Float → Type 0
Number nan = ⊥
Number (inf sign) = Unit {0}
Number (fin sign m exponent) = Unit {0}

pub finite_number : (x : Float) → T (finite x) → Number x
finite_number nan h = h
finite_number (inf sign) h = tt
finite_number (fin sign m exponent) h = tt

either : (other : Bool) (x y : Float) → Number x → Number y → Number (cond other x y)
either true x y h more = h
either false x y h more = more

odd_number : (d : ℕ) (sign : Bool) (q more l : ℕ) → Number (odd d sign q more l)
unfolding odd
odd_number d sign zero more l = tt
odd_number d sign (suc q) more l = tt

units_number : (f : Format) (sign : Bool) (q more : ℕ) → Number (units f sign q more)
unfolding units
units_number f sign q more = either (ltb (q * 2 ^ more) (2 ^ (low f + suc (emax f)))) (odd (suc (prec f)) sign q more (low f)) (inf sign) (odd_number (suc (prec f)) sign q more (low f)) tt

pub round_number : (f : Format) (sign : Bool) (a other : ℕ) → Number (round f sign a other)
round_number f sign a other = rw (round_is f sign a other) (units_number f sign _ _)

sum_number : (f : Format) (sign : Bool) (a : ℕ) (t : Bool) (other c : ℕ) → Number (sum f sign a t other c)
unfolding sum
sum_number f sign a t other c =
    either (beq sign t) (round f sign (a + other) c) (cond (ltb a other) (round f t (other - a) c) (round f (sign && ltb other a) (a - other) c)) (round_number f sign (a + other) c)
    (either (ltb a other) (round f t (other - a) c) (round f (sign && ltb other a) (a - other) c) (round_number f t (other - a) c) (round_number f (sign && ltb other a) (a - other) c))

pub add-number : (f : Format) (x y : Float) → T (finite x) → Number y → Number (add f x y)
unfolding add
add-number f nan y h more = absurd h
add-number f (inf sign) y h more = absurd h
add-number f (fin sign m exponent) nan h more = absurd more
add-number f (fin sign m exponent) (inf t) h more = tt
add-number f (fin sign m exponent) (fin t size d) h more = sum_number f sign (m * up exponent * down d) t (size * up d * down exponent) (down exponent * down d)

neg-number : (x : Float) → Number x → Number (neg x)
unfolding neg
neg-number nan h = h
neg-number (inf sign) h = tt
neg-number (fin sign m exponent) h = tt

pub sub_number : (f : Format) (x y : Float) → T (finite x) → Number y → Number (sub f x y)
unfolding sub
sub_number f x y h more = add-number f x (neg y) h (neg-number y more)

pub mul-ten-number : (f : Format) (x : Float) → Number x → Number (mul f x ten)
unfolding mul
mul-ten-number f nan h = absurd h
mul-ten-number f (inf sign) h = tt
mul-ten-number f (fin sign m exponent) h = round_number f (unlike sign false) (m * up exponent * 10) (down exponent * 1)

pub div-number : (f : Format) (x y : Float) → Number x → T (positive y) → Number (div f x y)
unfolding div
div-number f nan y h above = absurd h
div-number f (inf sign) nan h above = absurd above
div-number f (inf sign) (inf t) h above = absurd above
div-number f (inf sign) (fin t size d) h above = tt
div-number f (fin sign m exponent) nan h above = absurd above
div-number f (fin sign m exponent) (inf t) h above = absurd above
div-number f (fin sign m exponent) (fin true size d) h above = absurd above
div-number f (fin sign m exponent) (fin false zero d) h above = absurd above
div-number f (fin sign m exponent) (fin false (suc size) d) h above = rw (eqb-suc-zero size) (round_number f (unlike sign false) (m * up exponent * down d) (suc size * up d * down exponent))

-- ---- an integer above zero, as a float
pub of_positive : (size : ℕ) → 0 < size → size ≤ 2 ^ 53 → T (positive (of_int binary64 (pos size)))
unfolding of_int
of_positive size above h = positive_of_value (round binary64 false size 1) size 1 (round_whole binary64 false size h) above

-- ---- no step of the lag is a NaN: where y and v are finite, what is kept in range is a number or an infinity
small : (f : ℕ) → f < 65536 → 10 + f ≤ 9007199254740992
small f h = omega arith

pub lagged-number : (y v : Float) (f : ℕ) → f < 65536 → T (finite y) → T (finite v) → Number (lagged y v f)
unfolding lagged
lagged-number y v f h above q =
    add-number binary64 y _ above
    (div-number binary64 _ _ (mul-ten-number binary64 _ (sub_number binary64 v y q (finite_number y above))) (of_positive (10 + f) (omega arith) (small f h)))
