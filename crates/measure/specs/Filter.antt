-- The measured value of document 01, in the order of its words. A float is one of IEEE 754 as the library has it, with each operation rounded once.
-- Assumes nothing.
use Rattle.std.specs.Prelude.{ℕ, ◌+◌, ◌*◌, ◌/◌, Bool, true, false, cond, ◌&&◌, ◌||◌, ℤ, pos, neg_ℤ, ◌==◌, int_lt, Float, Option, None, Some}
use Rattle.std.specs.Float.{nan, inf, fin, binary64}
use Rattle.std.specs.Float.Ieee.{add, sub, mul, div, le, of_int, up, down}
use Rattle.measure.specs.declared.Measured.{Measured}
use Rattle.measure.specs.declared.Reading.{Reading}

-- -19,999, 29,999 and 10
abbrev pub lowest : Float
lowest = fin true 19999 (pos 0)

abbrev pub highest : Float
highest = fin false 29999 (pos 0)

abbrev pub ten : Float
ten = fin false 5 (pos 1)

-- "y + ((v − y) × 10) / (10 + F), each operation rounded once in that order"; f is F, tenths of a second
unfoldable pub lagged : Float → Float → ℕ → Float
lagged y v f = add binary64 y (div binary64 (mul binary64 (sub binary64 v y) ten) (of_int binary64 (pos (10 + f))))

-- "then kept within −19,999 and 29,999". A NaN, which no sound y and no reading in range lead to, would be kept at −19,999
unfoldable pub kept : Float → Float
kept x = cond (le lowest x) (cond (le x highest) x highest) lowest

-- "A value reading v with no y before it, or F = 0, gives y = v. Otherwise y becomes .."
abbrev pub value_after : Measured → Float → ℕ → Float
value_after Measured.NoReading v f = v
value_after Measured.Over v f = v
value_after Measured.Under v f = v
value_after (Measured.Value y) v f = cond (f == 0) v (kept (lagged y v f))

-- what a tick's reading makes of the measured value: "Over or under replaces it"
unfoldable pub after_of : Measured → Reading → ℕ → Measured
after_of m Reading.Over f = Measured.Over
after_of m Reading.Under f = Measured.Under
after_of m (Reading.Value v) f = Measured.Value (value_after m (of_int binary64 v) f)

-- "takes its reading as a first reading": one with no y before it
unfoldable pub first_of : Reading → Measured
first_of Reading.Over = Measured.Over
first_of Reading.Under = Measured.Under
first_of (Reading.Value v) = Measured.Value (of_int binary64 v)

-- y "within −19,999 and 29,999", which no NaN is
unfoldable pub within : Float → Bool
within y = le lowest y && le y highest

-- a / d to the nearest whole number, a half up
abbrev pub half_up : ℕ → ℕ → ℕ
half_up a d = (2 * a + d) / (2 * d)

abbrev pub signed : Bool → ℕ → ℤ
signed true size = neg_ℤ (pos size)
signed false size = pos size

-- "y to the nearest whole number, halves away from zero": of a sign and a size m * up exponent / down exponent
abbrev pub rounded : Float → ℤ
rounded nan = pos 0
rounded (inf sign) = pos 0
rounded (fin sign m exponent) = signed sign (half_up (m * up exponent) (down exponent))

-- the same, and 0 where y is not within the range
unfoldable pub nearest : Float → ℤ
nearest y = cond (within y) (rounded y) (pos 0)

-- "the measured whole value", where there is "a filtered value"
unfoldable pub whole_of : Measured → Option ℤ
whole_of Measured.NoReading = None
whole_of Measured.Over = None
whole_of Measured.Under = None
whole_of (Measured.Value y) = Some (nearest y)

-- "any y lies within −19,999 and 29,999"
unfoldable pub sound_of : Measured → Bool
sound_of Measured.NoReading = true
sound_of Measured.Over = true
sound_of Measured.Under = true
sound_of (Measured.Value y) = within y

-- refusal 25: "reading outside the temperature range"
unfoldable pub outside_of : Reading → Bool
outside_of Reading.Over = false
outside_of Reading.Under = false
outside_of (Reading.Value v) = int_lt v (neg_ℤ (pos 19999)) || int_lt (pos 29999) v
