-- How near the measured whole value is to y, over scaled integers.
-- Assumes nothing.
use Rattle.std.specs.Prelude.{◌≡◌, ℕ, ◌+◌, ◌*◌, ◌<◌, ◌≤◌, Bool, true, false, Float, Option, None, Some, ℤ}
use Rattle.std.specs.Float.{nan, inf, fin}
use Rattle.std.specs.Float.Ieee.{up, down}
use Rattle.measure.specs.Filter.{within, signed}
use Rattle.measure.specs.declared.Measured.{Measured}

-- the end of the temperature range at a sign, −19,999 or 29,999
abbrev pub end : Bool → ℕ
end true = 19999
end false = 29999

-- the whole value x of y = ±a / d is ±whole, within half of 1 of y: 2 × |whole × d − a| ≤ d, and at a half the one that is further from
-- zero; it is in the range
pub record Close (sign : Bool) (a d : ℕ) (x : Option ℤ) : Type 0 where
  pub whole : ℕ
  pub is : x ≡ Some (signed sign whole)
  pub not-over : 2 * (whole * d) ≤ 2 * a + d
  pub not-under : 2 * a < 2 * (whole * d) + d
  pub in-range : whole ≤ end sign

-- of a finite y, of a sign and a size m * up exponent / down exponent, that lies within the range
abbrev pub CloseTo : Float → Option ℤ → Type 0
CloseTo nan x = Unit {0}
CloseTo (inf sign) x = Unit {0}
CloseTo (fin sign m exponent) x = within (fin sign m exponent) ≡ true → Close sign (m * up exponent) (down exponent) x

-- of a measured value
abbrev pub Near : Measured → Option ℤ → Type 0
Near Measured.NoReading x = x ≡ None
Near Measured.Over x = x ≡ None
Near Measured.Under x = x ≡ None
Near (Measured.Value y) x = CloseTo y x
