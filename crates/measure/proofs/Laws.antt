-- The laws of the measured value that callers cite.
-- Assumes nothing.
use Rattle.std.proofs.Common.{◌≡◌, ℕ, ◌*◌, ◌<◌, Bool, true, false, cond, not, T, eqb, ℤ, pos, sym, refl, ap, ◌∙◌, subst, lit≤}
use mathlib.Core.Bool.{false≢true}
use lib.Ieee.{Float, nan, inf, fin, binary64, up, down, lt, le, of_int, fits, is_nan}
use lib.Ieee.Fits.{down_pos, cond-fits, add-fits, of_int-fits}
use Rattle.measure.specs.Filter.{lowest, highest, kept, lagged, after_of, first_of, within, sound_of, outside_of, half_up, rounded, nearest, whole_of}
use Rattle.measure.specs.Bound.{end, Close, CloseTo, Near}
use Rattle.measure.specs.declared.Measured.{Measured}
use Rattle.measure.specs.declared.Reading.{Reading}
use Rattle.measure.proofs.Number.{Number, lagged-number}
use Rattle.measure.proofs.Order as order
use Rattle.measure.proofs.Range.{InRange, inside, within-true, within-finite, of-within, in-range, not-outside, exact, after-within}
use Rattle.measure.proofs.Nearest.{half_up-near, half_up-range, nearest-range, rounded-exact}
use Rattle.std.specs.Prelude.{Option, None, Some}

-- ---- over and under replace the measured value, and a first reading is one with no reading before it
pub over-replaces : (m : Measured) (f : ℕ) → after_of m Reading.Over f ≡ Measured.Over
unfolding after_of
over-replaces m f = refl

pub under-replaces : (m : Measured) (f : ℕ) → after_of m Reading.Under f ≡ Measured.Under
unfolding after_of
under-replaces m f = refl

pub first-after : (reading : Reading) (f : ℕ) → first_of reading ≡ after_of Measured.NoReading reading f
unfolding first_of after_of
first-after Reading.Over f = refl
first-after Reading.Under f = refl
first-after (Reading.Value v) f = refl

-- ---- after a reading that refusal 25 does not meet, the measured value is sound, whatever it was before
pub after-sound : (m : Measured) (reading : Reading) (f : ℕ) → outside_of reading ≡ false → sound_of (after_of m reading f) ≡ true
unfolding after_of sound_of
after-sound m Reading.Over f h = refl
after-sound m Reading.Under f h = refl
after-sound m (Reading.Value v) f h = within-true _ (after-within m (of_int binary64 v) f (of-within v (in-range v h)))

pub first-sound : (reading : Reading) → outside_of reading ≡ false → sound_of (first_of reading) ≡ true
first-sound reading h = ap sound_of (first-after reading 0) ∙ after-sound Measured.NoReading reading 0 h

-- ---- no NaN arises: the lag of a sound y and a reading in range is a number, at which `kept` is the usual clamp
pub lag-number : (y : Float) (v : ℤ) (f : ℕ) → f < 65536 → sound_of (Measured.Value y) ≡ true → outside_of (Reading.Value v) ≡ false → Number (lagged y (of_int binary64 v) f)
unfolding sound_of
lag-number y v f small h g = lagged-number y (of_int binary64 v) f small (within-finite y (inside y h)) (within-finite (of_int binary64 v) (of-within v (in-range v g)))

pub kept-clamp : (x : Float) → Number x → kept x ≡ cond (lt x lowest) lowest (cond (lt highest x) highest x)
kept-clamp = order.kept-clamp

-- ---- the whole value is the nearest
whole-close : (sign : Bool) (m : ℕ) (exponent : ℤ) → within (fin sign m exponent) ≡ true → Close sign (m * up exponent) (down exponent) (Some (nearest (fin sign m exponent)))
unfolding nearest
whole-close sign m exponent h =
    let near = half_up-near (m * up exponent) (down exponent) (down_pos exponent) in
    record {
      whole = half_up (m * up exponent) (down exponent);
      is = ap (λ (t : Bool). Some (cond t (rounded (fin sign m exponent)) (pos 0))) h;
      not-over = near.0;
      not-under = near.1;
      in-range = half_up-range (m * up exponent) (down exponent) (end sign) (down_pos exponent) (inside (fin sign m exponent) h);
    }

pub whole-near : (m : Measured) → Near m (whole_of m)
unfolding whole_of
whole-near Measured.NoReading = refl
whole-near Measured.Over = refl
whole-near Measured.Under = refl
whole-near (Measured.Value y) = close y
  where
    close : (y : Float) → CloseTo y (Some (nearest y))
    close nan = tt
    close (inf sign) = tt
    close (fin sign m exponent) = λ h. whole-close sign m exponent h

-- ---- a measured whole value is a temperature
-- the number of a whole value, 0 where there is none
abbrev number : Option ℤ → ℤ
number None = pos 0
number (Some z) = z

number-range : (m : Measured) → InRange (number (whole_of m))
unfolding whole_of
number-range Measured.NoReading = lit≤ tt
number-range Measured.Over = lit≤ tt
number-range Measured.Under = lit≤ tt
number-range (Measured.Value y) = nearest-range y

pub whole-range : (m : Measured) (z : ℤ) → whole_of m ≡ Some z → outside_of (Reading.Value z) ≡ false
whole-range m z same = not-outside z (subst InRange (ap number same) (number-range m))

-- ---- the whole value of a first reading in range is that reading
pub first-whole : (v : ℤ) → outside_of (Reading.Value v) ≡ false → whole_of (first_of (Reading.Value v)) ≡ Some v
unfolding whole_of first_of nearest
first-whole v h =
    let known = in-range v h in
    ap (λ (t : Bool). Some (cond t (rounded (of_int binary64 v)) (pos 0))) (within-true (of_int binary64 v) (of-within v known))
    ∙ ap Some (rounded-exact (of_int binary64 v) v (exact v known))

-- ---- what is measured is a 64-bit float

abbrev pub Fits64 : Measured → Type 0
Fits64 Measured.NoReading = Unit {0}
Fits64 Measured.Over = Unit {0}
Fits64 Measured.Under = Unit {0}
Fits64 (Measured.Value y) = T (fits binary64 y)

kept-fits : (x : Float) → T (fits binary64 x) → T (fits binary64 (kept x))
unfolding kept fits
kept-fits x h = cond-fits binary64 (le lowest x) _ _ (cond-fits binary64 (le x highest) x highest h tt) tt

pub after-fits : (m : Measured) (reading : Reading) (f : ℕ) → Fits64 (after_of m reading f)
unfolding after_of lagged
after-fits m Reading.Over f = tt
after-fits m Reading.Under f = tt
after-fits Measured.NoReading (Reading.Value v) f = of_int-fits binary64 v
after-fits Measured.Over (Reading.Value v) f = of_int-fits binary64 v
after-fits Measured.Under (Reading.Value v) f = of_int-fits binary64 v
after-fits (Measured.Value y) (Reading.Value v) f =
    cond-fits binary64 (eqb f 0) (of_int binary64 v) (kept (lagged y (of_int binary64 v) f)) (of_int-fits binary64 v) (kept-fits _ (add-fits binary64 _ _))

pub first_fits : (reading : Reading) → Fits64 (first_of reading)
first_fits reading = subst Fits64 (sym (first-after reading 0)) (after-fits Measured.NoReading reading 0)

-- and a sound one is no NaN
pub sound-number : (y : Float) → sound_of (Measured.Value y) ≡ true → T (not (is_nan y))
unfolding sound_of within is_nan le
sound-number nan h = absurd (false≢true h)
sound-number (inf x) h = tt
sound-number (fin x m i) h = tt
