-- A state is read back from its bytes.
-- Assumes nothing.
use Prim.Native.Nat.{ℕ, ◌+◌, ◌<◌}
use mathlib.Core.Path.{◌≡◌, refl, sym, ap, ◌∙◌}
use mathlib.Core.Bool.{Bool, true, false, cond, not}
use mathlib.Core.List.{List, [], ◌∷◌, append-nil}
use native.Mathlib.Omega.{arith}
use borrow.Author.Tests.{eq-eqb}
use lib.Dec.{T as Holds, eqb, leb}
use lib.Ieee.{binary64, fits, is_nan, to_bits}
use lib.Ieee.Bits.{is_false, of_bits-to_bits, to_bits-lt, nan_bits_is}
use lib.ListN.{length, drop, get_or, length-replicate}
use lib.Seq.{drop-drop}
use mir.Facts.{to_z-of_z}
use Rattle.field.specs.Field.{field, signed_field}
use Rattle.field.specs.Row.{row_at, total}
use Rattle.field.proofs.Rows.{held, none, length-row}
use Rattle.measure.specs.declared.Measured.{Measured}
use Rattle.position.specs.Tests.{both}
use Rattle.alarm.specs.Part.{alarm_widths}
use Rattle.alarm.proofs.Written.{alarms_from as numbered-alarms, alarms-row}
use Rattle.plain.specs.Record.{widths_of, numbers_in, position_widths, credit_widths, position_in, credits_in, alarms_in}
use Rattle.plain.specs.Event.{State}
use Rattle.plain.proofs.Record.{Ranged, Within, Stand, length-parts, stand-written, within, position_from}
use Rattle.calls.specs.Carried.{kind_of, bits_of, checkpoint_of, state_parts, state_size, state_bytes, measured_as, state_in, roomy, bits_right, is_state}

-- ---- numbers behind an offset

fields-behind : (width : ℕ) (bytes : List ℕ) (from at : ℕ) → field width (drop from bytes) at ≡ field width bytes (from + at)
unfolding field
fields-behind width bytes from at = rw (drop-drop at from bytes)

pub rows-from : (widths bytes : List ℕ) (from at : ℕ) → row_at widths (drop from bytes) at ≡ row_at widths bytes (from + at)
unfolding row_at
rows-from [] bytes from at = refl
rows-from (width ∷ widths) bytes from at =
    let next : from + (at + width) ≡ from + at + width = omega arith in
    λ i. fields-behind width bytes from at i ∷ (rows-from widths bytes from (at + width) ∙ ap (row_at widths bytes) next) i

-- ---- the measured value

-- a y that is a 64-bit number, and no NaN
abbrev pub Numeric : Measured → Type 0
Numeric Measured.NoReading = Unit {0}
Numeric Measured.Over = Unit {0}
Numeric Measured.Under = Unit {0}
Numeric (Measured.Value y) = Holds (fits binary64 y) × Holds (not (is_nan y))

bits_below : (value : Measured) → Numeric value → bits_of value < 18446744073709551616
unfolding bits_of
bits_below Measured.NoReading in-range = omega arith
bits_below Measured.Over in-range = omega arith
bits_below Measured.Under in-range = omega arith
bits_below (Measured.Value y) in-range = to_bits-lt binary64 y in-range.0

pub kind-below : (value : Measured) → kind_of value < 256
unfolding kind_of
kind-below Measured.NoReading = omega arith
kind-below Measured.Over = omega arith
kind-below Measured.Under = omega arith
kind-below (Measured.Value y) = omega arith

pub measured-back : (value : Measured) → Numeric value → measured_as (kind_of value) (bits_of value) ≡ value
unfolding measured_as kind_of bits_of
measured-back Measured.NoReading in-range = refl
measured-back Measured.Over in-range = refl
measured-back Measured.Under in-range = refl
measured-back (Measured.Value y) in-range = ap Measured.Value (of_bits-to_bits binary64 y in-range.0)

kind-right : (value : Measured) → Numeric value → both (leb (kind_of value) 3) (bits_right (kind_of value) (bits_of value)) ≡ true
unfolding kind_of bits_of bits_right both
kind-right Measured.NoReading in-range = refl
kind-right Measured.Over in-range = refl
kind-right Measured.Under in-range = refl
kind-right (Measured.Value y) in-range =
    ap not (nan_bits_is binary64 (to_bits binary64 y) ∙ ap is_nan (of_bits-to_bits binary64 y in-range.0) ∙ is_false (is_nan y) in-range.1)

-- ---- power

power_below : (test : Bool) → cond test 1 0 < 256
power_below true = omega arith
power_below false = omega arith

power-back : (test : Bool) → eqb (cond test 1 0) 1 ≡ test
power-back true = refl
power-back false = refl

power-right : (test : Bool) → leb (cond test 1 0) 1 ≡ true
power-right true = refl
power-right false = refl

-- ---- a state whose numbers are in their types' ranges

pub record Carriable (state : State) : Type 0 where
  pub retained : Ranged (checkpoint_of state)
  pub unsaved : state.run.unsaved < 256
  pub measured : Numeric state.run.measured

module _ (state : State) (in-range : Carriable state) where
  all-within : Within state state_parts
  all-within =
      let value = state.run.measured in
      let retained = within (checkpoint_of state) in-range.retained in (
        held (power_below state.power) none,
        (
          retained.0,
          (
            retained.1.0,
            (retained.1.1.0, (held in-range.unsaved (held (kind-below value) (held (bits_below value in-range.measured) none)), tt)),
          ),
        ),
      )

  stands : Stand state state_parts (state_bytes state) 0
  unfolding state_bytes
  stands = stand-written state state_parts (state_bytes state) [] 0 all-within (sym (append-nil (state_bytes state)))

  pub length-state : length (state_bytes state) ≡ state_size
  unfolding state_bytes credit_widths
  length-state =
      length-row (widths_of state_parts) (numbers_in state_parts state)
      (length-parts state state_parts (refl, (refl, (length-replicate {A = ℕ} 99 4 ∙ sym in-range.retained.long, (refl, (refl, tt))))))

  -- its bytes are read as the state
  pub state-back : state_in (state_bytes state) ≡ state
  unfolding state_in position_in credits_in alarms_in credit_widths signed_field row_at widths_of total
  state-back =
      let bytes = state_bytes state in
      let position : position_in (drop 1 bytes) ≡ state.run.position =
      ap position_from (rows-from position_widths bytes 1 0 ∙ stands.1.0) ∙ rw (to_z-of_z in-range.retained.base) in
      let credits = rows-from credit_widths bytes 1 _ ∙ stands.1.1.0 in
      let alarms : alarms_in (drop 1 bytes) ≡ state.run.alarms =
      alarms-row (drop 1 bytes) _ ∙ ap numbered-alarms (rows-from alarm_widths bytes 1 _ ∙ stands.1.1.1.0) in
      let rest = stands.1.1.1.1.0 in
      λ i. record {
        power = (ap (λ (numbers : List ℕ). eqb (get_or numbers 0 0) 1) stands.0 ∙ power-back state.power) i;
        run = record {
          position = position i;
          unsaved = ap (λ (numbers : List ℕ). get_or numbers 0 0) rest i;
          measured =
              (ap (λ (numbers : List ℕ). measured_as (get_or numbers 1 0) (get_or numbers 2 0)) rest ∙ measured-back state.run.measured in-range.measured) i;
          alarms = alarms i;
        };
        credits = credits i;
      }

  -- and are a state
  pub is_state_lem : is_state (state_bytes state) ≡ true
  unfolding is_state roomy both credit_widths row_at widths_of total
  is_state_lem =
      let rest = stands.1.1.1.1.0 in
      let judged : ℕ → List ℕ → Bool = λ power numbers. both (leb power 1) (both (leb (get_or numbers 1 0) 3) (bits_right (get_or numbers 1 0) (get_or numbers 2 0))) in
      rw (eq-eqb _ _ length-state)
      ((λ i. judged (get_or (stands.0 i) 0 0) (rest i)) ∙ rw (power-right state.power) (kind-right state.run.measured in-range.measured))
