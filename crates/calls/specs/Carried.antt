-- A state as bytes, in parts: power (0 or 1); the record's; u, the measured kind (0 none, 1 over, 2 under, 3 value), the 64 bits of y (0 unless
-- kind 3). And what making and an event leave of a state that is carried so.
-- Assumes nothing.
use Rattle.std.specs.Prelude.{ℕ, ◌+◌, Bool, cond, not, List, [], ◌∷◌, ◌++◌, map, eqb, leb, length, drop}
use Rattle.std.specs.Float.{binary64}
use Rattle.std.specs.Float.Ieee.{of_bits, to_bits, nan_bits}
use Rattle.field.specs.Field.{field}
use Rattle.field.specs.Row.{row}
use Rattle.bank.specs.Check.{found_in}
use Rattle.measure.specs.declared.Measured.{Measured}
use Rattle.position.specs.Tests.{both}
use Rattle.plain.specs.declared.Event.{Event}
use Rattle.plain.specs.declared.Refusal.{Refusal}
use Rattle.plain.specs.Record.{Part, widths_of, size_of, numbers_in, Checkpoint, parts, record_size, position_in, credits_in, alarms_in}
use Rattle.plain.specs.Setup.{Setup}
use Rattle.plain.specs.Answer.{is_accepted, Answer}
use Rattle.plain.specs.Refusals.{checked}
use Rattle.plain.specs.Event.{State, After, checkpoint_for, event_outcome, make_outcome}
use Rattle.std.specs.Prelude.{Err}
use Rattle.plain.specs.declared.AnyRefusal.{AnyRefusal}

-- ---- the bytes of a state

-- the kind of a measured value, and the bits of its y
unfoldable pub kind_of : Measured → ℕ
kind_of Measured.NoReading = 0
kind_of Measured.Over = 1
kind_of Measured.Under = 2
kind_of (Measured.Value y) = 3

unfoldable pub bits_of : Measured → ℕ
bits_of Measured.NoReading = 0
bits_of Measured.Over = 0
bits_of Measured.Under = 0
bits_of (Measured.Value y) = to_bits binary64 y

-- what the record has of a state
abbrev pub checkpoint_of : State → Checkpoint
checkpoint_of state = checkpoint_for state.run state.credits

abbrev pub of_state : Part Checkpoint → Part State
of_state part = record { widths = part.widths; numbers = λ state. part.numbers (checkpoint_of state) }

abbrev pub power_part : Part State
power_part = record { widths = 1 ∷ []; numbers = λ state. cond state.power 1 0 ∷ [] }

abbrev pub rest_part : Part State
rest_part =
    record {
      widths = 1 ∷ 1 ∷ 8 ∷ [];
      numbers = λ state. state.run.unsaved ∷ kind_of state.run.measured ∷ bits_of state.run.measured ∷ [];
    }

abbrev pub state_parts : List (Part State)
state_parts = power_part ∷ (map of_state parts ++ (rest_part ∷ []))

-- its size, and where the part behind the record's begins, power taking one byte
abbrev pub state_size : ℕ
state_size = size_of state_parts

abbrev pub rest_from : ℕ
rest_from = 1 + record_size

unfoldable pub state_bytes : State → List ℕ
state_bytes state = row (widths_of state_parts) (numbers_in state_parts state)

-- ---- the state that bytes are

unfoldable pub measured_as : ℕ → ℕ → Measured
measured_as kind bits =
    cond (eqb kind 1) Measured.Over
    (cond (eqb kind 2) Measured.Under
    (cond (eqb kind 3) (Measured.Value (of_bits binary64 bits)) Measured.NoReading))

unfoldable pub state_in : List ℕ → State
state_in bytes =
    record {
      power = eqb (field 1 bytes 0) 1;
      run =
          record {
            position = position_in (drop 1 bytes);
            unsaved = field 1 bytes rest_from;
            measured = measured_as (field 1 bytes (rest_from + 1)) (field 8 bytes (rest_from + 2));
            alarms = alarms_in (drop 1 bytes);
          };
      credits = credits_in (drop 1 bytes);
    }

-- whether a buffer has a state's size
unfoldable pub roomy : List ℕ → Bool
roomy bytes = eqb (length bytes) state_size

-- y's bits: no NaN's with a value, 0 without one
unfoldable pub bits_right : ℕ → ℕ → Bool
bits_right kind bits = cond (eqb kind 3) (not (nan_bits binary64 bits)) (eqb bits 0)

-- bytes that are a state: size, power, kind, y
unfoldable pub is_state : List ℕ → Bool
is_state bytes =
    both (roomy bytes)
    (both (leb (field 1 bytes 0) 1)
    (both (leb (field 1 bytes (rest_from + 1)) 3) (bits_right (field 1 bytes (rest_from + 1)) (field 8 bytes (rest_from + 2)))))

-- ---- what a call leaves of a state that is carried as bytes: its answer, the record and the bytes

pub record AfterCarried : Type 0 where
  pub answer : Answer
  pub store : List ℕ
  pub bytes : List ℕ

abbrev pub after_carried : Answer → List ℕ → List ℕ → AfterCarried
after_carried answer store bytes = record { answer = answer; store = store; bytes = bytes }

-- a refusal leaves the state's bytes
unfoldable pub carried_out : List ℕ → After → AfterCarried
carried_out bytes left = after_carried left.answer left.store (cond (is_accepted left.answer) (state_bytes left.state) bytes)

-- behind the bank's own refusals, 21 for bytes that are no state, or for a buffer that has no room for one
abbrev pub carried_if : Bool → Setup → List ℕ → List ℕ → AfterCarried → AfterCarried
carried_if right setup store bytes next =
    checked (found_in setup.bank) (λ answer. after_carried answer store bytes)
    (cond right next (after_carried (Err (AnyRefusal.Own Refusal.Unsound)) store bytes))

unfoldable pub make_carried : Setup → List ℕ → List ℕ → AfterCarried
make_carried setup store bytes = carried_if (roomy bytes) setup store bytes (carried_out bytes (make_outcome setup store))

unfoldable pub event_carried : Setup → List ℕ → List ℕ → Event → AfterCarried
event_carried setup store bytes event =
    carried_if (is_state bytes) setup store bytes (carried_out bytes (event_outcome setup store (state_in bytes) event))

-- a chain of calls: making, then an event each, given the record and the bytes that the call before left
unfoldable pub events_carried : Setup → AfterCarried → List Event → AfterCarried
events_carried setup left [] = left
events_carried setup left (event ∷ events) = events_carried setup (event_carried setup left.store left.bytes event) events

unfoldable pub chain : Setup → List ℕ → List ℕ → List Event → AfterCarried
chain setup store bytes events = events_carried setup (make_carried setup store bytes) events
