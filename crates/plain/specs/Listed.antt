-- A list of events as bytes: five bytes each, a kind, then the value as a signed 32-bit number, low byte first.
-- Assumes nothing.
use Rattle.std.specs.Prelude.{ℕ, ◌+◌, ◌/◌, ◌%◌, Bool, true, false, cond, List, [], ◌∷◌, ◌++◌, map, eqb, ℤ, pos, length}
use Rattle.std.specs.Int.{w32}
use Rattle.std.proofs.Common.{of_z}
use Rattle.field.specs.Field.{field, signed_field, digits}
use Rattle.field.specs.Tab.{tab}
use Rattle.measure.specs.declared.Reading.{Reading}
use Rattle.position.specs.Tests.{both, all}
use Rattle.position.specs.declared.Command.{Command}
use Rattle.plain.specs.declared.Event.{Event}
use Rattle.std.specs.Prelude.{Option, None, Some}

-- ---- kinds

-- 0 tick with a value, 1 tick over, 2 tick under, 3 select, 4 start, 5 pause, 6 reset, 7 feed, 8 back, 9 plus, 10 minus, 11 cut, 12 return with
-- a value, 13 return over, 14 return under
unfoldable pub event_of_kind : ℕ → ℤ → Option Event
event_of_kind kind v =
    cond (eqb kind 0) (Some (Event.Tick (Reading.Value v)))
    (cond (eqb kind 1) (Some (Event.Tick Reading.Over))
    (cond (eqb kind 2) (Some (Event.Tick Reading.Under))
    (cond (eqb kind 3) (Some (Event.Press (Command.Select v)))
    (cond (eqb kind 4) (Some (Event.Press Command.Start))
    (cond (eqb kind 5) (Some (Event.Press Command.Pause))
    (cond (eqb kind 6) (Some (Event.Press Command.Reset))
    (cond (eqb kind 7) (Some (Event.Press Command.Feed))
    (cond (eqb kind 8) (Some (Event.Press Command.Back))
    (cond (eqb kind 9) (Some (Event.Press Command.Plus))
    (cond (eqb kind 10) (Some (Event.Press Command.Minus))
    (cond (eqb kind 11) (Some Event.Cut)
    (cond (eqb kind 12) (Some (Event.Return (Reading.Value v)))
    (cond (eqb kind 13) (Some (Event.Return Reading.Over))
    (cond (eqb kind 14) (Some (Event.Return Reading.Under))
    None))))))))))))))

-- ---- a list that bytes are

-- what the five bytes at an offset ask for
unfoldable pub asked_at : List ℕ → ℕ → Option Event
asked_at bytes at = event_of_kind (field 1 bytes at) (signed_field w32 bytes (at + 1))

abbrev pub is_of : Option Event → Bool
is_of None = false
is_of (Some event) = true

-- a length that is a multiple of five, and known kinds alone
unfoldable pub formed : List ℕ → Bool
formed bytes = both (eqb (length bytes % 5) 0) (all (map is_of (tab (asked_at bytes) 5 0 (length bytes / 5))))

-- the events that are asked for
abbrev pub asked_events : List (Option Event) → List Event
asked_events [] = []
asked_events (None ∷ asked) = asked_events asked
asked_events (Some event ∷ asked) = event ∷ asked_events asked

unfoldable pub events_in : List ℕ → List Event
events_in bytes = asked_events (tab (asked_at bytes) 5 0 (length bytes / 5))

-- ---- the bytes of a list

unfoldable pub tick_kind : Reading → ℕ
tick_kind (Reading.Value v) = 0
tick_kind Reading.Over = 1
tick_kind Reading.Under = 2

unfoldable pub kind_of : Event → ℕ
kind_of (Event.Tick reading) = tick_kind reading
kind_of (Event.Press (Command.Select q)) = 3
kind_of (Event.Press Command.Start) = 4
kind_of (Event.Press Command.Pause) = 5
kind_of (Event.Press Command.Reset) = 6
kind_of (Event.Press Command.Feed) = 7
kind_of (Event.Press Command.Back) = 8
kind_of (Event.Press Command.Plus) = 9
kind_of (Event.Press Command.Minus) = 10
kind_of Event.Cut = 11
kind_of (Event.Return reading) = 12 + tick_kind reading

-- the value that an event brings, 0 if none
unfoldable pub reading_value : Reading → ℤ
reading_value (Reading.Value v) = v
reading_value Reading.Over = pos 0
reading_value Reading.Under = pos 0

unfoldable pub value_in : Event → ℤ
value_in (Event.Tick reading) = reading_value reading
value_in (Event.Press (Command.Select q)) = q
value_in (Event.Press Command.Start) = pos 0
value_in (Event.Press Command.Pause) = pos 0
value_in (Event.Press Command.Reset) = pos 0
value_in (Event.Press Command.Feed) = pos 0
value_in (Event.Press Command.Back) = pos 0
value_in (Event.Press Command.Plus) = pos 0
value_in (Event.Press Command.Minus) = pos 0
value_in Event.Cut = pos 0
value_in (Event.Return reading) = reading_value reading

unfoldable pub list_bytes : List Event → List ℕ
list_bytes [] = []
list_bytes (event ∷ events) = kind_of event ∷ (digits 4 (of_z w32 (value_in event)) ++ list_bytes events)
