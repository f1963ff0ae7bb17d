-- The laws of a list of events as bytes: walking it, and every list of events can be written.
-- Assumes nothing.
use Prim.Native.Nat.{ℕ, suc, ◌+◌, ◌*◌, ◌-◌, ◌/◌, ◌%◌, ◌≤◌, ◌<◌}
use mathlib.Core.Path.{◌≡◌, refl, sym, ap, ◌∙◌}
use mathlib.Core.Bool.{true, false}
use mathlib.Core.List.{List, [], ◌∷◌, map}
use native.Mathlib.Nat.{add-zero}
use native.Mathlib.Omega.{arith}
use borrow.Author.Tests.{eq-eqb, ne_eqb}
use lib.Dec.{eqb}
use lib.IntN.{ℤ}
use lib.ListN.{length, take, drop, replicate, length-append}
use lib.Seq.{drop-drop}
use mir.Syntax.{w32}
use mir.Val.{SFits, of_z}
use Rattle.field.specs.Field.{num, field, signed_field, digits}
use Rattle.field.specs.Tab.{tab}
use Rattle.field.proofs.Laws.{length_digits, signed-at}
use Rattle.capacity.proofs.Table.{at as in_table}
use Rattle.measure.specs.declared.Reading.{Reading}
use Rattle.position.specs.Tests.{both, all}
use Rattle.position.specs.declared.Command.{Command}
use Rattle.plain.specs.declared.Event.{Event}
use Rattle.plain.specs.Listed.{event_of_kind, asked_at, is_of, formed, asked_events, events_in, tick_kind, kind_of, reading_value, value_in, list_bytes}
use Rattle.std.specs.Prelude.{Option, None, Some}

-- ---- kinds: 0 to 14 are known, and no other

pub known : (kind : ℕ) (v : ℤ) → kind ≤ 14 → is_of (event_of_kind kind v) ≡ true
unfolding event_of_kind both
known kind v fits = in_table (λ i entry. is_of (event_of_kind i v)) (replicate 15 0) refl kind (omega arith)

pub unknown : (kind : ℕ) (v : ℤ) → 14 < kind → event_of_kind kind v ≡ None
unfolding event_of_kind
unknown kind v fits =
    rw (
      apart 0 (omega arith),
      apart 1 (omega arith),
      apart 2 (omega arith),
      apart 3 (omega arith),
      apart 4 (omega arith),
      apart 5 (omega arith),
      apart 6 (omega arith),
      apart 7 (omega arith),
      apart 8 (omega arith),
      apart 9 (omega arith),
      apart 10 (omega arith),
      apart 11 (omega arith),
      apart 12 (omega arith),
      apart 13 (omega arith),
      apart 14 (omega arith),
    )
  where
    apart : (i : ℕ) → i < kind → eqb kind i ≡ false
    apart i low = ne_eqb kind i (λ same. omega arith)

-- ---- walking a list, five bytes at a time

module _ (bytes : List ℕ) where
  -- what is asked for from an offset on
  abbrev pub asked_from : ℕ → List (Option Event)
  asked_from at = tab (asked_at bytes) 5 at ((length bytes - at) / 5)

  pub asked-more : (at : ℕ) → at + 5 ≤ length bytes → asked_from at ≡ asked_at bytes at ∷ asked_from (at + 5)
  unfolding tab
  asked-more at fits = let more : (length bytes - at) / 5 ≡ suc ((length bytes - (at + 5)) / 5) = omega arith in rw more

  pub asked-end : (at : ℕ) → length bytes < at + 5 → asked_from at ≡ []
  unfolding tab
  asked-end at fits = let none : (length bytes - at) / 5 ≡ 0 = omega arith in rw none

  -- an offset at which an event begins, or at which the list ends
  pub record Begins (at : ℕ) : Type 0 where
    pub inside : at ≤ length bytes
    pub fives : (length bytes - at) % 5 ≡ 0

  pub begins-more : (at : ℕ) → Begins at → at < length bytes → at + 5 ≤ length bytes
  begins-more at fits low = omega arith

  pub begins-next : (at : ℕ) → Begins at → at < length bytes → Begins (at + 5)
  begins-next at fits low = let more = begins-more at fits low in record { inside = more; fives = omega arith }

  pub begins-first : length bytes % 5 ≡ 0 → Begins 0
  begins-first fits = record { inside = omega arith; fives = omega arith }

  -- bytes in fives are a list if all that they ask for is known
  pub formed-first : length bytes % 5 ≡ 0 → all (map is_of (asked_from 0)) ≡ formed bytes
  unfolding formed both
  formed-first fits = let whole : length bytes - 0 ≡ length bytes = omega arith in rw (whole, eq-eqb (length bytes % 5) 0 fits)

  pub not-fives : (length bytes % 5 ≡ 0 → ⊥) → formed bytes ≡ false
  unfolding formed both
  not-fives fits = rw (ne_eqb (length bytes % 5) 0 fits)

  -- what the five bytes at an offset ask for is known by its kind alone
  known_at : (at : ℕ) → field 1 bytes at ≤ 14 → is_of (asked_at bytes at) ≡ true
  unfolding asked_at
  known_at at fits = known (field 1 bytes at) _ fits

  unknown-at : (at : ℕ) → 14 < field 1 bytes at → is_of (asked_at bytes at) ≡ false
  unfolding asked_at
  unknown-at at fits = ap is_of (unknown (field 1 bytes at) _ fits)

  module _ (at : ℕ) (fits : at + 5 ≤ length bytes) where
    pub known_next : field 1 bytes at ≤ 14 → all (map is_of (asked_from (at + 5))) ≡ all (map is_of (asked_from at))
    unfolding all both
    known_next low = sym (ap (λ asked. all (map is_of asked)) (asked-more at fits) ∙ rw (known_at at low))

    pub unknown-next : 14 < field 1 bytes at → all (map is_of (asked_from at)) ≡ false
    unfolding all both
    unknown-next low = ap (λ asked. all (map is_of asked)) (asked-more at fits) ∙ rw (unknown-at at low)

  pub known-end : (at : ℕ) → length bytes ≤ at → all (map is_of (asked_from at)) ≡ true
  unfolding all
  known-end at fits = ap (λ asked. all (map is_of asked)) (asked-end at (omega arith))

-- ---- every list of events whose values fit 32 bits can be written

abbrev pub InRange : List Event → Type 0
InRange [] = Unit {0}
InRange (event ∷ events) = SFits w32 (value_in event) × InRange events

-- bytes that are a list of these events
pub record Lists (bytes : List ℕ) (events : List Event) : Type 0 where
  pub is-list : formed bytes ≡ true
  pub holds : events_in bytes ≡ events

-- each event is the one that its kind and value ask for
kind-asks : (event : Event) → event_of_kind (kind_of event) (value_in event) ≡ Some event
unfolding event_of_kind kind_of tick_kind value_in reading_value
kind-asks (Event.Tick (Reading.Value v)) = refl
kind-asks (Event.Tick Reading.Over) = refl
kind-asks (Event.Tick Reading.Under) = refl
kind-asks (Event.Press (Command.Select v)) = refl
kind-asks (Event.Press Command.Start) = refl
kind-asks (Event.Press Command.Pause) = refl
kind-asks (Event.Press Command.Reset) = refl
kind-asks (Event.Press Command.Feed) = refl
kind-asks (Event.Press Command.Back) = refl
kind-asks (Event.Press Command.Plus) = refl
kind-asks (Event.Press Command.Minus) = refl
kind-asks Event.Cut = refl
kind-asks (Event.Return (Reading.Value v)) = refl
kind-asks (Event.Return Reading.Over) = refl
kind-asks (Event.Return Reading.Under) = refl

length-list : (events : List Event) → length (list_bytes events) ≡ 5 * length events
unfolding list_bytes
length-list [] = refl
length-list (event ∷ events) =
    simp length-append (omega (arith, length_digits 4 (of_z w32 (value_in event)), length-list events))

-- in bytes that have the bytes of events from an offset on: its kind, its value, what they ask for, and the other events
module _ (event : Event) (events : List Event) (bytes : List ℕ) (at : ℕ) (same : drop at bytes ≡ list_bytes (event ∷ events)) where
  kind_at : field 1 bytes at ≡ kind_of event
  unfolding field num list_bytes
  kind_at = ap (λ (low : List ℕ). num (take 1 low)) same ∙ add-zero (kind_of event)

  value-at : SFits w32 (value_in event) → signed_field w32 bytes (at + 1) ≡ value_in event
  unfolding list_bytes
  value-at fits = signed-at w32 bytes (at + 1) (value_in event) (list_bytes events) fits (sym (drop-drop 1 at bytes) ∙ ap (drop 1) same)

  asked-first : SFits w32 (value_in event) → asked_at bytes at ≡ Some event
  unfolding asked_at
  asked-first fits = (λ i. event_of_kind (kind_at i) (value-at fits i)) ∙ kind-asks event

  others-at : drop (at + 5) bytes ≡ list_bytes events
  unfolding list_bytes digits
  others-at = sym (drop-drop 5 at bytes) ∙ ap (drop 5) same

-- such bytes ask for the events
asked-written : (events : List Event) (bytes : List ℕ) (at : ℕ) → InRange events → drop at bytes ≡ list_bytes events
    → tab (asked_at bytes) 5 at (length events) ≡ map Some events
unfolding tab
asked-written [] bytes at fits same = refl
asked-written (event ∷ events) bytes at fits same =
    let others = others-at event events bytes at same in
    λ i. asked-first event events bytes at same fits.0 i ∷ asked-written events bytes (at + 5) fits.1 others i

all_known : (events : List Event) → all (map is_of (map Some events)) ≡ true
unfolding all both
all_known [] = refl
all_known (event ∷ events) = all_known events

asked-events : (events : List Event) → asked_events (map Some events) ≡ events
asked-events [] = refl
asked-events (event ∷ events) = ap (λ (low : List Event). event ∷ low) (asked-events events)

pub written-list : (events : List Event) → InRange events → Lists (list_bytes events) events
unfolding formed events_in both
written-list events fits =
    let bytes = list_bytes events in
    let size = length-list events in
    let fives : length bytes % 5 ≡ 0 = omega arith in
    let number : length bytes / 5 ≡ length events = omega arith in
    let asked : tab (asked_at bytes) 5 0 (length bytes / 5) ≡ map Some events = rw number (asked-written events bytes 0 fits refl) in
    record {
      is-list = rw (eq-eqb (length bytes % 5) 0 fives, asked) (all_known events);
      holds = ap asked_events asked ∙ asked-events events;
    }
