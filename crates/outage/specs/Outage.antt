-- A machine with a record in retained memory, over any state, record, event and answer; its replay machine; and what remains of a list.
-- Assumes nothing.
use Rattle.std.specs.Prelude.{Bool, true, false, cond, List, [], ◌∷◌}

-- an event of the list: a cut, a return with what it brings, or any other
pub data Listed (E Q : Type 0) : Type 0 where
  other : E → Listed E Q
  cut : Listed E Q
  back : Q → Listed E Q

-- an event of what remains: with each return goes whether power was on
pub data Kept (E Q : Type 0) : Type 0 where
  plain : E → Kept E Q
  back_on : Q → Kept E Q
  back-off : Q → Kept E Q

-- what remains, built from the front: the newest event stands last
pub data Remaining (E Q : Type 0) : Type 0 where
  none : Remaining E Q
  ◌▹◌ : Remaining E Q → Kept E Q → Remaining E Q

infixl 20 ◌▹◌
-- the machine: states S with power on, records R, answers A, events E, what a return brings Q
pub record Machine : Type 1 where
  pub S : Type 0
  pub R : Type 0
  pub A : Type 0
  pub E : Type 0
  pub Q : Type 0
  -- the fresh state, and the answer to making it
  pub fresh : S
  pub made : A
  -- an event on a state: the state that it leaves and its answer, refusals included; and whether it saves
  pub run : S → E → S × A
  pub saves : S → E → Bool
  -- the answer to a return with power on, and to a cut
  pub refused-on : S → Q → A
  pub cut-answer : A
  -- with power off: whether a return is accepted, and the answer to all that is refused, which may depend on the record
  pub accepts : Q → Bool
  pub refused-off : R → Listed E Q → A
  -- a return applied to a state; the record of a state; a return that brings back a record
  pub return : S → Q → S × A
  pub write : S → R
  pub restore : R → Q → S × A

-- a list of a machine's events, and what remains of one
abbrev pub Events : Machine → Type 0
Events M = List (Listed M.E M.Q)

abbrev pub RemainingOf : Machine → Type 0
RemainingOf M = Remaining M.E M.Q

module _ (M : Machine) where
  -- ---- the machine with power and record

  pub data Power : Type 0 where
    on : M.S → Power
    off : Power

  pub record Held : Type 0 where
    pub power : Power
    pub rec : M.R
    pub answer : M.A

  -- making saves before any event
  abbrev pub start : Held
  start = record { power = on M.fresh; rec = M.write M.fresh; answer = M.made }

  -- a return with power off brings back the record, and saves
  abbrev pub off-back : Bool → M.R → M.Q → Held
  off-back true store given =
      record {
        power = on (M.restore store given).0;
        rec = M.write (M.restore store given).0;
        answer = (M.restore store given).1;
      }
  off-back false store given = record { power = off; rec = store; answer = M.refused-off store (back given) }

  -- an event; a cut turns power off and loses all state but the record
  abbrev pub step : Power → M.R → Listed M.E M.Q → Held
  step (on state) store (other event) =
      record {
        power = on (M.run state event).0;
        rec = cond (M.saves state event) (M.write (M.run state event).0) store;
        answer = (M.run state event).1;
      }
  step (on state) store cut = record { power = off; rec = store; answer = M.cut-answer }
  step (on state) store (back given) = record { power = on state; rec = store; answer = M.refused-on state given }
  step off store (other event) = record { power = off; rec = store; answer = M.refused-off store (other event) }
  step off store cut = record { power = off; rec = store; answer = M.refused-off store cut }
  step off store (back given) = off-back (M.accepts given) store given

  unfoldable pub steps : Held → Events M → Held
  steps held [] = held
  steps held (event ∷ events) = steps (step held.power held.rec event) events

  -- ---- the replay machine, which keeps no record and is always on

  abbrev pub replay1 : M.S → Kept M.E M.Q → M.S × M.A
  replay1 state (plain event) = M.run state event
  replay1 state (back_on given) = (state, M.refused-on state given)
  replay1 state (back-off given) = M.return state given

  -- whether an event of what remains saves
  abbrev pub saves1 : M.S → Kept M.E M.Q → Bool
  saves1 state (plain event) = M.saves state event
  saves1 state (back_on given) = false
  saves1 state (back-off given) = true

  unfoldable pub replay : RemainingOf M → M.S × M.A
  replay none = (M.fresh, M.made)
  replay (past ▹ event) = replay1 (replay past).0 event

  -- ---- what remains

  -- every event after the last one that saves is struck out; all, if none does
  unfoldable pub strike : RemainingOf M → RemainingOf M
  strike none = none
  strike (past ▹ event) = cond (saves1 (replay past).0 event) (past ▹ event) (strike past)

  pub record Built : Type 0 where
    pub is-on : Bool
    pub remaining : RemainingOf M

  -- a return with power off that is accepted turns it on: the events are struck out, then it is added
  abbrev pub built-off : Bool → RemainingOf M → M.Q → Built
  built-off true past given = record { is-on = true; remaining = strike past ▹ back-off given }
  built-off false past given = record { is-on = false; remaining = past }

  -- with power on, a cut turns it off, and any other event, refused or not, is added; with power off all else is not added
  abbrev pub build1 : Bool → RemainingOf M → Listed M.E M.Q → Built
  build1 true past (other event) = record { is-on = true; remaining = past ▹ plain event }
  build1 true past cut = record { is-on = false; remaining = past }
  build1 true past (back given) = record { is-on = true; remaining = past ▹ back_on given }
  build1 false past (other event) = record { is-on = false; remaining = past }
  build1 false past cut = record { is-on = false; remaining = past }
  build1 false past (back given) = built-off (M.accepts given) past given

  unfoldable pub build : Built → Events M → Built
  build built [] = built
  build built (event ∷ events) = build (build1 built.is-on built.remaining event) events

  -- document 01's "what is left" of a list: empty at first, with power on
  abbrev pub remaining_of : Events M → Built
  remaining_of events = build (record { is-on = true; remaining = none }) events
