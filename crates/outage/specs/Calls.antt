-- Calls over a machine with a side state that its events do not see, and the events that a list of calls amounts to.
-- Assumes nothing.
use Rattle.std.specs.Prelude.{◌≡◌, Bool, true, false, List, [], ◌∷◌, ◌++◌}
use Rattle.outage.specs.Outage.{Events, RemainingOf, none, Machine, Power, on, off, Held, start, steps, replay, Built, build}
use Rattle.outage.specs.Inert.{Alike}

-- the calls C, the side states X, and the one at first
pub record Calls (M : Machine) : Type 1 where
  pub C : Type 0
  pub X : Type 0
  pub at_first : X
  -- by the power and state before it: the side state that a call leaves, and the events that it amounts to, none, one or more
  pub turn : Power M → X → C → X × Events M

module _ (M : Machine) (D : Calls M) where
  -- ---- the machine with its side state

  -- the answer held is that to the last call that amounted to an event; to making, if none did
  pub record Serving : Type 0 where
    pub held : Held M
    pub side : D.X

  -- a call runs its events
  abbrev pub serve : Serving → D.C → Serving
  serve serving call =
      record {
        held = steps M serving.held (D.turn serving.held.power serving.side call).1;
        side = (D.turn serving.held.power serving.side call).0;
      }

  unfoldable pub serves : Serving → List D.C → Serving
  serves serving [] = serving
  serves serving (call ∷ calls) = serves (serve serving call) calls

  abbrev pub opening : Serving
  opening = record { held = start M; side = D.at_first }

  -- ---- the events of a list of calls, by the replay machine run over what remains at that point

  abbrev pub seen : Bool → RemainingOf M → Power M
  seen true past = on (replay M past).0
  seen false past = off

  -- what remains, and the side state
  pub record Turned : Type 0 where
    pub built : Built M
    pub side : D.X

  abbrev pub judged : Turned → D.C → D.X × Events M
  judged before call = D.turn (seen before.built.is-on before.built.remaining) before.side call

  abbrev pub turned : Turned → D.C → Turned
  turned before call = record { built = build M before.built (judged before call).1; side = (judged before call).0 }

  unfoldable pub events : Turned → List D.C → Events M
  events before [] = []
  events before (call ∷ calls) = (judged before call).1 ++ events (turned before call) calls

  -- nothing remains at first, with power on
  abbrev pub events_of : List D.C → Events M
  events_of calls = events (record { built = record { is-on = true; remaining = none }; side = D.at_first }) calls

  -- alike in power, state and record, and in the side state
  pub record Same (this that : Serving) : Type 0 where
    pub held : Alike M this.held that.held
    pub side : this.side ≡ that.side
