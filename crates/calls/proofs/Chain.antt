-- A chain of calls, each given the record and the bytes that the one before left, leaves what the list of events leaves: every state that a
-- call leaves can be carried as bytes.
-- Assumes nothing.
use Prim.Native.Nat.{ℕ}
use mathlib.Core.Path.{◌≡◌, refl, sym, ap, ◌∙◌, subst}
use mathlib.Core.Bool.{Bool, true, false, cond}
use mathlib.Core.List.{List, [], ◌∷◌}
use native.Mathlib.Omega.{arith}
use Rattle.field.proofs.Rows.{zero-at}
use Rattle.measure.specs.Filter.{sound_of}
use Rattle.measure.specs.declared.Measured.{Measured}
use Rattle.measure.proofs.Laws.{Fits64, sound-number}
use Rattle.alarm.specs.Alarm.{all_clear}
use Rattle.alarm.proofs.Bounds.{clear-bounded}
use Rattle.alarm.proofs.Written.{bounded-ranged}
use Rattle.outage.specs.Outage.{Power, on, off}
use Rattle.plain.specs.declared.Event.{Event}
use Rattle.plain.specs.Record.{sized}
use Rattle.plain.specs.Setup.{Setup, Usable}
use Rattle.plain.specs.Answer.{is_accepted}
use Rattle.plain.specs.Event.{State, After, dark, dark_run, event_outcome, make_outcome, events_from, final}
use Rattle.plain.specs.Replay.{machine}
use Rattle.plain.proofs.Standing.{good-ranged, state_of, view, GoodPower, made, Standing, stands-made, stands-next}
use Rattle.plain.proofs.Effects.{refused-leaves}
use Rattle.calls.specs.Carried.{AfterCarried, after_carried, carried_out, state_bytes, roomy, make_carried, event_carried, events_carried, chain}
use Rattle.calls.proofs.Round.{Numeric, Carriable, state-back, is_state_lem}

-- ---- what stands can be carried

numeric : (value : Measured) → sound_of value ≡ true → Fits64 value → Numeric value
numeric Measured.NoReading holds float_fits = tt
numeric Measured.Over holds float_fits = tt
numeric Measured.Under holds float_fits = tt
numeric (Measured.Value y) holds float_fits = (float_fits, sound-number y holds)

module _ (setup : Setup) (ok : Usable setup) where
  carriable : (power : Power (machine setup)) → GoodPower setup ok power → Carriable (state_of setup ok power)
  unfolding GoodPower state_of dark dark_run
  carriable (on live) good-power =
      record {
        retained = good-ranged setup ok live good-power;
        unsaved = omega (arith, good-power.run.unsaved);
        measured = numeric live.run.measured good-power.run.measured good-power.run.float;
      }
  carriable off good-power =
      record {
        retained =
            record {
              mode = omega arith;
              pattern = omega arith;
              step = omega arith;
              pass = omega arith;
              elapsed = omega arith;
              waited = omega arith;
              base = record { sfits = omega arith };
              long = refl;
              each = λ i. omega (arith, zero-at 99 i);
              alarms = bounded-ranged setup.config.alarms 0 all_clear (clear-bounded setup.config.alarms 0) ok.alarms;
            };
        unsaved = omega arith;
        measured = tt;
      }

  pub stands-carriable : (state : State) (store : List ℕ) → Standing setup ok state store → Carriable state
  stands-carriable state store stands = subst Carriable (sym stands.is) (carriable stands.power stands.good)

  -- ---- one call is one event

  -- what is left, carried
  abbrev carried : After → AfterCarried
  carried left = after_carried left.answer left.store (state_bytes left.state)

  one-call : (state : State) (store : List ℕ) → Standing setup ok state store → (event : Event)
      → event_carried setup store (state_bytes state) event ≡ carried (event_outcome setup store state event)
  unfolding event_carried carried_out
  one-call state store stands event =
      let holds = stands-carriable state store stands in
      rw (ok.bank, is_state_lem state holds, state-back state holds) (go (is_accepted (event_outcome setup store state event).answer) refl)
    where
      left : After
      left = event_outcome setup store state event

      go : (test : Bool) → is_accepted left.answer ≡ test
          → after_carried left.answer left.store (cond test (state_bytes left.state) (state_bytes state)) ≡ carried left
      go true known = refl
      go false known = ap (λ (other : State). after_carried left.answer left.store (state_bytes other)) (sym (refused-leaves setup store state event known))

  all-calls : (left : After) → Standing setup ok left.state left.store → (events : List Event)
      → events_carried setup (carried left) events ≡ carried (events_from setup left events)
  unfolding events_carried events_from
  all-calls left stands [] = refl
  all-calls left stands (event ∷ events) =
      ap (λ (left : AfterCarried). events_carried setup left events) (one-call left.state left.store stands event)
      ∙ all-calls (event_outcome setup left.store left.state event) (stands-next setup ok left.state left.store stands event) events

  -- ---- from making on

  module _ (store : List ℕ) (whole : sized store ≡ true) where
    make-call : (bytes : List ℕ) → roomy bytes ≡ true → make_carried setup store bytes ≡ carried (make_outcome setup store)
    unfolding make_carried carried_out view is_accepted
    make-call bytes holds = rw (ok.bank, holds, made setup ok store whole)

    -- a chain of calls leaves exactly what the list of events leaves
    pub chained : (bytes : List ℕ) → roomy bytes ≡ true → (events : List Event)
        → chain setup store bytes events ≡ carried (final setup store events)
    unfolding chain final
    chained bytes holds events =
        ap (λ (left : AfterCarried). events_carried setup left events) (make-call bytes holds) ∙ all-calls (make_outcome setup store) (stands-made setup ok store whole) events

    stands_from : (left : After) → Standing setup ok left.state left.store → (events : List Event)
        → Standing setup ok (events_from setup left events).state (events_from setup left events).store
    unfolding events_from
    stands_from left stands [] = stands
    stands_from left stands (event ∷ events) =
        stands_from (event_outcome setup left.store left.state event) (stands-next setup ok left.state left.store stands event) events

    -- and the state that a list leaves can be carried
    pub final-carriable : (events : List Event) → Carriable (final setup store events).state
    unfolding final
    final-carriable events =
        let left = events_from setup (make_outcome setup store) events in
        stands-carriable left.state left.store (stands_from (make_outcome setup store) (stands-made setup ok store whole) events)
