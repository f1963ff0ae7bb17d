-- What an event leaves.
-- Assumes nothing.
use mathlib.Core.Path.{◌≡◌, sym, ap, ◌∙◌}
use mathlib.Core.Bool.{true, false, cond}
use mathlib.Core.List.{List}
use Prim.Native.Nat.{ℕ}
use Rattle.plain.specs.declared.Event.{Event}
use Rattle.plain.specs.declared.Effect.{Effect}
use Rattle.plain.specs.Record.{credits_in, sized}
use Rattle.plain.specs.Setup.{Setup}
use Rattle.plain.specs.Run.{credited}
use Rattle.plain.specs.Event.{after as after_of, record_for, applied, event_effect, event_outcome}
use Rattle.plain.proofs.Effects.{saves-sized}
use Rattle.controller.specs.declared.State.{State}
use Rattle.controller.specs.Holds.{state_of, after}

-- the next state is the one that an effect leaves
pub record Settled (store : List ℕ) (state : State) (effect : Effect) (next : State) : Type 0 where
  pub power : next.power ≡ effect.power
  pub run : next.run ≡ effect.run
  pub credits : next.credits ≡ credited effect.credit (credits_in store) state.credits

module _ (setup : Setup) (store : List ℕ) (state : State) (event : Event) (effect : Effect)
    (is : effect ≡ event_effect setup store state.power state.run event) (next : State) (settled : Settled store state effect next) where
  -- where it saves: a write into a record of its size
  pub saved : (written : List ℕ) → effect.saves ≡ true → written ≡ cond (sized store) (record_for effect.run next.credits) store
      → after next written effect.answer ≡ event_outcome setup store (state_of state) event
  unfolding event_outcome
  saved written saves wrote =
      let whole = saves-sized setup store state.run state.power event (sym (ap (λ (x : Effect). x.saves) is) ∙ saves) in
      let is-record : written ≡ record_for effect.run next.credits = wrote ∙ rw whole in
      (λ i. after_of (record { power = settled.power i; run = settled.run i; credits = settled.credits i })
      ((is-record ∙ ap (record_for effect.run) settled.credits) i) effect.answer)
      ∙ sym (rw saves) ∙ ap (applied store state.credits) is

  -- and where it does not
  pub not_saved : effect.saves ≡ false → after next store effect.answer ≡ event_outcome setup store (state_of state) event
  unfolding event_outcome
  not_saved saves =
      (λ i. after_of (record { power = settled.power i; run = settled.run i; credits = settled.credits i }) store effect.answer)
      ∙ sym (rw saves) ∙ ap (applied store state.credits) is
