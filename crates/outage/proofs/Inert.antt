-- Inert events change nothing of power, state and record, wherever they stand in a list.
-- Assumes nothing.
use mathlib.Core.Path.{◌≡◌, refl, sym, ap, ap₂, ◌∙◌}
use mathlib.Core.Bool.{Bool, true, false, cond, false≢true}
use mathlib.Core.List.{[], ◌∷◌}
use Rattle.outage.specs.Outage.{Events, Listed, other, cut, back, Machine, Power, on, off, Held, start, off-back, step, steps}
use Rattle.outage.specs.Inert.{Locking, Alike, inert, except}

-- the laws: a locked event leaves every state and saves in none, and a vain return is never accepted
pub record Inert (M : Machine) (locking : Locking M) : Type 0 where
  pub stays : (state : M.S) (event : M.E) → locking.locked event ≡ true → (M.run state event).0 ≡ state
  pub unsaved : (state : M.S) (event : M.E) → locking.locked event ≡ true → M.saves state event ≡ false
  pub refused : (given : M.Q) → locking.vain given ≡ true → M.accepts given ≡ false

module _ (M : Machine) where
  -- alike machines stay alike under the same events
  pub together : (events : Events M) (this that : Held M) → Alike M this that → Alike M (steps M this events) (steps M that events)
  unfolding steps
  together [] this that paired = paired
  together (event ∷ events) this that paired =
      let same : step M this.power this.rec event ≡ step M that.power that.rec event =
      ap₂ (λ (power : Power M) (store : M.R). step M power store event) paired.power paired.rec in
      together events _ _ (record { power = ap (λ (held : Held M). held.power) same; rec = ap (λ (held : Held M). held.rec) same })

  -- what is alike to the same is alike
  pub meet : {this that common : Held M} → Alike M this common → Alike M that common → Alike M this that
  meet paired second = record { power = paired.power ∙ sym second.power; rec = paired.rec ∙ sym second.rec }

module _ (M : Machine) (locking : Locking M) (I : Inert M locking) where
  -- one inert event
  nothing : (power : Power M) (store : M.R) (event : Listed M.E M.Q) → inert M locking event ≡ true
      → ((step M power store event).power ≡ power) × ((step M power store event).rec ≡ store)
  unfolding inert
  nothing (on state) store (other event) known =
      (ap on (I.stays state event known), ap (λ (test : Bool). cond test (M.write (M.run state event).0) store) (I.unsaved state event known))
  nothing (on state) store cut known = absurd (false≢true known)
  nothing (on state) store (back given) known = (refl, refl)
  nothing off store (other event) known = (refl, refl)
  nothing off store cut known = (refl, refl)
  nothing off store (back given) known =
      let refusal = I.refused given known in
      (ap (λ (test : Bool). (off-back M test store given).power) refusal, ap (λ (test : Bool). (off-back M test store given).rec) refusal)

  pub dropped-from : (events : Events M) (this that : Held M) → Alike M this that → Alike M (steps M this events) (steps M that (except (inert M locking) events))
  unfolding steps except
  dropped-from [] this that paired = paired
  dropped-from (event ∷ events) this that paired = go (inert M locking event) refl (dropped-from events)
    where
      go : (test : Bool) → inert M locking event ≡ test
          → ((this that : Held M) → Alike M this that → Alike M (steps M this events) (steps M that (except (inert M locking) events)))
          → Alike M (steps M (step M this.power this.rec event) events)
          (steps M that (cond test (except (inert M locking) events) (event ∷ except (inert M locking) events)))
      go true known rest =
          let ends = nothing this.power this.rec event known in
          rest _ that (record { power = ends.0 ∙ paired.power; rec = ends.1 ∙ paired.rec })
      go false known rest = let ends = together M (event ∷ []) this that paired in rest _ _ ends

  -- Dropping the inert events of a list changes nothing of power, state and record.
  pub dropped : (events : Events M) → Alike M (steps M (start M) events) (steps M (start M) (except (inert M locking) events))
  dropped events = dropped-from events (start M) (start M) (record { power = refl; rec = refl })

  -- Two lists that differ only in inert events end alike.
  pub alike : (events others : Events M) → except (inert M locking) events ≡ except (inert M locking) others
      → Alike M (steps M (start M) events) (steps M (start M) others)
  alike events others same = meet M (rw same at (dropped events)) (dropped others)
