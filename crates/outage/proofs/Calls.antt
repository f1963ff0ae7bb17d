-- A list of calls runs as the list of the events that it amounts to, and calls that amount to inert events alone can be dropped.
-- Assumes nothing.
use mathlib.Core.Path.{◌≡◌, refl, sym, ap, ap₂, ◌∙◌, subst}
use mathlib.Core.Bool.{Bool, true, false, cond}
use mathlib.Core.List.{List, [], ◌∷◌}
use Rattle.outage.specs.Outage.{Events, RemainingOf, Machine, Power, on, off, Held, start, steps, Built, build, remaining_of}
use Rattle.outage.specs.Inert.{Locking, Alike, inert, except}
use Rattle.outage.specs.Calls.{Calls, Serving, serve, serves, opening, seen, judged, events, events_of, Same}
use Rattle.outage.proofs.Theorem.{Lawful, Agrees-power, Agrees, begin, all, list, steps-append}
use Rattle.outage.proofs.Inert.{Inert, together, meet, dropped-from}

module _ (M : Machine) (L : Lawful M) (D : Calls M) where
  -- the replay machine sees the power and state that the machine has
  sees : (power : Power M) (test : Bool) (past : RemainingOf M) (answer : M.A) → Agrees-power M L power test past answer → power ≡ seen M D test past
  sees (on state) true past answer agrees = ap on agrees.0
  sees (on state) false past answer agrees = absurd agrees
  sees off true past answer agrees = absurd agrees
  sees off false past answer agrees = refl

  runs : (held : Held M) (built : Built M) (side : D.X) (calls : List D.C) → Agrees M L held built
      → (serves M D (record { held = held; side = side }) calls).held ≡ steps M held (events M D (record { built = built; side = side }) calls)
  unfolding serves events steps
  runs held built side [] agrees = refl
  runs held built side (call ∷ calls) agrees =
      let (after, amount) = judged M D (record { built = built; side = side }) call in
      let same = sees held.power built.is-on built.remaining held.answer agrees.power in
      ap (λ (power : Power M). (serves M D (record { held = steps M held (D.turn power side call).1; side = (D.turn power side call).0 }) calls).held) same
      ∙ runs (steps M held amount) (build M built amount) after calls (all M L held built amount agrees) ∙ sym (steps-append M held amount _)

  module _ (calls : List D.C) where
    -- A list of calls leaves the power, state, record and last answer that its events leave.
    pub called : (serves M D (opening M D) calls).held ≡ steps M (start M) (events_of M D calls)
    called = runs (start M) _ D.at_first calls (begin M L)

    -- With power on, its state and answer are those of the replay machine run over what remains of its events.
    pub list-called : Agrees-power M L (serves M D (opening M D) calls).held.power (remaining_of M (events_of M D calls)).is-on
        (remaining_of M (events_of M D calls)).remaining (serves M D (opening M D) calls).held.answer
    list-called = rw called (list M L (events_of M D calls))

-- the laws: a quiet call leaves the side state, and amounts to inert events alone
pub record Quiet (M : Machine) (locking : Locking M) (D : Calls M) (quiet : D.C → Bool) : Type 0 where
  pub stays : (power : Power M) (side : D.X) (call : D.C) → quiet call ≡ true → (D.turn power side call).0 ≡ side
  pub amounts : (power : Power M) (side : D.X) (call : D.C) → quiet call ≡ true → except (inert M locking) (D.turn power side call).1 ≡ []

module _ (M : Machine) (locking : Locking M) (I : Inert M locking) (D : Calls M) (quiet : D.C → Bool) (Z : Quiet M locking D quiet) where
  dropped-calls : (calls : List D.C) (this that : Serving M D) → Same M D this that → Same M D (serves M D this calls) (serves M D that (except quiet calls))
  unfolding serves except steps
  dropped-calls [] this that same = same
  dropped-calls (call ∷ calls) this that same = go (quiet call) refl (dropped-calls calls)
    where
      go : (test : Bool) → quiet call ≡ test
          → ((this that : Serving M D) → Same M D this that → Same M D (serves M D this calls) (serves M D that (except quiet calls)))
          → Same M D (serves M D (serve M D this call) calls) (serves M D that (cond test (except quiet calls) (call ∷ except quiet calls)))
      go true known rest =
          let amount = (D.turn this.held.power this.side call).1 in
          let ends : Alike M (steps M this.held amount) (steps M that.held (except (inert M locking) amount)) =
          dropped-from M locking I amount this.held that.held same.held in
          rest _ that
          (record {
            held = rw (Z.amounts this.held.power this.side call known) at ends;
            side = Z.stays this.held.power this.side call known ∙ same.side;
          })
      go false known rest =
          let turn = D.turn this.held.power this.side call in
          let also : turn ≡ D.turn that.held.power that.side call =
          ap₂ (λ (power : Power M) (side : D.X). D.turn power side call) same.held.power same.side in
          let ends : Alike M (steps M this.held turn.1) (steps M that.held turn.1) = together M turn.1 this.held that.held same.held in
          rest _ (serve M D that call)
          (subst (λ (left : D.X × Events M). Same M D (serve M D this call) (record { held = steps M that.held left.1; side = left.0 })) also
          (record { held = ends; side = refl }))

  -- Dropping the quiet calls of a list changes nothing of power, state, record and side state.
  pub dropped-called : (calls : List D.C) → Same M D (serves M D (opening M D) calls) (serves M D (opening M D) (except quiet calls))
  dropped-called calls = dropped-calls calls (opening M D) (opening M D) (record { held = record { power = refl; rec = refl }; side = refl })

  -- Two lists of calls that differ only in quiet calls end alike.
  pub alike-called : (calls others : List D.C) → except quiet calls ≡ except quiet others
      → Same M D (serves M D (opening M D) calls) (serves M D (opening M D) others)
  alike-called calls others same =
      let first = rw same at (dropped-called calls) in
      let ends = dropped-called others in
      record { held = meet M first.held ends.held; side = first.side ∙ sym ends.side }
