-- How much a cut costs: what an accepted return strikes out, for every machine with a counter that each save clears.
-- Assumes nothing.
use mathlib.Core.Path.{◌≡◌, refl, sym, ap, ◌∙◌}
use mathlib.Core.Bool.{Bool, true, false, cond}
use mathlib.Core.List.{[], ◌∷◌}
use Prim.Native.Nat.{ℕ, ◌+◌, ◌<◌}
use native.Mathlib.Omega.{arith}
use Rattle.outage.specs.Outage.{Events, RemainingOf, back, Kept, plain, back_on, back-off, none, ◌▹◌, Machine, saves1, replay, strike}
use Rattle.outage.specs.Outage.{Built, built-off, build1, build}
use Rattle.outage.specs.Credit.{one}
use Rattle.outage.specs.Struck.{◌⧺◌, Return, struck, remaining-before, Each, number, Cost}
use Rattle.outage.proofs.Theorem.{Lawful, build-append, remaining-good}

-- the laws: a fresh state has 0, an event that saves leaves 0, any other adds 1 if it is counted, and a good state is below the bound
pub record Metered (M : Machine) (L : Lawful M) (test : M.S → M.E → Bool) : Type 0 where
  pub meter : M.S → ℕ
  pub bound : ℕ
  pub of-fresh : meter M.fresh ≡ 0
  pub of-saved : (state : M.S) (event : M.E) → M.saves state event ≡ true → meter (M.run state event).0 ≡ 0
  pub of-return : (state : M.S) (given : M.Q) → meter (M.return state given).0 ≡ 0
  pub of-run : (state : M.S) (event : M.E) → M.saves state event ≡ false → meter (M.run state event).0 ≡ meter state + one (test state event)
  pub of-good : (state : M.S) → L.Good state → meter state < bound

module _ (M : Machine) where
  -- what stays, then what is struck out, is all
  pub whole : (past : RemainingOf M) → strike M past ⧺ struck M past ≡ past
  unfolding strike struck ◌⧺◌
  whole none = refl
  whole (past ▹ event) = go (saves1 M (replay M past).0 event) (whole past)
    where
      go : (saved : Bool) → strike M past ⧺ struck M past ≡ past → cond saved (past ▹ event) (strike M past) ⧺ cond saved none (struck M past ▹ event) ≡ past ▹ event
      go true holds = refl
      go false holds = ap (λ (later : RemainingOf M). later ▹ event) holds

  -- no event struck out saves
  pub unsaved : (past : RemainingOf M) → Each M (λ state event. saves1 M state event ≡ false) (strike M past) (struck M past)
  unfolding strike struck
  unsaved none = tt
  unsaved (past ▹ event) = go (saves1 M (replay M past).0 event) refl (unsaved past)
    where
      go : (saved : Bool) → saves1 M (replay M past).0 event ≡ saved → Each M (λ state event. saves1 M state event ≡ false) (strike M past) (struck M past)
          → Each M (λ state event. saves1 M state event ≡ false) (cond saved (past ▹ event) (strike M past)) (cond saved none (struck M past ▹ event))
      go true holds known = tt
      go false holds known = (known, ap (λ (later : RemainingOf M). saves1 M (replay M later).0 event) (whole past) ∙ holds)

  -- what follows of each event follows of all
  pub each : {P Q : M.S → Kept M.E M.Q → Type 0} → ((state : M.S) (event : Kept M.E M.Q) → P state event → Q state event)
      → (past later : RemainingOf M) → Each M P past later → Each M Q past later
  each follows past none holds = tt
  each follows past (later ▹ event) holds = (each follows past later holds.0, follows (replay M (past ⧺ later)).0 event holds.1)

module _ (M : Machine) (L : Lawful M) (test : M.S → M.E → Bool) (D : Metered M L test) where
  -- the counter has the number of counted events since the last save
  metered : (past : RemainingOf M) → number M test (strike M past) (struck M past) ≡ D.meter (replay M past).0
  unfolding strike struck number replay
  metered none = sym D.of-fresh
  metered (past ▹ plain event) = go (M.saves (replay M past).0 event) refl (metered past)
    where
      go : (saved : Bool) → M.saves (replay M past).0 event ≡ saved → number M test (strike M past) (struck M past) ≡ D.meter (replay M past).0
          → number M test (cond saved (past ▹ plain event) (strike M past)) (cond saved none (struck M past ▹ plain event)) ≡ D.meter (M.run (replay M past).0 event).0
      go true holds known = sym (D.of-saved (replay M past).0 event holds)
      go false holds known =
          ap (λ (later : RemainingOf M). number M test (strike M past) (struck M past) + one (test (replay M later).0 event)) (whole M past)
          ∙ ap (λ (count : ℕ). count + one (test (replay M past).0 event)) known ∙ sym (D.of-run (replay M past).0 event holds)
  metered (past ▹ back_on given) = metered past
  metered (past ▹ back-off given) = sym (D.of-return (replay M past).0 given)

  -- Each accepted return in a list strikes out fewer counted events than the bound, and no event that saves.
  pub cost : {events : Events M} (return : Return M events) → Cost M return test D.meter D.bound
  unfolding build
  cost return =
      let past = remaining-before M return in
      let known = metered past in
      record {
        was = sym (whole M past);
        is =
            ap (λ (built : Built M). built.remaining) (build-append M _ return.before (back return.given ∷ []))
            ∙ ap (λ (saved : Bool). (build1 M saved past (back return.given)).remaining) return.was-off
            ∙ ap (λ (saved : Bool). (built-off M saved past return.given).remaining) return.accepted;
        unsaved = unsaved M past;
        counted = known;
        few = omega (arith, known, D.of-good (replay M past).0 (remaining-good M L return.before));
      }
