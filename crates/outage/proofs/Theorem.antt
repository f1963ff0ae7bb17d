-- The theorem on lists of events with power failures, for every machine that meets four laws.
-- Assumes nothing.
use mathlib.Core.Path.{◌≡◌, refl, sym, ap, ◌∙◌, subst}
use mathlib.Core.Bool.{Bool, true, false, cond, true≢false}
use mathlib.Core.List.{[], ◌∷◌, ◌++◌}
use Rattle.outage.specs.Outage.{Events, RemainingOf, Listed, other, cut, back, plain, none, ◌▹◌, Machine, Power, on, off}
use Rattle.outage.specs.Outage.{Held, start, off-back, step, steps, replay, strike, Built, built-off, build1, build, remaining_of}

-- the laws: a good state stays good, and a return that brings back the record of a good state is the return applied to that state
pub record Lawful (M : Machine) : Type 1 where
  pub Good : M.S → Type 0
  pub good-fresh : Good M.fresh
  pub good-run : (state : M.S) (event : M.E) → Good state → Good (M.run state event).0
  pub good-return : (state : M.S) (given : M.Q) → M.accepts given ≡ true → Good state → Good (M.return state given).0
  pub restore-write : (state : M.S) (given : M.Q) → M.accepts given ≡ true → Good state → M.restore (M.write state) given ≡ M.return state given

-- one list after another
module _ (M : Machine) where
  pub steps-append : (held : Held M) (events others : Events M) → steps M held (events ++ others) ≡ steps M (steps M held events) others
  unfolding steps
  steps-append held [] others = refl
  steps-append held (event ∷ events) others = steps-append (step M held.power held.rec event) events others

  pub build-append : (built : Built M) (events others : Events M) → build M built (events ++ others) ≡ build M (build M built events) others
  unfolding build
  build-append built [] others = refl
  build-append built (event ∷ events) others = build-append (build1 M built.is-on built.remaining event) events others

module _ (M : Machine) (L : Lawful M) where
  -- ---- demand 3
  abbrev pub Agrees-power : Power M → Bool → RemainingOf M → M.A → Type 0
  Agrees-power (on state) true past answer = (state ≡ (replay M past).0) × (answer ≡ (replay M past).1)
  Agrees-power (on state) false past answer = ⊥
  Agrees-power off true past answer = ⊥
  Agrees-power off false past answer = Unit {0}

  -- what holds after each event
  pub record Agrees (held : Held M) (built : Built M) : Type 0 where
    pub power : Agrees-power held.power built.is-on built.remaining held.answer
    pub rec : held.rec ≡ M.write (replay M (strike M built.remaining)).0
    pub good : L.Good (replay M built.remaining).0
    pub good-strike : L.Good (replay M (strike M built.remaining)).0

  -- an event run with power on: the state goes on as replayed, and the record follows where it saves
  run_on : (state : M.S) (store : M.R) (past : RemainingOf M) (event : M.E)
      → state ≡ (replay M past).0 → store ≡ M.write (replay M (strike M past)).0 → L.Good (replay M past).0 → L.Good (replay M (strike M past)).0
      → Agrees (step M (on state) store (other event)) (build1 M true past (other event))
  unfolding replay strike steps build
  run_on state store past event same kept good good-strike =
      let after : M.run state event ≡ M.run (replay M past).0 event = ap (λ (state : M.S). M.run state event) same in
      let good' : L.Good (M.run (replay M past).0 event).0 = L.good-run (replay M past).0 event good in
      let saves = M.saves (replay M past).0 event in
      record {
        power = (ap (λ (pair : M.S × M.A). pair.0) after, ap (λ (pair : M.S × M.A). pair.1) after);
        rec =
            subst
            (λ (state : M.S). cond (M.saves state event) (M.write (M.run state event).0) store
            ≡ M.write (replay M (cond saves (past ▹ plain event) (strike M past))).0)
            (sym same) (recorded saves);
        good = good';
        good-strike = struck saves good';
      }
    where
      recorded : (test : Bool) → cond test (M.write (M.run (replay M past).0 event).0) store ≡ M.write (replay M (cond test (past ▹ plain event) (strike M past))).0
      recorded true = refl
      recorded false = kept

      struck : (test : Bool) → L.Good (M.run (replay M past).0 event).0 → L.Good (replay M (cond test (past ▹ plain event) (strike M past))).0
      struck true known = known
      struck false known = good-strike

  -- a return with power off: the record is that of the last event that saved
  run-back : (store : M.R) (past : RemainingOf M) (given : M.Q) (test : Bool) → M.accepts given ≡ test
      → store ≡ M.write (replay M (strike M past)).0 → L.Good (replay M past).0 → L.Good (replay M (strike M past)).0
      → Agrees (off-back M test store given) (built-off M test past given)
  unfolding replay strike steps build
  run-back store past given true accepted kept good good-strike =
      let back' : M.restore store given ≡ M.return (replay M (strike M past)).0 given =
      ap (λ (store : M.R). M.restore store given) kept ∙ L.restore-write (replay M (strike M past)).0 given accepted good-strike in
      let good' : L.Good (M.return (replay M (strike M past)).0 given).0 = L.good-return (replay M (strike M past)).0 given accepted good-strike in
      record {
        power = (ap (λ (pair : M.S × M.A). pair.0) back', ap (λ (pair : M.S × M.A). pair.1) back');
        rec = ap (λ (pair : M.S × M.A). M.write pair.0) back';
        good = good';
        good-strike = good';
      }
  run-back store past given false accepted kept good good-strike = record { power = tt; rec = kept; good = good; good-strike = good-strike }

  one : (power : Power M) (store : M.R) (answer : M.A) (test : Bool) (past : RemainingOf M) (event : Listed M.E M.Q)
      → Agrees (record { power = power; rec = store; answer = answer }) (record { is-on = test; remaining = past })
      → Agrees (step M power store event) (build1 M test past event)
  unfolding replay strike steps build
  one (on state) store answer true past (other event) holds = run_on state store past event holds.power.0 holds.rec holds.good holds.good-strike
  one (on state) store answer true past cut holds = record { power = tt; rec = holds.rec; good = holds.good; good-strike = holds.good-strike }
  one (on state) store answer true past (back given) holds =
      record {
        power = (holds.power.0, ap (λ (state : M.S). M.refused-on state given) holds.power.0);
        rec = holds.rec;
        good = holds.good;
        good-strike = holds.good-strike;
      }
  one (on state) store answer false past event holds = absurd holds.power
  one off store answer true past event holds = absurd holds.power
  one off store answer false past (other event) holds = record { power = tt; rec = holds.rec; good = holds.good; good-strike = holds.good-strike }
  one off store answer false past cut holds = record { power = tt; rec = holds.rec; good = holds.good; good-strike = holds.good-strike }
  one off store answer false past (back given) holds = run-back store past given (M.accepts given) refl holds.rec holds.good holds.good-strike

  pub all : (held : Held M) (built : Built M) (events : Events M) → Agrees held built → Agrees (steps M held events) (build M built events)
  unfolding steps build
  all held built [] known = known
  all held built (event ∷ events) known =
      all (step M held.power held.rec event) (build1 M built.is-on built.remaining event) events
      (one held.power held.rec held.answer built.is-on built.remaining event known)

  -- from the front
  pub begin : Agrees (start M) (record { is-on = true; remaining = none })
  unfolding replay strike
  begin = record { power = (refl, refl); rec = refl; good = L.good-fresh; good-strike = L.good-fresh }

  module _ (events : Events M) where
    -- After any list: with power on, the state and the answer are those of the replay machine run over what remains.
    pub list : Agrees-power (steps M (start M) events).power (remaining_of M events).is-on (remaining_of M events).remaining
        (steps M (start M) events).answer
    list = (all (start M) (record { is-on = true; remaining = none }) events begin).power

    -- The record is that of the last event in what remains that saves, and its state is good.
    pub kept : (steps M (start M) events).rec ≡ M.write (replay M (strike M (remaining_of M events).remaining)).0
    kept = (all (start M) (record { is-on = true; remaining = none }) events begin).rec

    pub kept-good : L.Good (replay M (strike M (remaining_of M events).remaining)).0
    kept-good = (all (start M) (record { is-on = true; remaining = none }) events begin).good-strike

    pub remaining-good : L.Good (replay M (remaining_of M events).remaining).0
    remaining-good = (all (start M) (record { is-on = true; remaining = none }) events begin).good

    -- With power off, a refused return is answered by the record of the last event in what remains that saves.
    pub off-answer : (given : M.Q) → (remaining_of M events).is-on ≡ false → M.accepts given ≡ false
        → (steps M (start M) (events ++ (back given ∷ []))).answer
        ≡ M.refused-off (M.write (replay M (strike M (remaining_of M events).remaining)).0) (back given)
    unfolding steps
    off-answer given was-off refused =
        let end = steps M (start M) events in
        let built = remaining_of M events in
        ap (λ (held : Held M). held.answer) (steps-append M (start M) events (back given ∷ []))
        ∙ go end.power end.rec built.is-on built.remaining end.answer list was-off
        ∙ ap (λ (store : M.R). M.refused-off store (back given)) kept
      where
        go : (power : Power M) (store : M.R) (test : Bool) (past : RemainingOf M) (answer : M.A) → Agrees-power power test past answer → test ≡ false
            → (step M power store (back given)).answer ≡ M.refused-off store (back given)
        go (on state) store true past answer holds fact = absurd (true≢false fact)
        go (on state) store false past answer holds fact = absurd holds
        go off store true past answer holds fact = absurd holds
        go off store false past answer holds fact = ap (λ (test : Bool). (off-back M test store given).answer) refused
