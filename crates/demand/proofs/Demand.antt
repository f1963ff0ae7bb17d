-- Demand 3 holds, for every accepted bank with settings in range, every record buffer of the record's size and every list of events.
-- Assumes nothing.
use mathlib.Core.Path.{◌≡◌, refl, sym, ap, ◌∙◌}
use mathlib.Core.Bool.{Bool, true, false, not, true≢false, false≢true}
use mathlib.Core.List.{List, [], ◌∷◌, map}
use Prim.Native.Nat.{ℕ, ◌-◌}
use native.Mathlib.Omega.{arith}
use lib.IntN.{ℤ, pos, nat_abs}
use lib.ListN.{get_or}
use Rattle.setting.specs.Found.{numbers_of as bank_numbers}
use Rattle.bank.specs.Check.{found_in}
use Rattle.measure.specs.Filter.{outside_of}
use Rattle.position.proofs.Tests.{choice}
use Rattle.alarm.specs.Alarm.{all_in_range}
use Rattle.outage.specs.Outage.{Power, on, off, Held, start, off-back, step, steps}
use Rattle.outage.proofs.Theorem as theorem
use Rattle.plain.specs.declared.Event.{Event}
use Rattle.plain.specs.declared.Effect.{Effect}
use Rattle.plain.specs.Record.{sized}
use Rattle.plain.specs.Setup.{Setup, Usable}
use Rattle.plain.specs.Answer.{number_of, numbers_of, Answer}
use Rattle.plain.specs.Run.{shown_in}
use Rattle.plain.specs.Event.{State, dark, After, after, record_for, retained_in, event_outcome, make_outcome, events_from, final}
use Rattle.plain.specs.Replay.{powered, listed, refused_off, machine}
use Rattle.plain.proofs.Judged.{by-tick, by-press}
use Rattle.plain.proofs.Credits.{credit-is}
use Rattle.plain.proofs.Counted.{credits-are}
use Rattle.plain.proofs.Standing.{lawful, state_of, view, GoodHeld, Kept, kept-readable, one, good-one, made, good_start}
use Rattle.demand.specs.Demand.{remaining, on_after, replayed, last_saved, ticks_counted, Replays, Demand3}
use Rattle.std.specs.Prelude.{Ok, Err}
use Rattle.plain.specs.declared.AnyRefusal.{AnyRefusal}
use Rattle.setting.specs.declared.BankRefusal.{BankRefusal}
use Rattle.setting.proofs.Laws.{unless-cases}

-- ---- a list is a list of steps

module _ (setup : Setup) (ok : Usable setup) where
  list : (held : Held (machine setup)) (events : List Event) → GoodHeld setup ok held
      → events_from setup (view setup ok held) events ≡ view setup ok (steps (machine setup) held (map listed events))
  unfolding events_from steps view
  list held [] well = refl
  list held (event ∷ events) well =
      let next = step (machine setup) held.power held.rec (listed event) in
      ap (λ (left : After). events_from setup left events) (one setup ok held.power held.rec event well.power well.kept)
      ∙ list next events (good-one setup ok held.power held.rec event well.power well.kept)

  pub all : (store : List ℕ) → sized store ≡ true → (events : List Event)
      → final setup store events ≡ view setup ok (steps (machine setup) (start (machine setup)) (map listed events))
  unfolding final
  all store size events =
      ap (λ (left : After). events_from setup left events) (made setup ok store size) ∙ list (start (machine setup)) events (good_start setup ok)

-- ---- no event of a list is refused with 31

Below : Answer → Type 0
Below (Ok shown) = Unit {0}
Below (Err (AnyRefusal.Bank found)) = Unit {0}
Below (Err (AnyRefusal.Own refusal)) = number_of refusal ≡ 31 → ⊥

not-31 : (answer : Answer) → Below answer → numbers_of answer ≡ pos 31 ∷ [] → ⊥
unfolding numbers_of bank_numbers Below
not-31 answer low holds = go answer low (ap (λ (xs : List ℤ). nat_abs (get_or xs 0 (pos 0))) holds)
  where
    bank : (refusal : BankRefusal) → nat_abs (get_or (map pos (bank_numbers (Err refusal))) 0 (pos 0)) ≡ 31 → ⊥
    bank BankRefusal.Short holds = omega arith
    bank (BankRefusal.Setting offset) holds = omega arith
    bank (BankRefusal.Pair pair) holds = omega arith
    bank (BankRefusal.Body pattern step) holds = omega arith

    go : (answer : Answer) → Below answer → nat_abs (get_or (numbers_of answer) 0 (pos 0)) ≡ 31 → ⊥
    go (Ok shown) low holds = omega arith
    go (Err (AnyRefusal.Bank found)) low holds = bank found holds
    go (Err (AnyRefusal.Own refusal)) low holds = low holds

module _ (setup : Setup) where
  below_one : (power : Power (machine setup)) (store : List ℕ) (event : Event) → Below (step (machine setup) power store (listed event)).answer
  unfolding listed refused_off Below number_of
  below_one (on live) store (Event.Tick reading) =
      by-tick setup live.run (λ (effect : Effect). Below effect.answer) (λ _ lower. lower) reading (λ _ _. tt)
  below_one (on live) store (Event.Press command) =
      by-press setup live.run (λ (effect : Effect). Below effect.answer) (λ _ lower. lower) command (λ _ _. tt)
  below_one (on live) store Event.Cut = tt
  below_one (on live) store (Event.Return reading) = λ number. omega (arith, number)
  below_one off store (Event.Tick reading) = λ number. omega (arith, number)
  below_one off store (Event.Press command) = λ number. omega (arith, number)
  below_one off store Event.Cut = λ number. omega (arith, number)
  below_one off store (Event.Return reading) = go (outside_of reading)
    where
      go : (test : Bool) → Below (off-back (machine setup) (not test) store reading).answer
      go true = λ number. omega (arith, number)
      go false = tt

  below_all : (held : Held (machine setup)) (events : List Event) → Below held.answer → Below (steps (machine setup) held (map listed events)).answer
  unfolding steps
  below_all held [] low = low
  below_all held (event ∷ events) low =
      below_all (step (machine setup) held.power held.rec (listed event)) events (below_one held.power held.rec event)

-- ---- what a list leaves has its answer's number and values

module _ (setup : Setup) where
  abbrev Numbered : After → Type 0
  Numbered left = left.numbers ≡ numbers_of left.answer

  numbered : (left : After) → Numbered left → (events : List Event) → Numbered (events_from setup left events)
  unfolding events_from event_outcome
  numbered left holds [] = holds
  numbered left holds (event ∷ events) = numbered (event_outcome setup left.store left.state event) refl events

  made-numbered : (store : List ℕ) → Numbered (make_outcome setup store)
  unfolding make_outcome retained_in
  made-numbered store =
      unless-cases Numbered (found_in setup.bank)
      (λ _. choice Numbered (not (sized store)) (λ _. refl) (λ _. choice Numbered (not (all_in_range setup.config.alarms)) (λ _. refl) (λ _. refl))) (λ _ _. refl)

  pub final-is : (store : List ℕ) (events : List Event)
      → let left = final setup store events in after left.state left.store left.answer ≡ left
  unfolding final
  final-is store events =
      let left = events_from setup (make_outcome setup store) events in
      λ i. record {
        state = left.state;
        store = left.store;
        answer = left.answer;
        numbers = sym (numbered (make_outcome setup store) (made-numbered store) events) i;
      }

-- ---- demand 3

module _ (setup : Setup) (store : List ℕ) (ok : Usable setup) (whole : sized store ≡ true) (events : List Event) where
  -- the machine after the list
  last : Held (machine setup)
  last = steps (machine setup) (start (machine setup)) (map listed events)

  seen : final setup store events ≡ view setup ok last
  unfolding last
  seen = all setup ok store whole events

  kept : (final setup store events).store ≡ record_for (last_saved setup events).run (last_saved setup events).credits
  unfolding last_saved remaining view last
  kept = ap (λ (left : After). left.store) seen ∙ theorem.kept (machine setup) (lawful setup ok) (map listed events)

  -- what the machine's theorem says of the power after the list
  record Ends (power : Power (machine setup)) (test : Bool) (answer : Answer) : Type 0 where
    is-on : (state_of setup ok power).power ≡ test
    state : test ≡ true → state_of setup ok power ≡ powered (replayed setup events).0
    is-answer : test ≡ true → answer ≡ (replayed setup events).1
    is-dark : test ≡ false → state_of setup ok power ≡ dark

  ends : (power : Power (machine setup)) (test : Bool) (answer : Answer)
      → theorem.Agrees-power (machine setup) (lawful setup ok) power test (remaining setup events) answer → Ends power test answer
  unfolding state_of dark replayed
  ends (on live) true answer agrees =
      record { is-on = refl; state = λ _. ap powered agrees.0; is-answer = λ _. agrees.1; is-dark = λ holds. absurd (true≢false holds) }
  ends (on live) false answer agrees = absurd agrees
  ends off true answer agrees = absurd agrees
  ends off false answer agrees =
      record { is-on = refl; state = λ holds. absurd (false≢true holds); is-answer = λ holds. absurd (false≢true holds); is-dark = λ _. refl }

  ended : Ends last.power (on_after setup events) last.answer
  unfolding on_after remaining last
  ended = ends _ _ _ (theorem.list (machine setup) (lawful setup ok) (map listed events))

  replays : on_after setup events ≡ true → Replays setup events (final setup store events)
  unfolding replayed ticks_counted view
  replays powered-on =
      let same = ap (λ (left : After). left.state) seen ∙ ended.state powered-on in
      record {
        power = ap (λ (other : State). other.power) same;
        position = ap (λ (other : State). other.run.position) same;
        unsaved = ap (λ (other : State). other.run.unsaved) same;
        measured = ap (λ (other : State). other.run.measured) same;
        alarms = ap (λ (other : State). other.run.alarms) same;
        credits = ap (λ (other : State). other.credits) same;
        shown = ap (λ (other : State). shown_in setup other.run) same;
        answer = ap (λ (left : After). left.answer) seen ∙ ended.is-answer powered-on;
        ticks = λ k lower _.
            ap (λ (other : State). get_or other.credits (k - 1) 0) same ∙ credit-is (replayed setup events).0.credits k lower
            ∙ credits-are setup ok.bank (remaining setup events) k;
      }

  -- the record is that of a good state
  good-record : Kept setup ok (final setup store events).store
  unfolding last_saved remaining
  good-record =
      record { of = last_saved setup events; good = theorem.kept-good (machine setup) (lawful setup ok) (map listed events); is = kept }

  below : Below last.answer
  unfolding last Below
  below = below_all setup (start (machine setup)) events tt

  -- Demand 3.
  pub demand3 : Demand3 setup events (final setup store events)
  unfolding view
  demand3 =
      record {
        is-on = ap (λ (left : After). left.state.power) seen ∙ ended.is-on;
        replays = replays;
        is-dark = λ is-off. ap (λ (left : After). left.state) seen ∙ ended.is-dark is-off;
        kept = kept;
        readable = kept-readable setup ok (final setup store events).store good-record;
        never-31 = λ holds. not-31 last.answer below (sym (ap (λ (left : After). left.numbers) seen) ∙ holds);
      }
