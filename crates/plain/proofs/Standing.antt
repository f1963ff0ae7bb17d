-- One event of a list is one step of the machine, and what it leaves is good again: what a loop over events may know.
-- Assumes nothing.
use mathlib.Core.Path.{◌≡◌, refl, sym, ap, ◌∙◌, subst}
use mathlib.Core.Bool.{Bool, true, false, cond, not, false≢true}
use mathlib.Core.List.{List, [], ◌∷◌}
use Prim.Native.Nat.{ℕ}
use native.Mathlib.Omega.{arith}
use borrow.Author.Tests.{eq-eqb, not-true}
use lib.Dec.{eqb}
use lib.ListN.{length}
use Rattle.setting.specs.Found.{Checked, Accepted, unless}
use Rattle.setting.specs.declared.BankRefusal.{BankRefusal}
use Rattle.bank.specs.Check.{found_in}
use Rattle.measure.specs.Filter.{whole_of, first_of, outside_of}
use Rattle.measure.specs.declared.Reading.{Reading}
use Rattle.position.specs.Tests.{both, either}
use Rattle.position.specs.Command.{is_start}
use Rattle.position.specs.Return.{return_position}
use Rattle.position.proofs.SetValue.{fits}
use Rattle.alarm.specs.Alarm.{all_in_range}
use Rattle.alarm.proofs.Written.{bounded-ranged}
use Rattle.outage.specs.Outage.{Power, on, off, Held, start, off-back, step, other}
use Rattle.outage.proofs.Theorem.{Lawful}
use Rattle.plain.specs.declared.Run.{Run}
use Rattle.plain.specs.declared.Credit.{Credit}
use Rattle.plain.specs.declared.Event.{Event}
use Rattle.plain.specs.declared.Refusal.{Refusal}
use Rattle.plain.specs.declared.Effect.{Effect}
use Rattle.plain.specs.Record.{Checkpoint, checkpoint_in, credits_in, sized}
use Rattle.plain.specs.Setup.{Setup, Usable, settings_in, here_in}
use Rattle.plain.specs.Answer.{is_accepted, Answer}
use Rattle.plain.specs.Run.{moved_to, readable_in, shown_in, credited, tick_credit, return_by}
use Rattle.plain.specs.Refusals.{sound_state}
use Rattle.plain.specs.Event.{State, fresh, dark_run, dark, After, after, checkpoint_for, record_for, applied, cut_effect, brought_back, refused, return_effect, retained_in, known_effect}
use Rattle.plain.specs.Event.{event_effect, event_outcome, make_outcome, events_from}
use Rattle.plain.specs.Replay.{Live, powered, lived, fresh_live, Plain, tick, press, event_of, listed, plain_effect, refused_off, returned_live, restored, answer_by, machine}
use Rattle.plain.proofs.Judged.{by-tick, by-press}
use Rattle.plain.proofs.Credits.{Credits}
use Rattle.plain.proofs.Good.{Good, good-readable, good-sound, good-bounded, good-live, good-returned, good-fresh}
use Rattle.plain.proofs.Record.{Ranged, length-record, read_back}
use Rattle.std.specs.Prelude.{Ok, Err}
use Rattle.plain.specs.declared.AnyRefusal.{AnyRefusal}

-- ---- the record of a good state

module _ (setup : Setup) where
  -- it has the record's size
  record-sized : (run : Run) (credits : List ℕ) → Credits credits → sized (record_for run credits) ≡ true
  unfolding sized
  record-sized run credits good-credits = eq-eqb _ _ (length-record (checkpoint_for run credits) good-credits.long)

  module _ (ok : Usable setup) where
    -- its numbers are in their types' ranges
    pub good-ranged : (live : Live) → Good setup live → Ranged (checkpoint_for live.run live.credits)
    good-ranged live well =
        let bounds = good-bounded setup ok.bank live.run well.run in
        record {
          mode = omega (arith, bounds.mode);
          pattern = omega (arith, bounds.pattern);
          step = omega (arith, bounds.step);
          pass = omega (arith, bounds.pass);
          elapsed = omega (arith, bounds.elapsed);
          waited = omega (arith, bounds.waited);
          base = fits live.run.position.base bounds.base;
          long = well.credits.long;
          each = well.credits.each;
          alarms = bounded-ranged setup.config.alarms live.run.position.mode live.run.alarms well.run.alarms ok.alarms;
        }

    -- so it is read back
    kept-checkpoint : (live : Live) → Good setup live
        → checkpoint_in (record_for live.run live.credits) ≡ checkpoint_for live.run live.credits
    kept-checkpoint live well = read_back (checkpoint_for live.run live.credits) (good-ranged live well)

    -- a return that brings back its record is the return applied to it
    pub back-again : (live : Live) → Good setup live → (reading : Reading)
        → returned_live setup reading (restored (record_for live.run live.credits)) ≡ returned_live setup reading live
    unfolding return_by brought_back
    back-again live well reading =
        let to : Checkpoint → Live = λ checkpoint. record {
          run =
              moved_to (record {
                position = checkpoint.position;
                unsaved = 0;
                measured = first_of reading;
                alarms = checkpoint.alarms;
              })
              (return_position (settings_in setup) (here_in setup checkpoint.position) (whole_of (first_of reading)) checkpoint.position);
          credits = checkpoint.credits;
        } in
        ap to (kept-checkpoint live well)

    -- the laws of a machine with a record
    abbrev pub lawful : Lawful (machine setup)
    lawful =
        record {
          Good = Good setup;
          good-fresh = good-fresh setup ok.bank;
          good-run = λ live event well. good-live setup ok.bank live well event;
          good-return = λ live reading accepts well. good-returned setup ok.bank live well reading (not-true (outside_of reading) accepts);
          restore-write = λ live reading accepts well. ap (λ (live : Live). (live, answer_by setup live)) (back-again live well reading);
        }

-- ---- an event with power on leaves power on, and takes no credits from the record

module _ (setup : Setup) (run : Run) where
  plain-power : (event : Plain) → (plain_effect setup true run event).power ≡ true
  plain-power (tick reading) = by-tick setup run (λ (effect : Effect). effect.power ≡ true) (λ _ _. refl) reading (λ _ _. refl)
  plain-power (press command) = by-press setup run (λ (effect : Effect). effect.power ≡ true) (λ _ _. refl) command (λ _ _. refl)

  -- the credits that are left do not depend on those of the record
  abbrev Unrestored : List ℕ → List ℕ → List ℕ → Credit → Type 0
  Unrestored recorded others credits credit = credited credit recorded credits ≡ credited credit others credits

  plain-credit : (event : Plain) (recorded others credits : List ℕ) → Unrestored recorded others credits (plain_effect setup true run event).credit
  unfolding credited tick_credit
  plain-credit (tick reading) recorded others credits =
      by-tick setup run (λ (effect : Effect). Unrestored recorded others credits effect.credit) (λ _ _. refl) reading
      (λ _ _. go (eqb run.position.mode 1))
    where
      go : (test : Bool) → Unrestored recorded others credits (cond test (Credit.Cook run.position.step) Credit.Keep)
      go true = refl
      go false = refl
  plain-credit (press command) recorded others credits =
      by-press setup run (λ (effect : Effect). Unrestored recorded others credits effect.credit) (λ _ _. refl) command
      (λ _ _. go (is_start command))
    where
      go : (test : Bool) → Unrestored recorded others credits (cond test Credit.Clear Credit.Keep)
      go true = refl
      go false = refl

-- over a record of its size, an event that is no cut and no return is what it is over no record
pub known-plain : (setup : Setup) (store : List ℕ) (power : Bool) (run : Run) (event : Plain) → sized store ≡ true
    → known_effect setup store power run (event_of event) ≡ plain_effect setup power run event
unfolding known_effect plain_effect retained_in both
known-plain setup store power run (tick reading) whole = rw whole
known-plain setup store power run (press command) whole = rw whole

module _ (setup : Setup) (ok : Usable setup) where
  -- ---- what stands

  -- the state that power leaves
  unfoldable pub state_of : Power (machine setup) → State
  state_of (on live) = powered live
  state_of off = dark

  -- the machine as the controller's caller sees it
  unfoldable pub view : Held (machine setup) → After
  unfolding state_of
  view held = after (state_of held.power) held.rec held.answer

  -- a powered state is good
  unfoldable pub GoodPower : Power (machine setup) → Type 0
  GoodPower (on live) = Good setup live
  GoodPower off = Unit {0}

  -- the record is that of a good state
  pub record Kept (store : List ℕ) : Type 0 where
    pub of : Live
    pub good : Good setup of
    pub is : store ≡ record_for of.run of.credits

  kept-sized : (store : List ℕ) → Kept store → sized store ≡ true
  kept-sized store holds = ap sized holds.is ∙ record-sized setup holds.of.run holds.of.credits holds.good.credits

  -- such a record is readable
  pub kept-readable : (store : List ℕ) → Kept store → readable_in setup (brought_back store) ≡ true
  unfolding brought_back
  kept-readable store holds =
      let back = ap checkpoint_in holds.is ∙ kept-checkpoint setup ok holds.of holds.good in
      ap (λ (checkpoint : Checkpoint). readable_in setup (record {
        position = checkpoint.position;
        unsaved = 0;
        measured = holds.of.run.measured;
        alarms = checkpoint.alarms;
      })) back
      ∙ good-readable setup holds.of.run holds.good.run

  -- ---- one event is one step

  -- over an accepted bank
  known : (store : List ℕ) (state : State) (event : Event)
      → event_outcome setup store state event ≡ applied store state.credits (known_effect setup store state.power state.run event)
  unfolding event_outcome event_effect
  known store state event = rw ok.bank

  on-plain : (store : List ℕ) (live : Live) (event : Plain)
      → applied store live.credits (plain_effect setup true live.run event) ≡ view (step (machine setup) (on live) store (other event))
  unfolding view state_of
  on-plain store live event =
      let effect = plain_effect setup true live.run event in
      let left = plain-credit setup live.run event (credits_in store) live.credits live.credits in
      λ i.
      after (record { power = plain-power setup live.run event i; run = effect.run; credits = left i })
      (cond effect.saves (record_for effect.run (left i)) store)
      effect.answer

  one_plain : (store : List ℕ) (live : Live) (event : Plain) → Kept store
      → event_outcome setup store (powered live) (event_of event) ≡ view (step (machine setup) (on live) store (other event))
  one_plain store live event kept =
      known store (powered live) (event_of event)
      ∙ ap (applied store live.credits) (known-plain setup store true live.run event (kept-sized store kept))
      ∙ on-plain store live event

  pub one : (power : Power (machine setup)) (store : List ℕ) (event : Event) → GoodPower power → Kept store
      → event_outcome setup store (state_of power) event ≡ view (step (machine setup) power store (listed event))
  unfolding state_of view GoodPower listed refused_off known_effect retained_in sound_state both either cut_effect credited dark return_by
  one (on live) store (Event.Tick reading) well kept = one_plain store live (tick reading) kept
  one (on live) store (Event.Press command) well kept = one_plain store live (press command) kept
  one (on live) store Event.Cut well kept =
      known store (powered live) Event.Cut ∙ rw (good-sound setup live.run well.run, kept-sized store kept, ok.alarms)
  one (on live) store (Event.Return reading) well kept =
      known store (powered live) (Event.Return reading) ∙ rw (good-sound setup live.run well.run, kept-sized store kept, ok.alarms)
  one off store (Event.Tick reading) well kept = known store dark (Event.Tick reading) ∙ rw (kept-sized store kept, ok.alarms)
  one off store (Event.Press command) well kept = known store dark (Event.Press command) ∙ rw (kept-sized store kept, ok.alarms)
  one off store Event.Cut well kept = known store dark Event.Cut ∙ rw (kept-sized store kept, ok.alarms)
  one off store (Event.Return reading) well kept =
      known store dark (Event.Return reading) ∙ rw (kept-sized store kept, ok.alarms, kept-readable store kept) (go (outside_of reading))
    where
      go : (test : Bool)
          → applied store dark.credits
          (cond test (refused false dark_run Refusal.Outside) (return_effect setup store reading))
          ≡ view (off-back (machine setup) (not test) store reading)
      go true = refl
      go false = refl

  -- ---- what it leaves is good again

  -- the record after an event that saves, and after one that does not
  saved : (live : Live) → Good setup live → (event : Plain) (store : List ℕ) → Kept store → (test : Bool)
      → Kept (cond test ((machine setup).write (lived live (plain_effect setup true live.run event))) store)
  saved live well event store kept true =
      record { of = lived live (plain_effect setup true live.run event); good = good-live setup ok.bank live well event; is = refl }
  saved live well event store kept false = kept

  pub record GoodHeld (held : Held (machine setup)) : Type 0 where
    pub power : GoodPower held.power
    pub kept : Kept held.rec

  good-plain : (live : Live) → Good setup live → (event : Plain) (store : List ℕ) → Kept store → GoodHeld (step (machine setup) (on live) store (other event))
  unfolding GoodPower
  good-plain live well event store kept =
      record { power = good-live setup ok.bank live well event; kept = saved live well event store kept (plain_effect setup true live.run event).saves }

  pub good-one : (power : Power (machine setup)) (store : List ℕ) (event : Event) → GoodPower power → Kept store
      → GoodHeld (step (machine setup) power store (listed event))
  unfolding GoodPower listed
  good-one (on live) store (Event.Tick reading) well kept = good-plain live well (tick reading) store kept
  good-one (on live) store (Event.Press command) well kept = good-plain live well (press command) store kept
  good-one (on live) store Event.Cut well kept = record { power = tt; kept = kept }
  good-one (on live) store (Event.Return reading) well kept = record { power = well; kept = kept }
  good-one off store (Event.Tick reading) well kept = record { power = tt; kept = kept }
  good-one off store (Event.Press command) well kept = record { power = tt; kept = kept }
  good-one off store Event.Cut well kept = record { power = tt; kept = kept }
  good-one off store (Event.Return reading) well kept = returns (outside_of reading) refl
    where
      returns : (test : Bool) → outside_of reading ≡ test → GoodHeld (off-back (machine setup) (not test) store reading)
      returns true holds = record { power = tt; kept = kept }
      returns false holds =
          let back : returned_live setup reading (restored store) ≡ returned_live setup reading kept.of =
          ap (λ (bytes : List ℕ). returned_live setup reading (restored bytes)) kept.is ∙ back-again setup ok kept.of kept.good reading in
          let good = subst (Good setup) (sym back) (good-returned setup ok.bank kept.of kept.good reading holds) in
          record { power = good; kept = record { of = returned_live setup reading (restored store); good = good; is = refl } }

  -- ---- from what making gave

  pub made : (store : List ℕ) → sized store ≡ true → make_outcome setup store ≡ view (start (machine setup))
  unfolding make_outcome view state_of retained_in fresh
  made store whole = rw (ok.bank, whole, ok.alarms)

  pub good_start : GoodHeld (start (machine setup))
  unfolding GoodPower
  good_start =
      record { power = good-fresh setup ok.bank; kept = record { of = fresh_live; good = good-fresh setup ok.bank; is = refl } }

  -- ---- for a loop over events

  pub record Standing (state : State) (store : List ℕ) : Type 0 where
    pub power : Power (machine setup)
    pub is : state ≡ state_of power
    pub good : GoodPower power
    pub kept : Kept store

  -- from what making gave on
  pub stands-made : (store : List ℕ) → sized store ≡ true → Standing (make_outcome setup store).state (make_outcome setup store).store
  unfolding view
  stands-made store whole =
      subst (λ (left : After). Standing left.state left.store) (sym (made store whole))
      (record { power = (start (machine setup)).power; is = refl; good = good_start.power; kept = good_start.kept })

  module _ (state : State) (store : List ℕ) (stands : Standing state store) where
    pub stands-sized : sized store ≡ true
    stands-sized = kept-sized store stands.kept

    pub stands-sound : sound_state setup state.power state.run ≡ true
    unfolding GoodPower sound_state either state_of dark
    stands-sound = ap (λ (other : State). sound_state setup other.power other.run) stands.is ∙ go stands.power stands.good
      where
        go : (power : Power (machine setup)) → GoodPower power → sound_state setup (state_of power).power (state_of power).run ≡ true
        go (on live) well = good-sound setup live.run well.run
        go off well = refl

    pub stands-long : length state.credits ≡ 99
    unfolding GoodPower state_of dark
    stands-long = ap (λ (other : State). length other.credits) stands.is ∙ go stands.power stands.good
      where
        go : (power : Power (machine setup)) → GoodPower power → length (state_of power).credits ≡ 99
        go (on live) well = well.credits.long
        go off well = refl

    -- there an event is what it is over an accepted bank
    pub stands-known : (event : Event)
        → event_outcome setup store state event ≡ applied store state.credits (known_effect setup store state.power state.run event)
    stands-known event = known store state event

    pub stands-next : (event : Event) → Standing (event_outcome setup store state event).state (event_outcome setup store state event).store
    unfolding view
    stands-next event =
        let held = step (machine setup) stands.power store (listed event) in
        let well = good-one stands.power store event stands.good stands.kept in
        let seen =
        ap (λ (other : State). event_outcome setup store other event) stands.is ∙ one stands.power store event stands.good stands.kept in
        subst (λ (left : After). Standing left.state left.store) (sym seen)
        (record { power = held.power; is = refl; good = well.power; kept = well.kept })

-- the same, with a setup that no refusal meets
pub record Stands (setup : Setup) (state : State) (store : List ℕ) : Type 0 where
  pub ok : Usable setup
  pub standing : Standing setup ok state store

-- ---- where making is refused, each event of a list is answered alike, and changes nothing

module _ (setup : Setup) (store : List ℕ) where
  -- an answer that every event gets, and leaves all
  alike : (answer : Answer) → ((event : Event) → event_outcome setup store dark event ≡ after dark store answer) → (events : List Event)
      → events_from setup (after dark store answer) events ≡ after dark store answer
  unfolding events_from
  alike answer holds [] = refl
  alike answer holds (event ∷ events) = ap (λ (left : After). events_from setup left events) (holds event) ∙ alike answer holds events

  -- 11 to 14
  no-bank : {refusal : BankRefusal} → found_in setup.bank ≡ Err refusal → (events : List Event)
      → events_from setup (after dark store (Err (AnyRefusal.Bank refusal))) events ≡ after dark store (Err (AnyRefusal.Bank refusal))
  unfolding event_outcome event_effect credited
  no-bank {refusal} holds events = alike (Err (AnyRefusal.Bank refusal)) (λ event. rw holds) events

  -- 22, 41
  no_call : (answer : Refusal) → found_in setup.bank ≡ Accepted
      → ((event : Event) → known_effect setup store false dark_run event ≡ refused false dark_run answer) → (events : List Event)
      → events_from setup (after dark store (Err (AnyRefusal.Own answer))) events ≡ after dark store (Err (AnyRefusal.Own answer))
  unfolding event_outcome event_effect credited dark
  no_call answer holds known events = alike (Err (AnyRefusal.Own answer)) (λ event. rw (holds, known event)) events

  no_buffer : sized store ≡ false → (event : Event) → known_effect setup store false dark_run event ≡ refused false dark_run Refusal.Buffer
  unfolding known_effect retained_in sound_state either
  no_buffer whole event = rw whole

  no-setting : sized store ≡ true → all_in_range setup.config.alarms ≡ false → (event : Event)
      → known_effect setup store false dark_run event ≡ refused false dark_run Refusal.AlarmSetting
  unfolding known_effect retained_in sound_state either
  no-setting whole right event = rw (whole, right)

  -- what making leaves, by its three tests
  made_by : Checked → Bool → Bool → After
  made_by found whole right =
      unless found (λ refusal. after dark store (Err (AnyRefusal.Bank refusal)))
      (cond (not whole) (after dark store (Err (AnyRefusal.Own Refusal.Buffer)))
      (cond (not right) (after dark store (Err (AnyRefusal.Own Refusal.AlarmSetting)))
      (after fresh (record_for fresh.run fresh.credits) (Ok (shown_in setup fresh.run)))))

  -- so what such a list leaves is what making left
  pub not_made : is_accepted (make_outcome setup store).answer ≡ false → (events : List Event)
      → events_from setup (make_outcome setup store) events ≡ make_outcome setup store
  unfolding make_outcome retained_in is_accepted made_by
  not_made holds events = go (found_in setup.bank) refl (sized store) refl (all_in_range setup.config.alarms) refl holds
    where
      go : (found : Checked) → found_in setup.bank ≡ found → (whole : Bool) → sized store ≡ whole → (right : Bool)
          → all_in_range setup.config.alarms ≡ right → is_accepted (made_by found whole right).answer ≡ false
          → events_from setup (made_by found whole right) events ≡ made_by found whole right
      go (Ok done) found-is true whole_is true right_is refused-by = absurd (false≢true (sym refused-by))
      go (Ok done) found-is true whole_is false right_is refused-by = no_call Refusal.AlarmSetting found-is (no-setting whole_is right_is) events
      go (Ok done) found-is false whole_is right right_is refused-by = no_call Refusal.Buffer found-is (no_buffer whole_is) events
      go (Err refusal) found-is whole whole_is right right_is refused-by = no-bank found-is events

  -- and where making is accepted, no refusal meets the setup, and the record has its size
  pub made-begins : is_accepted (make_outcome setup store).answer ≡ true → Usable setup × (sized store ≡ true)
  unfolding make_outcome retained_in is_accepted made_by
  made-begins holds = go (found_in setup.bank) refl (sized store) refl (all_in_range setup.config.alarms) refl holds
    where
      go : (found : Checked) → found_in setup.bank ≡ found → (whole : Bool) → sized store ≡ whole → (right : Bool)
          → all_in_range setup.config.alarms ≡ right → is_accepted (made_by found whole right).answer ≡ true → Usable setup × (sized store ≡ true)
      go (Ok done) found-is true whole_is true right_is accepted-by = (record { bank = found-is; alarms = right_is }, whole_is)
      go (Ok done) found-is true whole_is false right_is accepted-by = absurd (false≢true accepted-by)
      go (Ok done) found-is false whole_is right right_is accepted-by = absurd (false≢true accepted-by)
      go (Err refusal) found-is whole whole_is right right_is accepted-by = absurd (false≢true accepted-by)
