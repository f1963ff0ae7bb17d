-- Demand 3, as a statement about every accepted bank with settings in range, every record buffer of the record's size and every list of events.
-- Assumes nothing.
use Rattle.std.specs.Prelude.{◌≡◌, Bool, true, false, List, [], ◌∷◌, map, ℕ, ◌-◌, ◌≤◌, min, pos, get_or}
use Rattle.outage.specs.Outage.{RemainingOf, replay, strike, remaining_of}
use Rattle.outage.specs.Credit.{due}
use Rattle.plain.specs.declared.Event.{Event}
use Rattle.plain.specs.Setup.{Setup}
use Rattle.plain.specs.Run.{readable_in, shown_in}
use Rattle.plain.specs.Event.{After, dark, record_for, brought_back}
use Rattle.plain.specs.Replay.{Live, machine, listed, counted}
use Rattle.plain.specs.Answer.{Answer}

module _ (setup : Setup) (events : List Event) where
  -- what is left of the list, and whether power is on after it
  unfoldable pub remaining : RemainingOf (machine setup)
  remaining = (remaining_of (machine setup) (map listed events)).remaining

  unfoldable pub on_after : Bool
  on_after = (remaining_of (machine setup) (map listed events)).is-on

  -- the replay machine run over what is left: its state and its last answer
  unfoldable pub replayed : Live × Answer
  replayed = replay (machine setup) remaining

  -- the state at the last save in what is left
  unfoldable pub last_saved : Live
  last_saved = (replay (machine setup) (strike (machine setup) remaining)).0

  -- the ticks counted in step k since the last accepted start in what is left, 0 if there is none
  unfoldable pub ticks_counted : ℕ → ℕ
  ticks_counted k = due (machine setup) (counted setup) remaining k

  module _ (left : After) where
    -- with power on after the list: each state field, the set value, the signals and the whole last answer are the replay machine's, and
    -- the credit of each step is the number of ticks counted in it, held at 4,294,967,295
    pub record Replays : Type 0 where
      pub power : left.state.power ≡ true
      pub position : left.state.run.position ≡ replayed.0.run.position
      pub unsaved : left.state.run.unsaved ≡ replayed.0.run.unsaved
      pub measured : left.state.run.measured ≡ replayed.0.run.measured
      pub alarms : left.state.run.alarms ≡ replayed.0.run.alarms
      pub credits : left.state.credits ≡ replayed.0.credits
      pub shown : shown_in setup left.state.run ≡ shown_in setup replayed.0.run
      pub answer : left.answer ≡ replayed.1
      pub ticks : (k : ℕ) → 1 ≤ k → k ≤ 99 → get_or left.state.credits (k - 1) 0 ≡ min (ticks_counted k) 4294967295

    -- demand 3 of what a list of events left
    pub record Demand3 : Type 0 where
      pub is-on : left.state.power ≡ on_after
      pub replays : on_after ≡ true → Replays
      -- beside it: with power off the state is all zeros
      pub is-dark : on_after ≡ false → left.state ≡ dark
      -- the record is that of the last save in what is left, and readable
      pub kept : left.store ≡ record_for last_saved.run last_saved.credits
      pub readable : readable_in setup (brought_back left.store) ≡ true
      -- and no event is ever refused with 31
      pub never-31 : left.numbers ≡ pos 31 ∷ [] → ⊥
