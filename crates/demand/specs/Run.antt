-- What running a list of events, given as bytes, leaves; and demand 3 of it.
-- Assumes nothing.
use Rattle.std.specs.Prelude.{ℕ, ◌≡◌, true, cond, List, ℤ, Option, None, Some, Err}
use Rattle.plain.specs.declared.Refusal.{Refusal}
use Rattle.plain.specs.Record.{sized}
use Rattle.plain.specs.Setup.{Setup, Usable}
use Rattle.plain.specs.Answer.{reply_numbers, Answer}
use Rattle.plain.specs.Event.{State, After, after, dark, final}
use Rattle.plain.specs.Listed.{events_in, formed}
use Rattle.demand.specs.Demand.{Demand3}
use Rattle.plain.specs.declared.AnyRefusal.{AnyRefusal}

-- what a run leaves: state, record and reply, the reply with its number and values
pub record AfterRun : Type 0 where
  pub state : State
  pub store : List ℕ
  pub reply : Option Answer
  pub numbers : List ℤ

abbrev pub after_run : State → List ℕ → Option Answer → AfterRun
after_run state store reply = record { state = state; store = store; reply = reply; numbers = reply_numbers reply }

abbrev pub given : After → AfterRun
given left = after_run left.state left.store (Some left.answer)

-- bytes that are no list are answered 99 and change nothing, the state all zeros; else the events follow what making gave
unfoldable pub run_outcome : Setup → List ℕ → List ℕ → AfterRun
run_outcome setup store bytes = cond (formed bytes) (given (final setup store (events_in bytes))) (after_run dark store None)

-- the answer that a reply gives; bytes that are no list have none, and nothing is said of them by it
unfoldable pub answer_in : Option Answer → Answer
answer_in None = Err (AnyRefusal.Own Refusal.Unsound)
answer_in (Some answer) = answer

-- demand 3 of what a run leaves, over an accepted bank with settings in range, a record of its size and bytes that are a list
abbrev pub Meets : Setup → List ℕ → List ℕ → AfterRun → Type 0
Meets setup store bytes left =
    Usable setup → sized store ≡ true → formed bytes ≡ true
    → Demand3 setup (events_in bytes) (after left.state left.store (answer_in left.reply))
