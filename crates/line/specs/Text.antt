-- What a line of `sheet` leaves and prints.
-- Assumes nothing.
use Rattle.std.specs.Prelude.{ℕ, List, [], ◌∷◌, map, ℤ, pos, get_or, Option, None, Some, Err}
use Rattle.setting.specs.Found.{numbers_of as bank_numbers}
use Rattle.position.specs.Program.{set_value_of}
use Rattle.plain.specs.declared.Run.{Run}
use Rattle.plain.specs.Setup.{Setup, here_in}
use Rattle.plain.specs.Event.{State, After, event_outcome}
use Rattle.decimal.specs.Text.{line_of}
use Rattle.key.specs.Line.{asked_by}
use Rattle.setting.specs.declared.BankRefusal.{BankRefusal}
use Rattle.plain.specs.declared.Event.{Event}

-- "Each prints answer (0 accepted), mode, p, k, r, e, w, set value"
unfoldable pub eight : Setup → ℤ → Run → List ℤ
eight setup number run =
    let position = run.position in
    number ∷ pos position.mode ∷ pos position.pattern ∷ pos position.step ∷ pos position.pass ∷ pos position.elapsed
    ∷ pos position.waited ∷ set_value_of (here_in setup position) position ∷ []

-- "A refused bank prints its refusal's numbers and nothing more"
unfoldable pub refusal : BankRefusal → List ℕ
refusal refused = line_of (map pos (bank_numbers (Err refused)))

-- what a line, or several, leave: state, record and the text printed
pub record Answered : Type 0 where
  pub state : State
  pub store : List ℕ
  pub printed : List ℕ

abbrev pub answered : State → List ℕ → List ℕ → Answered
answered state store printed = record { state = state; store = store; printed = printed }

-- state and record with the text of a number and the seven of the state
abbrev pub said : Setup → State → List ℕ → ℤ → Answered
said setup state store number = answered state store (line_of (eight setup number state.run))

-- what an event leaves, with the number of its answer
unfoldable pub showing : Setup → After → Answered
showing setup left = said setup left.state left.store (get_or left.numbers 0 (pos 0))

-- "a line of any other form prints 99 and the seven unchanged"
unfoldable pub asked_for : Setup → List ℕ → State → Option Event → Answered
asked_for setup store state None = said setup state store (pos 99)
asked_for setup store state (Some event) = showing setup (event_outcome setup store state event)

unfoldable pub answered_to : Setup → List ℕ → State → List ℕ → Answered
answered_to setup store state line = asked_for setup store state (asked_by line)
