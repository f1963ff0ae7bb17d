-- The code's state as the definitions' state, and what a call leaves.
-- Assumes nothing.
use Rattle.std.specs.Prelude.{ℕ, List}
use Rattle.plain.specs.Event as event
use Rattle.controller.specs.declared.State.{State}
use Rattle.plain.specs.Answer.{Answer}

abbrev pub state_of : State → event.State
state_of state = record { power = state.power; run = state.run; credits = state.credits }

abbrev pub after : State → List ℕ → Answer → event.After
after state store answer = event.after (state_of state) store answer
