-- What a program that reads can promise: that there is an input, whose bytes were run.
-- Assumes nothing.
use Rattle.std.specs.Prelude.{ℕ, true, List, ◌≡◌}
use Rattle.std.specs.ControlFlow.{MatchControlFlow}
use Rattle.std.specs.declared.ops.ControlFlow.{ControlFlow}
use Rattle.setting.specs.Found.{is_accepted}
use Rattle.bank.specs.Check.{found_in}
use Rattle.plain.specs.Setup.{Setup}
use Rattle.plain.specs.Event.{State}
use Rattle.line.specs.declared.Between.{Between}
use Rattle.line.specs.Part.{Sheet, part_of, end_of, found, no_text}
use Rattle.line.specs.Sheet.{all_of}

-- a part of the input was run: it leaves state, record and line
pub record Part (setup : Setup) (before left : Sheet) : Type 0 where
  pub input : List ℕ
  pub is : left ≡ no_text (part_of setup before input)

-- the input was run to its end
pub record Whole (setup : Setup) (before left : Sheet) : Type 0 where
  pub input : List ℕ
  pub is : left ≡ no_text (end_of setup (part_of setup before input))

-- lines were read once: where the input goes on, a part of it was run; where it ends, the whole
abbrev pub Turned : Setup → Sheet → List ℕ → ControlFlow Between Between → Type 0
Turned setup before store turn =
    MatchControlFlow turn (λ next. Part setup before (found next store)) (λ last. Whole setup before (found last store))

-- all lines of the input were run, by a controller that was made over an accepted bank
pub record All (setup : Setup) (left : State) : Type 0 where
  pub accepted : is_accepted (found_in setup.bank) ≡ true
  pub input : List ℕ
  pub is : left ≡ (all_of setup input).state
