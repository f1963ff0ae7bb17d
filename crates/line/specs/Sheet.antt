-- The programs `sheet` and `credits`: what they print for a bank and an input.
-- Assumes nothing.
use Rattle.std.specs.Prelude.{ℕ, ◌+◌, cond, List, [], ◌∷◌, ◌++◌, eqb, pos, replicate}
use Rattle.setting.specs.Found.{unless}
use Rattle.bank.specs.Check.{found_in}
use Rattle.plain.specs.Record.{record_size}
use Rattle.plain.specs.Setup.{Setup}
use Rattle.plain.specs.Event.{make_outcome}
use Rattle.decimal.specs.Text.{line_of}
use Rattle.line.specs.Text.{refusal, Answered, answered, answered_to}

-- a last line without a newline counts if it is not empty
abbrev pub last_line : List ℕ → List (List ℕ)
last_line [] = []
last_line (c ∷ cs) = (c ∷ cs) ∷ []

-- the lines of an input, each without the newline (10) that ends it; `line` is what came before, of the first of them
unfoldable pub lines_from : List ℕ → List ℕ → List (List ℕ)
lines_from line [] = last_line line
lines_from line (c ∷ cs) = cond (eqb c 10) (line ∷ lines_from [] cs) (lines_from (line ++ (c ∷ [])) cs)

-- a line behind others: it gets the state and record that they left, and its text follows theirs
unfoldable pub next_line : Setup → Answered → List ℕ → Answered
next_line setup before line =
    let next = answered_to setup before.store before.state line in
    answered next.state next.store (before.printed ++ next.printed)

-- lines one after the other
unfoldable pub answers_to : Setup → Answered → List (List ℕ) → Answered
answers_to setup before [] = before
answers_to setup before (line ∷ lines) = answers_to setup (next_line setup before line) lines

-- a controller is made over a record of zeros
unfoldable pub made : Setup → Answered
made setup = let first = make_outcome setup (replicate record_size 0) in answered first.state first.store []

-- and the lines of the input are run by it
unfoldable pub all_of : Setup → List ℕ → Answered
all_of setup input = answers_to setup (made setup) (lines_from [] input)

-- what `sheet` prints
unfoldable pub sheet_text : Setup → List ℕ → List ℕ
sheet_text setup input = unless (found_in setup.bank) refusal (all_of setup input).printed

-- a line "k seconds" for each step whose credit is not 0; k is the step of the first credit
unfoldable pub credit_lines : ℕ → List ℕ → List ℕ
credit_lines k [] = []
credit_lines k (credit ∷ credits) = cond (eqb credit 0) [] (line_of (pos k ∷ pos credit ∷ [])) ++ credit_lines (k + 1) credits

-- what `credits` prints, after the last line
unfoldable pub credits_text : Setup → List ℕ → List ℕ
credits_text setup input = unless (found_in setup.bank) refusal (credit_lines 1 (all_of setup input).state.credits)
