-- An input that comes in parts, and what a call leaves for each: what the functions of `line` and `credit_lines` promise.
-- Assumes nothing.
use Rattle.std.specs.Prelude.{ℕ, ◌+◌, ◌*◌, ◌≡◌, Bool, cond, List, [], ◌∷◌, ◌++◌, eqb, leb, length, take, Result, Ok, Err}
use Rattle.std.proofs.lemmas.List.Edits.{sets}
use Rattle.setting.specs.Found.{is_accepted, unless}
use Rattle.setting.specs.declared.BankRefusal.{BankRefusal}
use Rattle.bank.specs.Check.{found_in}
use Rattle.plain.specs.Setup.{Setup}
use Rattle.plain.specs.Event.{State, make_outcome}
use Rattle.controller.specs.Holds.{state_of}
use Rattle.decimal.specs.Text.{Put, put, put_text}
use Rattle.line.specs.declared.Between.{Between}
use Rattle.line.specs.declared.Ran.{Ran}
use Rattle.line.specs.Text.{refusal, answered_to}
use Rattle.line.specs.Sheet as whole
use Rattle.line.specs.Sheet.{credit_lines}

-- a sheet within its input: state, record, the line so far and the text so far
pub record Sheet : Type 0 where
  pub state : State
  pub store : List ℕ
  pub line : List ℕ
  pub text : List ℕ

-- the line so far is answered
unfoldable pub ended : Setup → Sheet → Sheet
ended setup sheet =
    let answer = answered_to setup sheet.store sheet.state sheet.line in
    record { state = answer.state; store = answer.store; line = []; text = sheet.text ++ answer.printed }

-- a byte of the input: the newline (10) ends the line; of any other line the first 16 bytes are kept, which ask for what the whole line asks for
unfoldable pub byte_of : Setup → Sheet → ℕ → Sheet
byte_of setup sheet c =
    cond (eqb c 10) (ended setup sheet)
    (record { state = sheet.state; store = sheet.store; line = take 16 (sheet.line ++ (c ∷ [])); text = sheet.text })

-- a part of the input
unfoldable pub part_of : Setup → Sheet → List ℕ → Sheet
part_of setup sheet [] = sheet
part_of setup sheet (c ∷ cs) = part_of setup (byte_of setup sheet c) cs

-- the end of the input: a last line without a newline counts if it is not empty
unfoldable pub end_of : Setup → Sheet → Sheet
end_of setup sheet = cond (eqb (length sheet.line) 0) sheet (ended setup sheet)

-- ---- what the calls print and leave, for an input that comes in parts

-- a sheet whose text was written
abbrev pub no_text : Sheet → Sheet
no_text sheet = record { state = sheet.state; store = sheet.store; line = sheet.line; text = [] }

-- the text of all calls, one behind the other: a call for each part, and one for the end
unfoldable pub printed : Setup → Sheet → List (List ℕ) → List ℕ
printed setup sheet [] = (end_of setup sheet).text
printed setup sheet (part ∷ parts) = (part_of setup sheet part).text ++ printed setup (no_text (part_of setup sheet part)) parts

-- the sheet that the last call leaves
unfoldable pub left_by : Setup → Sheet → List (List ℕ) → Sheet
left_by setup sheet [] = end_of setup sheet
left_by setup sheet (part ∷ parts) = left_by setup (no_text (part_of setup sheet part)) parts

-- the sheet of a made controller
unfoldable pub begun : Setup → Sheet
begun setup = let made = whole.made setup in record { state = made.state; store = made.store; line = []; text = [] }

-- ---- what a call leaves: state, record, the line so far, the buffer with the text at its front, and where the text ends

pub record After : Type 0 where
  pub state : State
  pub store : List ℕ
  pub line : List ℕ
  pub out : List ℕ
  pub end : ℕ

abbrev pub after : Ran → List ℕ → List ℕ → After
after ran store out =
    let between = ran.between in
    record { state = state_of between.state; store = store; line = take between.kept between.line; out = out; end = ran.end }

-- what the beginning leaves, of an accepted bank or of a refused one
abbrev pub left_by_start : Result Ran Ran → Ran
left_by_start (Ok ran) = ran
left_by_start (Err ran) = ran

-- a sheet as a call finds it, with no text yet
abbrev pub found : Between → List ℕ → Sheet
found between store = record { state = state_of between.state; store = store; line = take between.kept between.line; text = [] }

-- as a call leaves it
abbrev pub leaving : Sheet → List ℕ → After
leaving sheet out =
    record { state = sheet.state; store = sheet.store; line = sheet.line; out = sets out 0 sheet.text; end = length sheet.text }

-- a part is run if the buffer has 168 bytes, eight numbers of 21, for each of its bytes; else nothing changes
unfoldable pub run_of : Setup → Sheet → List ℕ → List ℕ → After
run_of setup sheet input out = cond (leb (168 * length input) (length out)) (leaving (part_of setup sheet input) out) (leaving sheet out)

-- the end of the input; a buffer of fewer than 168 bytes changes nothing
unfoldable pub finish_of : Setup → Sheet → List ℕ → After
finish_of setup sheet out = cond (leb 168 (length out)) (leaving (end_of setup sheet) out) (leaving sheet out)

-- the text of a refusal, in a buffer of 168 bytes or more
abbrev pub refusal_in : List ℕ → BankRefusal → List ℕ
refusal_in out refused = cond (leb 168 (length out)) (refusal refused) []

-- the beginning: a controller is made, and nothing is printed; of a refused bank the refusal's numbers
unfoldable pub start_of : Setup → List ℕ → List ℕ → After
start_of setup store out =
    let made = make_outcome setup store in
    let text = unless (found_in setup.bank) (refusal_in out) [] in
    leaving (record { state = made.state; store = made.store; line = []; text = text }) out

-- what the beginning leaves, and whether the bank is accepted
pub record Begun (setup : Setup) (store out : List ℕ) (left : After) (accepted : Bool) : Type 0 where
  pub is : left ≡ start_of setup store out
  pub found : accepted ≡ is_accepted (found_in setup.bank)

-- the credits, in a buffer of 99 lines of 42 bytes or more: what it holds and where the text ends
unfoldable pub credits_of : List ℕ → List ℕ → Put
credits_of credits out = cond (leb 4158 (length out)) (put_text out 0 (credit_lines 1 credits)) (put out 0)

-- ---- within a call

-- the line so far is answered, and its text stands at a place of the buffer
unfoldable pub took_line : Setup → Sheet → List ℕ → ℕ → After
took_line setup sheet out at =
    let answer = answered_to setup sheet.store sheet.state sheet.line in
    record { state = answer.state; store = answer.store; line = []; out = sets out at answer.printed; end = at + length answer.printed }

-- a byte of the input is taken
unfoldable pub took_byte : Setup → Sheet → List ℕ → ℕ → ℕ → After
took_byte setup sheet out at c =
    cond (eqb c 10) (took_line setup sheet out at)
    (record { state = sheet.state; store = sheet.store; line = take 16 (sheet.line ++ (c ∷ [])); out = out; end = at })
