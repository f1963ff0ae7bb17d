-- What making is refused for, and what it leaves, as the code gives it.
-- Assumes nothing.
use Rattle.std.specs.Prelude.{List, ℕ, Result, Ok, Err}
use Rattle.setting.specs.Found.{unless}
use Rattle.bank.specs.Check.{found_in}
use Rattle.plain.specs.declared.AnyRefusal.{AnyRefusal}
use Rattle.plain.specs.Answer.{Answer}
use Rattle.plain.specs.Setup.{Setup}
use Rattle.plain.specs.Run.{shown_in}
use Rattle.plain.specs.Refusals.{judged, call_rows}
use Rattle.plain.specs.Event.{State, After, after, fresh, dark, record_for, retained_in}
use Rattle.making.specs.declared.Ran.{Ran}

-- 11 to 14, then 22 and 41, or none of these
unfoldable pub allowed_by : Setup → List ℕ → Result (Unit {0}) AnyRefusal
allowed_by setup store =
    unless (found_in setup.bank) (λ refusal. Err (AnyRefusal.Bank refusal))
    (judged (call_rows setup (retained_in setup store)) (λ refusal. Err (AnyRefusal.Own refusal)) (Ok tt))

-- what a call leaves: state, record and answer
abbrev pub ran_state : Ran → State
ran_state ran = record { power = ran.power; run = ran.run; credits = ran.credits }

abbrev pub after_ran : Ran → List ℕ → After
after_ran ran store = after (ran_state ran) store ran.answer

-- what making leaves where nothing is refused
abbrev pub begun : Setup → After
begun setup = after fresh (record_for fresh.run fresh.credits) (Ok (shown_in setup fresh.run))

-- the state with power off, and an answer
abbrev pub dark_ran : Answer → Ran
dark_ran answer = record { power = dark.power; run = dark.run; credits = dark.credits; answer = answer }
