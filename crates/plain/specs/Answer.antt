-- What a caller gets back: the document's number and values of each answer.
-- Assumes nothing.
use Rattle.std.specs.Prelude.{ℕ, Bool, true, false, List, [], ◌∷◌, map, ℤ, pos, Option, None, Some}
use Rattle.setting.specs.Found.{numbers_of as bank_numbers}
use Rattle.plain.specs.declared.Refusal.{Refusal}
use Rattle.std.specs.Prelude.{Result, Ok, Err}
use Rattle.position.specs.declared.Shown.{Shown}
use Rattle.plain.specs.declared.AnyRefusal.{AnyRefusal}

-- what is shown if it is accepted, or what it is refused for
abbrev pub Answer : Type 0
Answer = Result Shown AnyRefusal

-- the number of each refusal, in their order: 21, 22, 41, 23 to 31
unfoldable pub number_of : Refusal → ℕ
number_of Refusal.Unsound = 21
number_of Refusal.Buffer = 22
number_of Refusal.AlarmSetting = 41
number_of Refusal.PowerOff = 23
number_of Refusal.PowerOn = 24
number_of Refusal.Outside = 25
number_of Refusal.NoPattern = 26
number_of Refusal.WrongMode = 27
number_of Refusal.NoStep = 28
number_of Refusal.NoValue = 29
number_of Refusal.Stuck = 30
number_of Refusal.Unreadable = 31

-- a signal as a number
abbrev pub bit : Bool → ℤ
bit true = pos 1
bit false = pos 0

-- the number and values of each answer: 0, set value and signals; those of the bank's refusals; the refusal's number
unfoldable pub numbers_of : Answer → List ℤ
numbers_of (Ok shown) =
    pos 0 ∷ shown.value ∷ bit shown.signals.first ∷ bit shown.signals.second ∷ bit shown.signals.third
    ∷ bit shown.signals.fourth ∷ []
numbers_of (Err (AnyRefusal.Bank refusal)) = map pos (bank_numbers (Err refusal))
numbers_of (Err (AnyRefusal.Own refusal)) = pos (number_of refusal) ∷ []

unfoldable pub is_accepted : Answer → Bool
is_accepted (Ok shown) = true
is_accepted (Err refusal) = false

-- of a reply; 99 is the answer to bytes that are no list
unfoldable pub reply_numbers : Option Answer → List ℤ
reply_numbers None = pos 99 ∷ []
reply_numbers (Some answer) = numbers_of answer
