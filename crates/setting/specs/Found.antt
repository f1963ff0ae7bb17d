-- What a check of a bank, or of a part of it, finds: nothing wrong, or the first wrong field.
-- Assumes nothing.
use Rattle.std.specs.Prelude.{ℕ, Bool, true, false, List, [], ◌∷◌, Ok, Err}
use Rattle.std.specs.Prelude.{Result}
use Rattle.setting.specs.declared.BankRefusal.{BankRefusal}
use Rattle.setting.specs.declared.BankRefusal.TheVariants.{Short, Setting, Pair, Body}

abbrev pub Checked : Type 0
Checked = Result (Unit {0}) BankRefusal

abbrev pub Accepted : Checked
Accepted = Ok tt

-- the document's number and values of each case; 0 is accepted
unfoldable pub numbers_of : Checked → List ℕ
numbers_of (Ok done) = 0 ∷ []
numbers_of (Err Short) = 11 ∷ []
numbers_of (Err (Setting offset)) = 12 ∷ offset ∷ []
numbers_of (Err (Pair pair)) = 13 ∷ pair ∷ []
numbers_of (Err (Body pattern step)) = 14 ∷ pattern ∷ step ∷ []

-- a test that is right goes on; one that is not ends the check
unfoldable pub test : Bool → Checked → Checked → Checked
test true wrong next = next
test false wrong next = wrong

-- whether nothing wrong was found
abbrev pub is_accepted : Checked → Bool
is_accepted (Ok done) = true
is_accepted (Err refusal) = false

-- `next` if nothing wrong was found, or else what `wrong` makes of the first wrong field
abbrev pub unless : {A : Type 0} → Checked → (BankRefusal → A) → A → A
unless (Ok done) wrong next = next
unless (Err refusal) wrong next = wrong refusal

-- what is found first, or else what is found next
unfoldable pub then : Checked → Checked → Checked
then found next = unless found Err next
