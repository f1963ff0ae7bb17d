-- A bank read into arrays: its settings and its patterns, or the refusal.
-- Assumes nothing.
use Rattle.std.specs.Prelude.{ℕ, List, [], ◌∷◌, ◌++◌, map, replicate, Result, Ok, Err}
use Rattle.std.proofs.lemmas.List.Edits.{sets}
use Rattle.bank.specs.View.{Pattern, patterns_of, no_step}
use Rattle.setting.specs.Setting.{settings_at}
use Rattle.setting.specs.Found.{Checked, numbers_of, unless}
use Rattle.bank.specs.Check.{found_in}
use Rattle.setting.specs.declared.Settings.{Settings}
use Rattle.bank.specs.declared.Step.{Step}
use Rattle.arrays.specs.declared.Patterns.{Patterns}
use Rattle.arrays.specs.declared.Bank.{Bank}
use Rattle.setting.specs.declared.BankRefusal.{BankRefusal}

-- the steps of patterns, one pattern after the other
unfoldable pub all_steps : List Pattern → List Step
all_steps [] = []
all_steps (x ∷ xs) = x.steps ++ all_steps xs

-- patterns laid out from the front of arrays of 15 and 99 places; the places behind them are 0
unfoldable pub laid_out : List Pattern → Patterns
laid_out ps = record {
  runs = sets (replicate 15 0) 0 (map (λ x. x.runs) ps);
  counts = sets (replicate 15 0) 0 (map (λ x. x.count) ps);
  steps = sets (replicate 99 no_step) 0 (all_steps ps);
}

-- an accepted bank reads as its settings and patterns, any other as its refusal
unfoldable pub read_as : Checked → Settings → List Pattern → Result Bank BankRefusal
read_as found set ps = unless found Err (Ok (record { settings = set; patterns = laid_out ps }))

unfoldable pub read_of : List ℕ → Result Bank BankRefusal
read_of bank = read_as (found_in bank) (settings_at bank) (patterns_of bank)

-- what a call of the reader gives: a refusal's numbers, or the bank
abbrev pub given : Result Bank BankRefusal → Result Bank (List ℕ)
given (Ok bank) = Ok bank
given (Err refusal) = Err (numbers_of (Err refusal))
