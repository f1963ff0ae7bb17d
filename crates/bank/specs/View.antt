-- What the bytes of a bank say behind the settings: its patterns with their steps.
-- Assumes nothing.
use Rattle.std.specs.Prelude.{ℕ, zero, suc, ◌+◌, ◌*◌, ◌-◌, ◌/◌, List, [], ◌∷◌, get_or, pos}
use Rattle.std.specs.Int.{w16}
use Rattle.field.specs.Field.{field, signed_field}
use Rattle.field.specs.Tab.{tab}
use Rattle.bank.specs.declared.Step.{Step}
use Rattle.bank.specs.declared.Place.{Place}

-- pair p (from 1) of body offset and length
abbrev pub offset_of : List ℕ → ℕ → ℕ
offset_of bank p = field 2 bank (41 + 4 * p)

abbrev pub length_of : List ℕ → ℕ → ℕ
length_of bank p = field 2 bank (43 + 4 * p)

-- the s of a length 2 + 9s
abbrev pub steps_in : ℕ → ℕ
steps_in len = (len - 2) / 9

-- the step of nine bytes at an offset: target, minutes, wait number, four time signals
unfoldable pub step_at : List ℕ → ℕ → Step
step_at bank at = record {
  target = signed_field w16 bank at;
  minutes = field 2 bank (at + 2);
  wait = field 1 bank (at + 4);
  signals = tab (field 1 bank) 1 (at + 5) 4;
}

-- a pattern: runs, count (the body's s), and its steps
pub record Pattern : Type 0 where
  pub runs : ℕ
  pub count : ℕ
  pub steps : List Step

-- the body of pattern p (from 1): runs, s, then the steps of its length
unfoldable pub pattern_at : List ℕ → ℕ → Pattern
pattern_at bank p = record {
  runs = field 1 bank (offset_of bank p);
  count = field 1 bank (offset_of bank p + 1);
  steps = tab (step_at bank) 9 (offset_of bank p + 2) (steps_in (length_of bank p));
}

-- the n patterns
unfoldable pub patterns_of : List ℕ → List Pattern
patterns_of bank = tab (pattern_at bank) 1 1 (field 1 bank 0)

-- pattern p and its step k, counted from 1; nothing at a number that is not there
unfoldable pub no_pattern : Pattern
no_pattern = record { runs = 0; count = 0; steps = [] }

unfoldable pub no_step : Step
no_step = record { target = pos 0; minutes = 0; wait = 0; signals = 0 ∷ 0 ∷ 0 ∷ 0 ∷ [] }

unfoldable pub numbered : {A : Type 0} → A → List A → ℕ → A
numbered none xs zero = none
numbered none xs (suc i) = get_or xs i none

unfoldable pub pattern_of : List ℕ → ℕ → Pattern
pattern_of bank p = numbered no_pattern (patterns_of bank) p

unfoldable pub step_of : List ℕ → ℕ → ℕ → Step
step_of bank p k = numbered no_step (pattern_of bank p).steps k

-- both, with runs and count of the pattern
unfoldable pub place_of : List ℕ → ℕ → ℕ → Place
place_of bank p k = record { step = step_of bank p k; count = (pattern_of bank p).count; runs = (pattern_of bank p).runs }
