-- The record in retained memory: its parts, one behind the other, and what they hold.
-- Assumes nothing.
use Rattle.std.specs.Prelude.{ℕ, Bool, List, [], ◌∷◌, ◌++◌, eqb, length, take, replicate}
use Rattle.std.specs.Int.{w16}
use Rattle.std.proofs.Common.{of_z}
use Rattle.field.specs.Field.{field, signed_field}
use Rattle.field.specs.Row.{row, row_at, total}
use Rattle.position.specs.declared.Position.{Position}
use Rattle.alarm.specs.declared.Alarms.{Alarms}
use Rattle.alarm.specs.Part.{alarm_widths, alarm_numbers, alarms_at}

-- ---- parts: numbers in bytes, low byte first

-- the widths in bytes of a part's numbers, and the numbers that stand there
pub record Part (A : Type 0) : Type 0 where
  pub widths : List ℕ
  pub numbers : A → List ℕ

-- parts one behind the other: their widths, how many bytes they take, and their numbers
unfoldable pub widths_of : {A : Type 0} → List (Part A) → List ℕ
widths_of [] = []
widths_of (part ∷ parts) = part.widths ++ widths_of parts

abbrev pub size_of : {A : Type 0} → List (Part A) → ℕ
size_of parts = total (widths_of parts)

unfoldable pub numbers_in : {A : Type 0} → List (Part A) → A → List ℕ
numbers_in [] held = []
numbers_in (part ∷ parts) held = part.numbers held ++ numbers_in parts held

-- ---- the record

-- what it holds
pub record Checkpoint : Type 0 where
  pub position : Position
  pub credits : List ℕ
  pub alarms : Alarms

-- a position: mode, p, k (a byte each), r (16 bits), e, w (32 each), b (signed 16)
abbrev pub position_widths : List ℕ
position_widths = 1 ∷ 1 ∷ 1 ∷ 2 ∷ 4 ∷ 4 ∷ 2 ∷ []

abbrev pub position_numbers : Position → List ℕ
position_numbers position =
    position.mode ∷ position.pattern ∷ position.step ∷ position.pass ∷ position.elapsed ∷ position.waited
    ∷ of_z w16 position.base ∷ []

-- 99 credits (32 bits each)
unfoldable pub credit_widths : List ℕ
credit_widths = replicate 99 4

abbrev pub parts : List (Part Checkpoint)
parts =
    record { widths = position_widths; numbers = λ checkpoint. position_numbers checkpoint.position }
    ∷ record { widths = credit_widths; numbers = λ checkpoint. checkpoint.credits }
    ∷ record { widths = alarm_widths; numbers = λ checkpoint. alarm_numbers checkpoint.alarms }
    ∷ []

-- the size of the record, and where its credits and its alarms begin
abbrev pub record_size : ℕ
record_size = size_of parts

abbrev pub credits_from : ℕ
credits_from = size_of (take 1 parts)

abbrev pub alarms_from : ℕ
alarms_from = size_of (take 2 parts)

-- saving writes the record whole
unfoldable pub record_of : Checkpoint → List ℕ
record_of checkpoint = row (widths_of parts) (numbers_in parts checkpoint)

-- what a record holds; bytes past the end count as 0
unfoldable pub position_in : List ℕ → Position
position_in store =
    record {
      mode = field 1 store 0;
      pattern = field 1 store 1;
      step = field 1 store 2;
      pass = field 2 store 3;
      elapsed = field 4 store 5;
      waited = field 4 store 9;
      base = signed_field w16 store 13;
    }

unfoldable pub credits_in : List ℕ → List ℕ
credits_in store = row_at credit_widths store credits_from

unfoldable pub alarms_in : List ℕ → Alarms
alarms_in store = alarms_at store alarms_from

abbrev pub checkpoint_in : List ℕ → Checkpoint
checkpoint_in store = record { position = position_in store; credits = credits_in store; alarms = alarms_in store }

-- whether a buffer has the record's size (if not, refusal 22)
unfoldable pub sized : List ℕ → Bool
sized store = eqb (length store) record_size
