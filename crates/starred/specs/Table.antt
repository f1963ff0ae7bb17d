-- The starred examples of document 01, as one table: what a definition gives, and what the document says.
-- Assumes nothing.
use Rattle.std.specs.Prelude.{ℕ, ◌≡◌, List, [], ◌∷◌, map, ℤ, pos, negsuc, replicate, get_or, Option, None, Some}
use Prim.Native.String.{String}
use Prim.Native.String as string
use Prim.Native.Char.{code}
use Rattle.std.specs.Float.{binary64}
use Rattle.std.specs.Float.Ieee.{of_int, to_bits}
use Rattle.capacity.specs.Capacity.{capacity_of}
use Rattle.bank.specs.View.{Pattern}
use Rattle.setting.specs.declared.Settings.{Settings}
use Rattle.bank.specs.declared.Step.{Step}
use Rattle.arrays.specs.Encode.{encode}
use Rattle.measure.specs.Filter.{after_of, whole_of}
use Rattle.measure.specs.declared.Measured.{Measured}
use Rattle.measure.specs.declared.Reading.{Reading}
use Rattle.position.specs.Program.{here_of, ramp_of}
use Rattle.plain.specs.Setup.{Setup}
use Rattle.line.specs.Beside.{sheet_over}
use Rattle.line.specs.Sheet.{sheet_text, all_of}

-- the bytes of a text
unfoldable pub bytes : String → List ℕ
bytes string.[] = []
bytes (string.◌∷◌ c cs) = code c ∷ bytes cs

-- a step with a target and minutes, no waits or signals
abbrev pub plain_step : ℤ → ℕ → Step
plain_step target minutes = record { target = target; minutes = minutes; wait = 0; signals = replicate 4 0 }

-- the filtered value after a reading v, with y before it and F 10
abbrev pub lag_from : ℤ → ℤ → Measured
lag_from y v = after_of (Measured.Value (of_int binary64 y)) (Reading.Value v) 10

-- the 64 bits of a filtered value
abbrev pub bits_of : Measured → ℤ
bits_of Measured.NoReading = negsuc 0
bits_of Measured.Over = negsuc 0
bits_of Measured.Under = negsuc 0
bits_of (Measured.Value y) = pos (to_bits binary64 y)

-- the whole value that is shown
abbrev pub shown : Measured → ℤ
shown measured = number (whole_of measured)
  where
    number : Option ℤ → ℤ
    number None = pos 0
    number (Some v) = v

-- "Bank: n 1, start 1, choice 2, SLL 0, SLH 1,000, start value 200, other settings 0"
abbrev pub settings : Settings
settings = record {
  patterns = 1;
  start = 1;
  outage = 2;
  low = pos 0;
  high = pos 1000;
  initial = pos 200;
  width = 0;
  filter = 0;
  zones = replicate 4 0;
  waits = replicate 4 0;
  on = replicate 4 0;
  off = replicate 4 0;
}

-- "runs 1; steps 600 for 2 minutes, 600 for 1 minute, no waits or signals"
abbrev pub pattern : Pattern
pattern = record { runs = 1; count = 2; steps = plain_step (pos 600) 2 ∷ plain_step (pos 600) 1 ∷ [] }

abbrev pub setup : Setup
setup = sheet_over (encode settings (pattern ∷ []))

-- the set value over a ramp: b, target, minutes, e
abbrev pub ramp : ℤ → ℤ → ℕ → ℕ → ℤ
ramp b target minutes e = ramp_of (here_of settings (record { step = plain_step target minutes; runs = 1; count = 1 })) b e

-- "Input S, T 200, C, R 200, T 200", a line each
abbrev pub input : List ℕ
input = bytes "S\nT 200\nC\nR 200\nT 200\n"

-- the five lines that it prints
abbrev pub printed : List ℕ
printed = bytes "0 1 1 1 1 0 0 200\n0 1 1 1 1 1 0 203\n0 0 0 0 0 0 0 0\n0 1 1 1 1 0 0 200\n0 1 1 1 1 1 0 203\n"

-- what the definitions give, and what the document says
abbrev pub table : List (List ℤ × List ℤ)
table =
    -- capacity: 1 → 99, 12 → 8, 15 → 6
    (pos (capacity_of 1) ∷ pos (capacity_of 12) ∷ pos (capacity_of 15) ∷ [], pos 99 ∷ pos 8 ∷ pos 6 ∷ [])
    -- b 200, target 600, T 120: e 59 → 396, e 60 → 400, e 119 → 596
    ∷ (
      ramp (pos 200) (pos 600) 2 59 ∷ ramp (pos 200) (pos 600) 2 60 ∷ ramp (pos 200) (pos 600) 2 119 ∷ [],
      pos 396 ∷ pos 400 ∷ pos 596 ∷ [],
    )
    -- b 600, target 200, T 60, e 1 → 594
    ∷ (ramp (pos 600) (pos 200) 1 1 ∷ [], pos 594 ∷ [])
    -- F 10: y 100, v 200 → 150, to the bit
    ∷ (bits_of (lag_from (pos 100) (pos 200)) ∷ [], bits_of (Measured.Value (of_int binary64 (pos 150))) ∷ [])
    -- y 100, v 101 → 101 shown; y −100, v −101 → −101 shown
    ∷ (shown (lag_from (pos 100) (pos 101)) ∷ shown (lag_from (negsuc 99) (negsuc 100)) ∷ [], pos 101 ∷ negsuc 100 ∷ [])
    -- the program `sheet`: the five lines in, and the five lines out
    ∷ (map pos (sheet_text setup input), map pos printed)
    -- "Credit of step 1 is then 1"
    ∷ (pos (get_or (all_of setup input).state.credits 0 0) ∷ [], pos 1 ∷ [])
    ∷ []

-- every row holds
abbrev pub Holds : List (List ℤ × List ℤ) → Type 0
Holds [] = Unit {0}
Holds (x ∷ xs) = (x.0 ≡ x.1) × Holds xs
