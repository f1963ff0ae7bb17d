-- The settings of a bank: what its bytes say, and which are right.
-- Assumes nothing.
use Rattle.std.specs.Prelude.{ℕ, ◌+◌, Bool, List, [], ◌∷◌, leb, length}
use Rattle.std.specs.Int.Signed.{lt_z}
use Rattle.std.specs.Int.{w16}
use Rattle.field.specs.Field.{field, signed_field}
use Rattle.field.specs.Tab.{tab}
use Rattle.limits.specs.Range.{both, between, within, temperature}
use Rattle.setting.specs.Found.{test, then}
use Rattle.setting.specs.declared.Settings.{Settings}
use Rattle.setting.specs.declared.BankRefusal.TheVariants.{Short, Setting}
use Rattle.std.specs.Prelude.{Err}
use Rattle.setting.specs.Found.{Checked}
use Rattle.setting.specs.Found.{Accepted}

-- the settings, by their offsets
unfoldable pub settings_at : List ℕ → Settings
settings_at bank = record {
  patterns = field 1 bank 0;
  start = field 1 bank 1;
  outage = field 1 bank 2;
  low = signed_field w16 bank 3;
  high = signed_field w16 bank 5;
  initial = signed_field w16 bank 7;
  width = field 2 bank 9;
  filter = field 2 bank 11;
  zones = tab (field 2 bank) 4 13 4;
  waits = tab (field 2 bank) 4 15 4;
  on = tab (field 2 bank) 4 29 4;
  off = tab (field 2 bank) 4 31 4;
}

-- ---- 12: the settings, by offset

-- the first wrong one of fields, each given by its offset and whether it is right, after what was found before
unfoldable pub first_of : Checked → List (ℕ × Bool) → Checked
first_of found [] = found
first_of found (x ∷ xs) = first_of (then found (test x.1 (Err (Setting x.0)) Accepted)) xs

-- n, start, outage choice, SLL, SLH, start value, outage width, filter constant
abbrev pub head_rows : Settings → List (ℕ × Bool)
head_rows settings =
    (0, between 1 settings.patterns 15)
    ∷ (1, between 0 settings.start 1)
    ∷ (2, between 0 settings.outage 2)
    ∷ (3, temperature settings.low)
    ∷ (5, both (temperature settings.high) (lt_z settings.low settings.high))
    ∷ (7, within settings.low settings.initial settings.high)
    ∷ (9, between 0 settings.width 29999)
    ∷ (11, between 0 settings.filter 999)
    ∷ []

unfoldable pub head_found : Settings → Checked
head_found settings = first_of Accepted (head_rows settings)

-- pairs from an offset on, four bytes each, with the largest number of either half
unfoldable pub halves_found : ℕ → ℕ → ℕ → List ℕ → List ℕ → Checked
halves_found top top' at [] ys = Accepted
halves_found top top' at (x ∷ xs) [] = Accepted
halves_found top top' at (x ∷ xs) (y ∷ ys) =
    test (leb x top) (Err (Setting at)) (test (leb y top') (Err (Setting (at + 2))) (halves_found top top' (at + 4) xs ys))

-- then wait zone and wait minutes from 13 on, on minute and off minute from 29 on
unfoldable pub settings_found : Settings → Checked
settings_found settings =
    then (head_found settings) (then (halves_found 9999 5999 13 settings.zones settings.waits) (halves_found 5999 5999 29 settings.on settings.off))

-- ---- 11: fewer than 45 bytes, and 12, of the settings of a bank

unfoldable pub settings_in : List ℕ → Checked
settings_in bank = test (leb 45 (length bank)) (Err Short) (settings_found (settings_at bank))
