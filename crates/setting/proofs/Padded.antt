-- What padded bytes say is what the bytes say, since bytes past the end read as 0.
-- Assumes nothing.
use Prim.Native.Nat.{ℕ, zero, suc, ◌+◌, ◌≤◌, ◌<◌}
use mathlib.Core.Path.{◌≡◌, refl, ◌∙◌}
use mathlib.Core.List.{List, [], ◌∷◌, ◌++◌}
use native.Mathlib.Omega.{arith}
use lib.ListN.{get_or, drop, replicate}
use Rattle.std.proofs.lemmas.List.{get_or-drop}
use mir.Syntax.{w16}
use mir.Val.{to_z}
use Rattle.field.specs.Field.{field, signed_field}
use Rattle.field.proofs.Laws.{field-same}
use Rattle.setting.specs.Setting.{settings_at}
use Rattle.field.specs.Tab.{tab}

-- zeros behind a list are what is read past its end
pub zeros-after : (xs : List ℕ) (n m j : ℕ) → get_or {A = ℕ} (xs ++ drop n (replicate m 0)) j 0 ≡ get_or xs j 0
zeros-after [] n m j = get_or-drop n (replicate m 0) j 0 ∙ zeros m (n + j)
  where
    zeros : (m j : ℕ) → get_or {A = ℕ} (replicate m 0) j 0 ≡ 0
    zeros zero j = refl
    zeros (suc m) zero = refl
    zeros (suc m) (suc j) = zeros m j
zeros-after (x ∷ xs) n m zero = refl
zeros-after (x ∷ xs) n m (suc j) = zeros-after xs n m j

-- settings are what the first 45 bytes say
pub settings-padded : (a other : List ℕ) → ((j : ℕ) → j < 45 → get_or a j 0 ≡ get_or other j 0) → settings_at a ≡ settings_at other
unfolding settings_at signed_field tab
settings-padded a other same =
    λ along. record {
      patterns = at 1 0 (omega arith) along;
      start = at 1 1 (omega arith) along;
      outage = at 1 2 (omega arith) along;
      low = to_z w16 (at 2 3 (omega arith) along);
      high = to_z w16 (at 2 5 (omega arith) along);
      initial = to_z w16 (at 2 7 (omega arith) along);
      width = at 2 9 (omega arith) along;
      filter = at 2 11 (omega arith) along;
      zones = four 13 (omega arith) along;
      waits = four 15 (omega arith) along;
      on = four 29 (omega arith) along;
      off = four 31 (omega arith) along;
    }
  where
    at : (width i : ℕ) → i + width ≤ 45 → field width a i ≡ field width other i
    at width i h = field-same width a other i i (λ index l. same (i + index) (omega arith))

    four : (i : ℕ) → i + 14 ≤ 45 → tab (field 2 a) 4 i 4 ≡ tab (field 2 other) 4 i 4
    four i h = λ along. at 2 i (omega arith) along ∷ at 2 (i + 4) (omega arith) along ∷ at 2 (i + 4 + 4) (omega arith) along ∷ at 2 (i + 4 + 4 + 4) (omega arith) along ∷ []
