-- A view at regular places.
-- Assumes nothing.
use Rattle.std.specs.Prelude.{ℕ, zero, suc, ◌+◌, List, [], ◌∷◌}

-- what f says at so many places, the first of them `at`, each next `width` further
unfoldable pub tab : {A : Type 0} → (ℕ → A) → ℕ → ℕ → ℕ → List A
tab f width at zero = []
tab f width at (suc more) = f at ∷ tab f width (at + width) more
