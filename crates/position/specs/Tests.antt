-- Tests, and what is chosen by them.
-- Assumes nothing.
use Rattle.std.specs.Prelude.{ℕ, zero, suc, Bool, true, false, List, [], ◌∷◌, eqb, ℤ, nat_abs, ◌-ℤ◌, get_or}
unfoldable pub use Rattle.limits.specs.Range.{both, within, temperature}

-- one of them holds
unfoldable pub either : Bool → Bool → Bool
either true test = true
either false test = test

-- all of them hold
unfoldable pub all : List Bool → Bool
all [] = true
all (test ∷ tests) = both test (all tests)

-- whether a temperature is 0
unfoldable pub zero_z : ℤ → Bool
zero_z value = eqb (nat_abs value) 0

-- how far apart two temperatures are
unfoldable pub apart : ℤ → ℤ → ℕ
apart value other = nat_abs (value -ℤ other)

-- whether two temperatures are the same
unfoldable pub same_z : ℤ → ℤ → Bool
same_z value other = zero_z (value -ℤ other)

-- an entry of a list, counted from 1; 0 for number 0
unfoldable pub numbered : List ℕ → ℕ → ℕ
numbered entries zero = 0
numbered entries (suc index) = get_or entries index 0
