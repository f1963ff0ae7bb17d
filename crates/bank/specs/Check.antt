-- What the check of a bank finds: the first wrong field, in the order of the document.
-- Assumes nothing.
use Rattle.std.specs.Prelude.{ℕ, zero, suc, ◌+◌, ◌*◌, Bool, List, [], ◌∷◌, leb, eqb, length, get_or, ℤ}
use Rattle.limits.specs.Range.{both, within}
use Rattle.capacity.specs.Capacity.{capacity_of}
use Rattle.bank.specs.View.{Pattern, offset_of, length_of, steps_in, patterns_of}
use Rattle.setting.specs.Found.{test, then}
use Rattle.setting.specs.Setting.{settings_at, settings_in}
use Rattle.bank.specs.declared.Step.{Step}
use Rattle.setting.specs.declared.BankRefusal.TheVariants.{Pair, Body}
use Rattle.std.specs.Prelude.{Err}
use Rattle.setting.specs.Found.{Checked}
use Rattle.setting.specs.Found.{Accepted}

-- ---- 13: the pairs

-- a pair is right if its body starts where it is due, has the length 2 + 9s of at most capacity steps, and ends within the bank
unfoldable pub pair_right : ℕ → ℕ → ℕ → ℕ → ℕ → Bool
pair_right offset len due capacity size =
    both (eqb offset due) (both (eqb len (2 + 9 * steps_in len)) (both (leb (steps_in len) capacity) (leb (due + len) size)))

-- m pairs from pair i on, whose body is due at an offset; each next body is due where the one before ends, and the last ends the bank
unfoldable pub pairs_from : List ℕ → ℕ → ℕ → ℕ → ℕ → Checked
pairs_from bank n zero i due = test (eqb due (length bank)) (Err (Pair n)) Accepted
pairs_from bank n (suc m) i due =
    test (pair_right (offset_of bank i) (length_of bank i) due (capacity_of n) (length bank)) (Err (Pair i))
    (pairs_from bank n m (i + 1) (due + length_of bank i))

-- pair 0 if the pairs pass the end; the first body starts at 45 + 4n
unfoldable pub pairs_found : List ℕ → ℕ → Checked
pairs_found bank n = test (leb (45 + 4 * n) (length bank)) (Err (Pair 0)) (pairs_from bank n n 1 (45 + 4 * n))

-- ---- 14: the bodies

-- each of the four time signals is 0 to 5
unfoldable pub signals_right : List ℕ → Bool
signals_right xs =
    both (leb (get_or xs 0 0) 5) (both (leb (get_or xs 1 0) 5) (both (leb (get_or xs 2 0) 5) (leb (get_or xs 3 0) 5)))

-- target SLL to SLH, minutes to 6,000, wait number to 4
unfoldable pub step_right : ℤ → ℤ → Step → Bool
step_right low high step =
    both (within low step.target high) (both (leb step.minutes 6000) (both (leb step.wait 4) (signals_right step.signals)))

-- the steps of pattern p, from step k on
unfoldable pub steps_found : ℤ → ℤ → ℕ → ℕ → List Step → Checked
steps_found low high p k [] = Accepted
steps_found low high p k (step ∷ steps) = test (step_right low high step) (Err (Body p k)) (steps_found low high p (k + 1) steps)

-- the patterns, from pattern p on: runs, s, steps in order. Which s is right is given, since a bank's s is that of its length, and a
-- writer's is at most the capacity
unfoldable pub bodies_found : (Pattern → Bool) → ℤ → ℤ → ℕ → List Pattern → Checked
bodies_found right low high p [] = Accepted
bodies_found right low high p (x ∷ xs) =
    test (both (leb x.runs 99) (right x)) (Err (Body p 0))
    (then (steps_found low high p 1 x.steps) (bodies_found right low high (p + 1) xs))

-- the s of a bank is that of its length
unfoldable pub of_length : Pattern → Bool
of_length x = eqb x.count (length x.steps)

-- ---- the whole bank

unfoldable pub found_in : List ℕ → Checked
found_in bank =
    then (settings_in bank)
    (then (pairs_found bank (settings_at bank).patterns)
    (bodies_found of_length (settings_at bank).low (settings_at bank).high 1 (patterns_of bank)))
