-- The longest bank has 1,011 bytes.
-- Assumes nothing.
use mathlib.Core.Path.{◌≡◌, refl, ◌∙◌}
use mathlib.Core.Bool.{Bool}
use mathlib.Core.List.{List, [], ◌∷◌, ◌++◌}
use Prim.Native.Nat.{ℕ, zero, suc, ◌+◌, ◌*◌, ◌≤◌}
use native.Mathlib.Nat.{suc-mul, le_trans}
use native.Mathlib.Omega.{arith}
use borrow.Author.Tests.{eqb-true, leb-true}
use lib.Dec.{leb}
use lib.ListN.{length, replicate}
use Rattle.field.specs.Field.{num, field, digits, signed_field}
use Rattle.limits.specs.Range.{both, between, within, temperature}
use Rattle.capacity.specs.Capacity.{capacity_of}
use Rattle.setting.specs.Setting.{settings_at}
use Rattle.bank.specs.View.{length_of, step_at, pattern_at, patterns_of}
use Rattle.field.specs.Tab.{tab}
use Rattle.setting.specs.Found.{test, then}
use Rattle.setting.specs.Setting.{first_of, head_found, halves_found, settings_found, settings_in}
use Rattle.bank.specs.Check.{pair_right, pairs_from, pairs_found, signals_right, step_right, steps_found, bodies_found, of_length, found_in}
use Rattle.setting.proofs.Laws.{next}
use Rattle.capacity.proofs.Table.{at}
use Rattle.bank.proofs.Facts.{test-holds, not-pair, pair-holds, parts, count-range}
use Rattle.setting.specs.Found.{Accepted}

-- m right pairs, the first of whose bodies is due at an offset, end the bank
pub ends : (bank : List ℕ) (n m i due : ℕ) → pairs_from bank n m i due ≡ Accepted → length bank ≤ due + m * (2 + 9 * capacity_of n)
unfolding pairs_from
ends bank n zero i due same = omega (arith, eqb-true due (length bank) (test-holds _ _ _ (not-pair n) same).0)
ends bank n (suc m) i due same =
    let t = test-holds _ _ _ (not-pair i) same in
    let f = pair-holds bank n i due t.0 in
    omega (arith, ends bank n m (i + 1) (due + length_of bank i) t.1, f.size, f.steps, suc-mul m (2 + 9 * capacity_of n))

-- the bound, tested at each number of patterns
room : ℕ → ℕ → Bool
room n x = leb (45 + 4 * n + n * (2 + 9 * capacity_of n)) 1011

pub bound : (n : ℕ) → n ≤ 15 → 45 + 4 * n + n * (2 + 9 * capacity_of n) ≤ 1011
unfolding room capacity_of between both
bound n h = leb-true (45 + 4 * n + n * (2 + 9 * capacity_of n)) 1011 (at room (replicate 16 0) refl n (omega arith))

-- an accepted bank has at most 1,011 bytes
pub at_most : (bank : List ℕ) → found_in bank ≡ Accepted → length bank ≤ 1011
unfolding pairs_found
at_most bank ok =
    let n = field 1 bank 0 in
    le_trans (ends bank n n 1 (45 + 4 * n) (test-holds _ _ _ (not-pair 0) (parts bank ok).pairs).1) (bound n (count-range bank ok).1)

-- and one has them: 14 patterns of 7 steps, SLH 1, all else 0
pairs : ℕ → ℕ → List ℕ
pairs zero due = []
pairs (suc m) due = digits 2 due ++ (65 ∷ 0 ∷ pairs m (due + 65))

bodies : ℕ → List ℕ
bodies zero = []
bodies (suc m) = 0 ∷ 7 ∷ replicate 63 0 ++ bodies m

pub longest : List ℕ
longest = (14 ∷ 0 ∷ 0 ∷ 0 ∷ 0 ∷ 1 ∷ []) ++ replicate 39 0 ++ pairs 14 101 ++ bodies 14

pub longest-length : length longest ≡ 1011
unfolding longest pairs bodies digits
longest-length = refl

settings-right : settings_in longest ≡ Accepted
unfolding longest pairs bodies digits num field signed_field both between within temperature tab settings_at test then first_of head_found halves_found settings_found settings_in
settings-right = refl

pairs-right : pairs_found longest (settings_at longest).patterns ≡ Accepted
unfolding longest pairs bodies digits num field signed_field both between capacity_of tab settings_at test pair_right pairs_from pairs_found
pairs-right = refl

bodies_right : bodies_found of_length (settings_at longest).low (settings_at longest).high 1 (patterns_of longest) ≡ Accepted
unfolding longest pairs bodies digits num field signed_field both within tab settings_at step_at pattern_at patterns_of test then signals_right step_right steps_found bodies_found of_length
bodies_right = refl

pub longest-accepted : found_in longest ≡ Accepted
unfolding found_in
longest-accepted = next settings-right ∙ next pairs-right ∙ bodies_right
