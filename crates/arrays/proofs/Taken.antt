-- The patterns that the writer takes, one after the other, and what is left of them at a place. The invariant of a loop says that
-- the rest gives the whole.
-- Assumes nothing.
use mathlib.Core.Path.{◌≡◌, refl, sym, ap, ◌∙◌, subst}
use mathlib.Core.Bool.{Bool, true}
use mathlib.Core.List.{List, [], ◌∷◌}
use Prim.Native.Nat.{ℕ, zero, suc, ◌+◌, ◌*◌, ◌≤◌, ◌<◌}
use native.Mathlib.Nat.{le_trans}
use native.Mathlib.Numerals.{add-one}
use native.Mathlib.Omega.{arith}
use borrow.Author.Tests.{leb-true}
use lib.Dec.{leb}
use lib.IntN.{ℤ}
use lib.ListN.{length, get_or, take, drop, drop_of_length-le}
use lib.Seq.{drop-cons, take-suc}
use Rattle.std.proofs.Common.{sum}
use Rattle.std.proofs.lemmas.List.Sums.{sum_by_push}
use Rattle.field.specs.Tab.{tab}
use Rattle.field.proofs.Tab.{length-tab, get_or-tab}
use Rattle.limits.specs.Range.{both}
use Rattle.capacity.specs.Capacity.{capacity_of}
use Rattle.bank.specs.View.{Pattern, no_pattern}
use Rattle.bank.specs.Check.{step_right, steps_found, bodies_found}
use Rattle.setting.specs.Found.{test, then}
use Rattle.setting.specs.declared.Settings.{Settings}
use Rattle.bank.specs.declared.Step.{Step}
use Rattle.setting.specs.declared.BankRefusal.TheVariants.{Body}
use Rattle.setting.proofs.Laws.{both_left, both_right, settings-count}
use Rattle.bank.proofs.Facts.{not_body, test-holds, then-holds, all_fit}
use Rattle.arrays.specs.declared.Patterns.{Patterns}
use Rattle.arrays.specs.Write.{taken_from, taken_of, within_capacity, wrong_in}
use Rattle.arrays.proofs.Views.{rest, rest-start, rest_more, rest_end}
use Rattle.arrays.proofs.Copied.{grown}
use Rattle.std.specs.Prelude.{Err}
use Rattle.setting.specs.Found.{Checked}
use Rattle.setting.specs.Found.{Accepted}

-- ---- the patterns, from place p on

-- the steps before place p
unfoldable pub sum_to : List ℕ → ℕ → ℕ
sum_to counts zero = 0
sum_to counts (suc p) = sum_to counts p + get_or counts p 0

pub sum_more : (counts : List ℕ) (p : ℕ) → sum_to counts (p + 1) ≡ sum_to counts p + get_or counts p 0
unfolding sum_to
sum_more counts p = rw add-one

pub sum-taken : (counts : List ℕ) (p : ℕ) → p ≤ length counts → sum (take p counts) ≡ sum_to counts p
unfolding sum_to
sum-taken counts zero h = refl
sum-taken counts (suc p) h =
    let l : p < length counts = omega arith in
    rw (take-suc counts p 0 l)
    (sum_by_push (λ x. x) (take p counts) (get_or counts p 0) ∙ ap (λ (before : ℕ). before + get_or counts p 0) (sum-taken counts p (omega arith)))

abbrev pub count_at : Patterns → ℕ → ℕ
count_at ps p = get_or ps.counts p 0

abbrev pub steps_at : Patterns → ℕ → List Step
steps_at ps p = take (count_at ps p) (drop (sum_to ps.counts p) ps.steps)

abbrev pub pattern_in : Patterns → ℕ → Pattern
pattern_in ps p = record { runs = get_or ps.runs p 0; count = count_at ps p; steps = steps_at ps p }

-- m of them
from_place : (ps : Patterns) (p m : ℕ) → taken_from ps p (sum_to ps.counts p) m ≡ tab (pattern_in ps) 1 p m
unfolding taken_from tab
from_place ps p zero = refl
from_place ps p (suc m) =
    ap (λ (base : ℕ). pattern_in ps p ∷ taken_from ps (p + 1) base m) (sym (sum_more ps.counts p))
    ∙ ap (λ (xs : List Pattern). pattern_in ps p ∷ xs) (from_place ps (p + 1) m)

-- all of them
pub taken-all : (settings : Settings) (ps : Patterns) → taken_of settings ps ≡ tab (pattern_in ps) 1 0 settings.patterns
unfolding taken_of sum_to
taken-all settings ps = from_place ps 0 settings.patterns

pub taken-rest : (settings : Settings) (ps : Patterns) → taken_of settings ps ≡ rest (pattern_in ps) settings.patterns 0
taken-rest settings ps = taken-all settings ps ∙ rest-start (pattern_in ps) settings.patterns

pub length_taken : (settings : Settings) (ps : Patterns) → length (taken_of settings ps) ≡ settings.patterns
length_taken settings ps = ap length (taken-all settings ps) ∙ length-tab (pattern_in ps) 1 0 settings.patterns

pub drop-more : {A : Type 0} (xs : List A) (k : ℕ) (d : A) → k < length xs → drop k xs ≡ get_or xs k d ∷ drop (k + 1) xs
drop-more xs k d h = rw (drop-cons xs k d h, add-one)

-- ---- the check of what is left, under the set value limits

module _ (low high : ℤ) where
  -- the steps of pattern p + 1, from step k + 1 on
  unfoldable pub steps_left : List Step → ℕ → ℕ → Checked
  steps_left steps p k = steps_found low high (p + 1) (k + 1) (drop k steps)

  pub steps-more : (steps : List Step) (p k : ℕ) (d : Step) → k < length steps
      → steps_left steps p k ≡ test (step_right low high (get_or steps k d)) (Err (Body (p + 1) (k + 1))) (steps_left steps p (k + 1))
  unfolding steps_left steps_found
  steps-more steps p k d h = ap (steps_found low high (p + 1) (k + 1)) (drop-more steps k d h)

  pub steps-end : (steps : List Step) (p k : ℕ) → length steps ≤ k → steps_left steps p k ≡ Accepted
  unfolding steps_left steps_found
  steps-end steps p k h = ap (steps_found low high (p + 1) (k + 1)) (drop_of_length-le steps h)

  -- the patterns, from pattern p + 1 on
  unfoldable pub patterns_left : Patterns → ℕ → ℕ → Checked
  patterns_left ps n p = bodies_found (within_capacity n) low high (p + 1) (rest (pattern_in ps) n p)

  pub patterns-more : (ps : Patterns) (n p base : ℕ) → p < n → base ≡ sum_to ps.counts p
      → patterns_left ps n p
      ≡ test (both (leb (get_or ps.runs p 0) 99) (leb (count_at ps p) (capacity_of n))) (Err (Body (p + 1) 0))
      (then (steps_left (take (count_at ps p) (drop base ps.steps)) p 0) (patterns_left ps n (p + 1)))
  unfolding patterns_left steps_left bodies_found within_capacity
  patterns-more ps n p base h same =
      let right = both (leb (get_or ps.runs p 0) 99) (leb (count_at ps p) (capacity_of n)) in
      let next = bodies_found (within_capacity n) low high (p + 1 + 1) (rest (pattern_in ps) n (p + 1)) in
      let steps : steps_at ps p ≡ take (count_at ps p) (drop base ps.steps) = ap (λ (from : ℕ). take (count_at ps p) (drop from ps.steps)) (sym same) in
      ap (bodies_found (within_capacity n) low high (p + 1)) (rest_more (pattern_in ps) n p h)
      ∙ ap (λ (ss : List Step). test right (Err (Body (p + 1) 0)) (then (steps_found low high (p + 1) 1 ss) next)) steps

  pub patterns-end : (ps : Patterns) (n p : ℕ) → n ≤ p → patterns_left ps n p ≡ Accepted
  unfolding patterns_left bodies_found
  patterns-end ps n p h = ap (bodies_found (within_capacity n) low high (p + 1)) (rest_end (pattern_in ps) n p h)

pub patterns-start : (settings : Settings) (ps : Patterns)
    → bodies_found (within_capacity settings.patterns) settings.low settings.high 1 (taken_of settings ps) ≡ patterns_left settings.low settings.high ps settings.patterns 0
unfolding patterns_left
patterns-start settings ps = ap (bodies_found (within_capacity settings.patterns) settings.low settings.high 1) (taken-rest settings ps)

-- ---- of patterns that are right

-- runs and s of each
each_right : (right : Pattern → Bool) (low high : ℤ) (xs : List Pattern) (q j : ℕ) (d : Pattern) → bodies_found right low high q xs ≡ Accepted → j < length xs
    → ((get_or xs j d).runs ≤ 99) × (right (get_or xs j d) ≡ true)
unfolding bodies_found
each_right right low high [] q j d same h = absurd (omega arith)
each_right right low high (x ∷ xs) q zero d same h =
    let t = (test-holds _ _ _ (not_body q 0) same).0 in
    (leb-true _ _ (both_left _ _ t), both_right _ _ t)
each_right right low high (x ∷ xs) q (suc j) d same h =
    each_right right low high xs (q + 1) j d (then-holds _ _ (test-holds _ _ _ (not_body q 0) same).1).1 (omega arith)

-- as many as there can be, each with at most as many runs and steps as there can be
pub record Fit (n : ℕ) (ps : Patterns) : Type 0 where
  pub some : 1 ≤ n
  pub few : n ≤ 15
  pub runs : (p : ℕ) → p < n → get_or ps.runs p 0 ≤ 99
  pub count : (p : ℕ) → p < n → count_at ps p ≤ capacity_of n

pub fit_of : (settings : Settings) (ps : Patterns) → wrong_in settings (taken_of settings ps) ≡ Accepted → Fit settings.patterns ps
unfolding wrong_in within_capacity
fit_of settings ps same = record {
  some = (settings-count settings (then-holds _ _ same).0).0;
  few = (settings-count settings (then-holds _ _ same).0).1;
  runs = λ p h. (each p h).0;
  count = λ p h. leb-true _ _ (each p h).1;
}
  where
    n : ℕ
    n = settings.patterns

    found : bodies_found (within_capacity n) settings.low settings.high 1 (tab (pattern_in ps) 1 0 n) ≡ Accepted
    found = ap (bodies_found (within_capacity n) settings.low settings.high 1) (sym (taken-all settings ps)) ∙ (then-holds _ _ same).1

    each : (p : ℕ) → p < n → (get_or ps.runs p 0 ≤ 99) × (within_capacity n (pattern_in ps p) ≡ true)
    each p h =
        let i : 0 + 1 * p ≡ p = omega arith in
        subst (λ (x : Pattern). (x.runs ≤ 99) × (within_capacity n x ≡ true)) (get_or-tab (pattern_in ps) 1 0 n p no_pattern h ∙ ap (pattern_in ps) i)
        (each_right (within_capacity n) settings.low settings.high (tab (pattern_in ps) 1 0 n) 1 p no_pattern found (omega (arith, length-tab (pattern_in ps) 1 0 n)))

module _ (n : ℕ) (ps : Patterns) (fit : Fit n ps) where
  sum_fits : (p : ℕ) → p ≤ n → sum_to ps.counts p ≤ p * capacity_of n
  unfolding sum_to
  sum_fits zero h = omega arith
  sum_fits (suc p) h =
      rw (← add-one) (grown (sum_to ps.counts p) (count_at ps p) p (capacity_of n) (sum_fits p (omega arith)) (fit.count p (omega arith)))

  -- there are at most 99
  pub all_in : (p : ℕ) → p ≤ n → sum_to ps.counts p ≤ 99
  all_in p h = le_trans (sum_fits p h) (all_fit n p fit.some fit.few h)

  pub next-in : (p : ℕ) → p < n → sum_to ps.counts p + count_at ps p ≤ 99
  next-in p h = let i = all_in (p + 1) (omega arith) in omega (arith, sum_more ps.counts p)
