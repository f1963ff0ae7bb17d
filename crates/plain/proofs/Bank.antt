-- What an accepted bank says at any position: numbers within their ranges.
-- Assumes nothing.
use mathlib.Core.Path.{◌≡◌, refl, sym, ap, ◌∙◌, subst}
use mathlib.Core.Bool.{Bool, true, false, cond}
use mathlib.Core.List.{List, [], ◌∷◌}
use Prim.Native.Nat.{ℕ, zero, suc, ◌+◌, ◌≤◌}
use native.Mathlib.Nat.{one-mul}
use native.Mathlib.Omega.{arith}
use borrow.Author.Tests.{leb-true, leb-false, eqb-false}
use lib.Dec.{leb, eqb}
use lib.ListN.{length, get_or}
use Rattle.field.specs.Field.{field}
use Rattle.field.specs.Tab.{tab}
use Rattle.limits.specs.Range.{both, between, within, temperature}
use Rattle.setting.specs.Found.{test, then, Accepted}
use Rattle.setting.specs.Setting.{settings_at, first_of, head_found, halves_found, settings_found}
use Rattle.setting.specs.declared.BankRefusal.TheVariants.{Setting}
use Rattle.setting.proofs.Laws.{both_left, both_right, on, first-right}
use Rattle.capacity.specs.Capacity.{capacity_of}
use Rattle.bank.specs.View.{numbered as entry, pattern_of, step_of, place_of, no_pattern, no_step}
use Rattle.bank.specs.Check.{step_right, found_in}
use Rattle.bank.specs.declared.Step.{Step}
use Rattle.bank.proofs.Facts.{test-holds, then-holds, not-setting, parts, count-range, pattern-right, pattern-none, count-is, count_fits}
use Rattle.bank.proofs.Facts.{step-is-right, step-none, numbered-none, numbered-past, all_fit}
use Rattle.position.specs.declared.Position.{Position}
use Rattle.position.specs.Tests.{numbered}
use Rattle.position.specs.Program.{limit_of, here_by, is_timer, here_at}
use Rattle.position.proofs.SetValue.{within-range}
use Rattle.position.proofs.Keeps.{Fair}
use Rattle.plain.specs.Setup.{Setup, settings_in, here_in}
use Rattle.std.specs.Prelude.{Err}

-- ---- the settings

-- the second halves of pairs are at most their top
halves-fine : (top top' at : ℕ) (xs ys : List ℕ) → length xs ≡ length ys → halves_found top top' at xs ys ≡ Accepted
    → (index : ℕ) → get_or ys index 0 ≤ top'
unfolding halves_found
halves-fine top top' at [] [] lower holds index = omega arith
halves-fine top top' at [] (second ∷ ys) lower holds index = absurd (omega arith)
halves-fine top top' at (first ∷ xs) [] lower holds index = absurd (omega arith)
halves-fine top top' at (first ∷ xs) (second ∷ ys) lower holds index =
    let known = test-holds _ _ _ (not-setting at) holds in
    let also-known = test-holds _ _ _ (not-setting (at + 2)) known.1 in
    go index (leb-true second top' also-known.0) (halves-fine top top' (at + 4) xs ys (omega arith) also-known.1)
  where
    go : (index : ℕ) → second ≤ top' → ((place : ℕ) → get_or ys place 0 ≤ top') → get_or (second ∷ ys) index 0 ≤ top'
    go zero lower good = lower
    go (suc place) lower good = good place

-- each of fields that are found right is right
abbrev AllRight : List (ℕ × Bool) → Type 0
AllRight [] = Unit {0}
AllRight (first ∷ xs) = (first.1 ≡ true) × AllRight xs

all_right : (xs : List (ℕ × Bool)) → first_of Accepted xs ≡ Accepted → AllRight xs
unfolding first_of then test
all_right [] holds = tt
all_right (first ∷ xs) holds =
    let good = first-right first xs holds in
    (good, all_right xs (ap (λ (known : Bool). first_of (then Accepted (test known (Err (Setting first.0)) Accepted)) xs) (sym good) ∙ holds))

-- a number within two ends
inside : (first top : ℕ) → between 1 first top ≡ true → (1 ≤ first) × (first ≤ top)
unfolding between
inside first top known = (leb-true 1 first (both_left _ (leb first top) known), leb-true first top (both_right (leb 1 first) _ known))

limited : (runs : ℕ) → runs ≤ 99 → (1 ≤ limit_of runs) × (limit_of runs ≤ 9999)
unfolding limit_of
limited runs holds = go (eqb runs 0) refl
  where
    go : (known : Bool) → eqb runs 0 ≡ known → (1 ≤ cond known 9999 runs) × (cond known 9999 runs ≤ 9999)
    go true first = (omega arith, omega arith)
    go false first = let second = eqb-false runs 0 first in (omega arith, omega arith)

module _ (bank : List ℕ) (ok : found_in bank ≡ Accepted) where
  -- a step number outside the pattern has no step
  past : (p k : ℕ) → between 1 p (field 1 bank 0) ≡ true → between 1 k (pattern_of bank p).count ≡ false → step_of bank p k ≡ no_step
  unfolding step_of between
  past p k known also-known = go (leb 1 k) refl
    where
      go : (first : Bool) → leb 1 k ≡ first → entry no_step (pattern_of bank p).steps k ≡ no_step
      go true first =
          let good = inside p (field 1 bank 0) known in
          numbered-past no_step (pattern_of bank p).steps k
          (omega (arith, count-is bank ok p good.0 good.1, leb-false k (pattern_of bank p).count (sym (on first) ∙ also-known)))
      go false first = numbered-none no_step (pattern_of bank p).steps k (leb-false 1 k first)

  -- SLL, SLH and the start also-known are temperatures
  record Limits : Type 0 where
    low : temperature (settings_at bank).low ≡ true
    high : temperature (settings_at bank).high ≡ true
    initial : temperature (settings_at bank).initial ≡ true

  limits : Limits
  unfolding settings_found head_found
  limits =
      let good = all_right _ (then-holds _ _ (parts bank ok).settings).0 in
      let low = good.1.1.1.0 in
      let high = both_left _ _ good.1.1.1.1.0 in
      record { low = low; high = high; initial = within-range _ _ _ low high good.1.1.1.1.1.0 }

  -- the wait minutes of any wait number are at most 5,999
  waits-fine : (index : ℕ) → numbered (settings_at bank).waits index ≤ 5999
  unfolding numbered settings_found settings_at tab
  waits-fine zero = omega arith
  waits-fine (suc index) =
      halves-fine 9999 5999 13 _ _ refl (then-holds _ _ (then-holds _ _ (parts bank ok).settings).1).0 index

  -- ---- a pattern

  count-fine : (p : ℕ) → (pattern_of bank p).count ≤ 99
  unfolding no_pattern
  count-fine p = go (between 1 p (field 1 bank 0)) refl
    where
      go : (known : Bool) → between 1 p (field 1 bank 0) ≡ known → (pattern_of bank p).count ≤ 99
      go true known =
          let good = inside p (field 1 bank 0) known in
          let higher = count-range bank ok in
          let all = all_fit (field 1 bank 0) 1 higher.0 higher.1 higher.0 in
          omega (arith, count-is bank ok p good.0 good.1, count_fits bank ok p good.0 good.1, all, one-mul (capacity_of (field 1 bank 0)))
      go false known = subst (λ (number : ℕ). number ≤ 99) (sym (ap (λ pattern. pattern.count) (pattern-none bank p known))) (omega arith)

  limit-fine : (p : ℕ) → (1 ≤ limit_of (pattern_of bank p).runs) × (limit_of (pattern_of bank p).runs ≤ 9999)
  unfolding no_pattern
  limit-fine p = limited (pattern_of bank p).runs (go (between 1 p (field 1 bank 0)) refl)
    where
      go : (known : Bool) → between 1 p (field 1 bank 0) ≡ known → (pattern_of bank p).runs ≤ 99
      go true known = let good = inside p (field 1 bank 0) known in (pattern-right bank ok p good.0 good.1).runs
      go false known = subst (λ (number : ℕ). number ≤ 99) (sym (ap (λ pattern. pattern.runs) (pattern-none bank p known))) (omega arith)

  -- ---- a step, there or not

  record Fine (step : Step) : Type 0 where
    target : temperature step.target ≡ true
    minutes : step.minutes ≤ 6000

  none-fine : Fine no_step
  unfolding no_step temperature within both
  none-fine = record { target = refl; minutes = omega arith }

  step-fine : (p k : ℕ) → Fine (step_of bank p k)
  unfolding step_right
  step-fine p k = go (between 1 p (field 1 bank 0)) refl (between 1 k (pattern_of bank p).count) refl
    where
      nothing : step_of bank p k ≡ no_step → Fine (step_of bank p k)
      nothing holds = subst Fine (sym holds) none-fine

      go : (known : Bool) → between 1 p (field 1 bank 0) ≡ known → (also-known : Bool) → between 1 k (pattern_of bank p).count ≡ also-known → Fine (step_of bank p k)
      go true known true also-known =
          let good = inside p (field 1 bank 0) known in
          let index = inside k (pattern_of bank p).count also-known in
          let holds = step-is-right bank ok p k good.0 good.1 index.0 index.1 in
          record {
            target = within-range _ _ _ limits.low limits.high (both_left _ _ holds);
            minutes = leb-true _ _ (both_left _ _ (both_right _ _ holds));
          }
      go true known false also-known = nothing (past p k known also-known)
      go false known also-known holds = nothing (step-none bank p known k)

-- ---- what is said at a position

module _ (setup : Setup) (ok : found_in setup.bank ≡ Accepted) where
  -- the start also-known is a temperature
  pub initial-fine : temperature (settings_in setup).initial ≡ true
  initial-fine = (limits setup.bank ok).initial

  -- n
  patterns-range : (1 ≤ (settings_in setup).patterns) × ((settings_in setup).patterns ≤ 15)
  unfolding settings_at
  patterns-range = count-range setup.bank ok

  pub first-pattern : 1 ≤ (settings_in setup).patterns
  first-pattern = patterns-range.0

  module _ (position : Position) where
    pub target-fine : temperature (here_in setup position).target ≡ true
    unfolding here_in here_at here_by place_of
    target-fine = (step-fine setup.bank ok position.pattern position.step).target

    pub some-pass : 1 ≤ (here_in setup position).limit
    unfolding here_in here_at here_by place_of
    some-pass = (limit-fine setup.bank ok position.pattern).0

    pub fair : Fair (settings_in setup) (here_in setup position)
    unfolding here_in here_at here_by place_of
    fair =
        let place = place_of setup.bank position.pattern position.step in
        let timer = is_timer (settings_in setup) place.step.target position.step position.pass in
        record {
          patterns = patterns-range.1;
          count = count-fine setup.bank ok position.pattern;
          limit = (limit-fine setup.bank ok position.pattern).1;
          time = omega (arith, (step-fine setup.bank ok position.pattern position.step).minutes);
          wait = omega (arith, waits-fine setup.bank ok (cond timer 0 place.step.wait));
        }
