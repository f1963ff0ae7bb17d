-- Credits: 99 of them, each of 32 bits, whatever events do to them; and the credit of a step.
-- Assumes nothing.
use mathlib.Core.Path.{◌≡◌, refl, ap, ◌∙◌}
use mathlib.Core.Bool.{Bool, true, false}
use mathlib.Core.List.{List, [], ◌∷◌}
use Prim.Native.Nat.{ℕ, zero, suc, ◌+◌, ◌-◌, ◌≤◌, ◌<◌, min}
use native.Mathlib.Omega.{arith}
use borrow.Author.Tests.{eqb-true, eqb-false}
use lib.Dec.{eqb}
use lib.ListN.{length, get_or, set, replicate, length-set}
use lib.Seq.{get_or-set_same, get_or-set_other}
use Rattle.field.proofs.Rows.{zero-at}
use Rattle.outage.specs.Credit.{one}
use Rattle.plain.specs.declared.Credit.{Credit}
use Rattle.plain.specs.Run.{cooked, credited}

pub record Credits (credits : List ℕ) : Type 0 where
  pub long : length credits ≡ 99
  pub each : (i : ℕ) → get_or credits i 0 < 4294967296

pub no-credits : Credits (replicate 99 0)
no-credits = record { long = refl; each = λ i. omega (arith, zero-at 99 i) }

set_below : (xs : List ℕ) (i value top place : ℕ) → value < top → ((index : ℕ) → get_or xs index 0 < top) → get_or (set xs i value) place 0 < top
set_below [] i value top place low holds = holds place
set_below (first ∷ xs) zero value top zero low holds = low
set_below (first ∷ xs) zero value top (suc place) low holds = holds (suc place)
set_below (first ∷ xs) (suc i) value top zero low holds = holds 0
set_below (first ∷ xs) (suc i) value top (suc place) low holds = set_below xs i value top place low (λ index. holds (suc index))

one_more : (credits : List ℕ) (k : ℕ) → Credits credits → Credits (cooked credits k)
unfolding cooked
one_more credits k good =
    record {
      long = length-set credits (k - 1) _ ∙ good.long;
      each = λ i. set_below credits (k - 1) (min (get_or credits (k - 1) 0 + 1) 4294967295) 4294967296 i (omega arith) good.each;
    }

-- whatever an event does to them, they stay credits, if those of the record are
pub still-credits : (credit : Credit) (recorded credits : List ℕ) → Credits recorded → Credits credits → Credits (credited credit recorded credits)
unfolding credited
still-credits Credit.Keep recorded credits recorded-good good = good
still-credits (Credit.Cook k) recorded credits recorded-good good = one_more credits k good
still-credits Credit.Clear recorded credits recorded-good good = no-credits
still-credits Credit.Restore recorded credits recorded-good good = recorded-good

-- ---- the credit of step k, counted from 1

unfoldable pub credit_of : List ℕ → ℕ → ℕ
credit_of credits zero = 0
credit_of credits (suc i) = get_or credits i 0

pub credit-is : (credits : List ℕ) (k : ℕ) → 1 ≤ k → get_or credits (k - 1) 0 ≡ credit_of credits k
unfolding credit_of
credit-is credits zero low = absurd (omega arith)
credit-is credits (suc i) low = let same : suc i - 1 ≡ i = omega arith in ap (λ (place : ℕ). get_or credits place 0) same

-- it is held at 4,294,967,295
pub held : (credits : List ℕ) (k : ℕ) → Credits credits → credit_of credits k ≡ min (credit_of credits k + 0) 4294967295
unfolding credit_of
held credits zero good = omega arith
held credits (suc i) good = omega (arith, good.each i)

-- cleared credits are 0
pub cleared-credit : (k : ℕ) → credit_of (replicate 99 0) k ≡ 0
unfolding credit_of
cleared-credit zero = refl
cleared-credit (suc i) = zero-at 99 i

-- the credit of step j gains 1, and no other
pub gained : (credits : List ℕ) → Credits credits → (place k : ℕ) → 1 ≤ place → place ≤ 99
    → credit_of (cooked credits place) k ≡ min (credit_of credits k + one (eqb place k)) 4294967295
unfolding credit_of cooked
gained credits good place k low high = go k (eqb place k) refl
  where
    go : (k : ℕ) (test : Bool) → eqb place k ≡ test → credit_of (cooked credits place) k ≡ min (credit_of credits k + one test) 4294967295
    go zero true known = let same = eqb-true place 0 known in absurd (omega arith)
    go zero false known = omega arith
    go (suc i) true known =
        let same : place - 1 ≡ i = omega (arith, eqb-true place (suc i) known) in
        ap (λ (at : ℕ). get_or (set credits at (min (get_or credits at 0 + 1) 4294967295)) i 0) same
        ∙ get_or-set_same credits i (min (get_or credits i 0 + 1) 4294967295) 0 (omega (arith, good.long, eqb-true place (suc i) known))
    go (suc i) false known =
        let same = eqb-false place (suc i) known in
        get_or-set_other credits (place - 1) i _ 0 (λ holds. omega (arith, holds, same)) ∙ held credits (suc i) good
