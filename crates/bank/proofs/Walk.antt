-- What is left of each walk at a place, and how one turn takes its first part off. The invariant of a loop says that the whole
-- walk finds what the rest of it finds.
-- Assumes nothing.
use mathlib.Core.Path.{◌≡◌, sym, ap, ◌∙◌}
use mathlib.Core.Bool.{Bool, true, false}
use borrow.Author.Tests.{eqb-true}
use mathlib.Core.List.{List}
use Prim.Native.Nat.{ℕ, suc, ◌+◌, ◌*◌, ◌-◌, ◌≤◌, ◌<◌}
use native.Mathlib.Nat.{sub-zero, add-zero}
use native.Mathlib.Omega.{arith}
use lib.Dec.{leb, eqb}
use lib.ListN.{length}
use Rattle.field.specs.Field.{field}
use Rattle.field.proofs.Tab.{length-tab}
use lib.IntN.{ℤ}
use Rattle.limits.specs.Range.{both}
use Rattle.capacity.specs.Capacity.{capacity_of}
use Rattle.bank.specs.View.{offset_of, length_of, steps_in, step_at, pattern_at}
use Rattle.field.specs.Tab.{tab}
use Rattle.setting.specs.Found.{test, then}
use Rattle.bank.specs.Check.{pair_right, pairs_from, step_right, steps_found, bodies_found, of_length}
use Rattle.setting.proofs.Laws.{both_right, right, wrong, first-is, stop}
use Rattle.bank.specs.Pair.{Gives}
use Rattle.bank.specs.declared.pair.Extent.{Extent}
use Rattle.bank.specs.declared.Step.{Step}
use Rattle.setting.specs.declared.BankRefusal.TheVariants.{Pair, Body}
use Rattle.std.specs.Prelude.{Err}
use Rattle.setting.specs.Found.{Checked}
use Rattle.setting.specs.Found.{Accepted}

-- one less is left
fewer : (count i : ℕ) → i < count → count - i ≡ suc (count - (i + 1))
fewer count i h = omega arith

none : (count i : ℕ) → count ≤ i → count - i ≡ 0
none count i h = omega arith

-- ---- the pairs

unfoldable pub rest_pairs : List ℕ → ℕ → ℕ → ℕ → Checked
rest_pairs bank n i due = pairs_from bank n (n - i) (i + 1) due

pub pairs_start : (bank : List ℕ) (n due : ℕ) → pairs_from bank n n 1 due ≡ rest_pairs bank n 0 due
unfolding rest_pairs
pairs_start bank n due = rw sub-zero

pairs-more : (bank : List ℕ) (n i due : ℕ) → i < n
    → rest_pairs bank n i due
    ≡ test (pair_right (offset_of bank (i + 1)) (length_of bank (i + 1)) due (capacity_of n) (length bank)) (Err (Pair (i + 1))) (rest_pairs bank n (i + 1) (due + length_of bank (i + 1)))
unfolding rest_pairs pairs_from
pairs-more bank n i due h = ap (λ (m : ℕ). pairs_from bank n m (i + 1) due) (fewer n i h)

-- one turn of the code: the body that the pair gives, and whether the pair is right
module _ (bank : List ℕ) (n i due : ℕ) {cap : ℕ} {body : Extent} (h : i < n) (gives : Gives bank (i + 1) body) (told : cap ≡ capacity_of n) where
  turn : rest_pairs bank n i due ≡ test (pair_right body.at body.len due cap (length bank)) (Err (Pair (i + 1))) (rest_pairs bank n (i + 1) (due + body.len))
  turn =
      pairs-more bank n i due h
      ∙ sym (λ j. test (pair_right (gives.at j) (gives.len j) due (told j) (length bank)) (Err (Pair (i + 1))) (rest_pairs bank n (i + 1) (due + gives.len j)))

  pub pair-on : pair_right body.at body.len due cap (length bank) ≡ true → rest_pairs bank n i due ≡ rest_pairs bank n (i + 1) (due + body.len)
  pair-on holds = turn ∙ right _ holds

  pub pair-off : pair_right body.at body.len due cap (length bank) ≡ false → rest_pairs bank n i due ≡ Err (Pair (i + 1))
  pair-off fails = turn ∙ wrong _ fails

pub pairs_end : (bank : List ℕ) (n i due : ℕ) → n ≤ i → rest_pairs bank n i due ≡ test (eqb due (length bank)) (Err (Pair n)) Accepted
unfolding rest_pairs pairs_from
pairs_end bank n i due h = ap (λ (m : ℕ). pairs_from bank n m (i + 1) due) (none n i h)

-- ---- the bodies, under the set value limits

-- whether the body at an offset has right runs, and the number of steps that its length gives
abbrev pub start_right : List ℕ → ℕ → ℕ → Bool
start_right bank at s = both (leb (field 1 bank at) 99) (eqb (field 1 bank (at + 1)) s)

-- the number of steps is then the byte that says it
pub start-count : (bank : List ℕ) (at s : ℕ) → start_right bank at s ≡ true → field 1 bank (at + 1) ≡ s
start-count bank at s same = eqb-true _ _ (both_right (leb (field 1 bank at) 99) _ same)

module _ (low high : ℤ) (bank : List ℕ) where
  -- the steps of pattern p + 1, from step k + 1 on
  unfoldable pub rest_steps : ℕ → ℕ → ℕ → ℕ → Checked
  rest_steps p at s k = steps_found low high (p + 1) (k + 1) (tab (step_at bank) 9 (at + 2 + 9 * k) (s - k))

  pub steps-start : (p at s : ℕ) → steps_found low high (p + 1) 1 (tab (step_at bank) 9 (at + 2) s) ≡ rest_steps p at s 0
  unfolding rest_steps
  steps-start p at s = rw (sub-zero, add-zero)

  steps-more : (p at s k : ℕ) → k < s
      → rest_steps p at s k ≡ test (step_right low high (step_at bank (at + 2 + 9 * k))) (Err (Body (p + 1) (k + 1))) (rest_steps p at s (k + 1))
  unfolding rest_steps tab steps_found
  steps-more p at s k h =
      let same : at + 2 + 9 * k + 9 ≡ at + 2 + 9 * (k + 1) = omega arith in
      ap (λ (m : ℕ). steps_found low high (p + 1) (k + 1) (tab (step_at bank) 9 (at + 2 + 9 * k) m)) (fewer s k h)
      ∙ ap (λ (x : ℕ). test (step_right low high (step_at bank (at + 2 + 9 * k))) (Err (Body (p + 1) (k + 1))) (steps_found low high (p + 1) (k + 1 + 1) (tab (step_at bank) 9 x (s - (k + 1))))) same

  pub step-on : (p at s k : ℕ) {step : Step} (rest : Checked) → k < s → step ≡ step_at bank (at + 2 + 9 * k) → step_right low high step ≡ true
      → then (rest_steps p at s k) rest ≡ then (rest_steps p at s (k + 1)) rest
  step-on p at s k rest h is holds = first-is rest (steps-more p at s k h ∙ right _ (ap (step_right low high) (sym is) ∙ holds))

  pub step-off : (p at s k : ℕ) {step : Step} (rest : Checked) → k < s → step ≡ step_at bank (at + 2 + 9 * k) → step_right low high step ≡ false
      → then (rest_steps p at s k) rest ≡ Err (Body (p + 1) (k + 1))
  step-off p at s k rest h is fails = first-is rest (steps-more p at s k h ∙ wrong _ (ap (step_right low high) (sym is) ∙ fails)) ∙ stop (p + 1) (k + 1) rest

  pub steps-end : (p at s k : ℕ) → s ≤ k → rest_steps p at s k ≡ Accepted
  unfolding rest_steps tab steps_found
  steps-end p at s k h = ap (λ (m : ℕ). steps_found low high (p + 1) (k + 1) (tab (step_at bank) 9 (at + 2 + 9 * k) m)) (none s k h)

  -- the bodies, from pattern p + 1 on
  unfoldable pub rest_bodies : ℕ → ℕ → Checked
  rest_bodies n p = bodies_found of_length low high (p + 1) (tab (pattern_at bank) 1 (p + 1) (n - p))

  pub bodies-start : (n : ℕ) → bodies_found of_length low high 1 (tab (pattern_at bank) 1 1 n) ≡ rest_bodies n 0
  unfolding rest_bodies
  bodies-start n = rw sub-zero

  bodies-more : (n p : ℕ) → p < n
      → rest_bodies n p
      ≡ test (start_right bank (offset_of bank (p + 1)) (steps_in (length_of bank (p + 1)))) (Err (Body (p + 1) 0))
      (then (rest_steps p (offset_of bank (p + 1)) (steps_in (length_of bank (p + 1))) 0) (rest_bodies n (p + 1)))
  unfolding rest_bodies tab bodies_found pattern_at of_length
  bodies-more n p h =
      let at = offset_of bank (p + 1) in
      let s = steps_in (length_of bank (p + 1)) in
      let tail = bodies_found of_length low high (p + 1 + 1) (tab (pattern_at bank) 1 (p + 1 + 1) (n - (p + 1))) in
      let walk = steps_found low high (p + 1) 1 (tab (step_at bank) 9 (at + 2) s) in
      ap (λ (m : ℕ). bodies_found of_length low high (p + 1) (tab (pattern_at bank) 1 (p + 1) m)) (fewer n p h)
      ∙ ap (λ (m : ℕ). test (both (leb (field 1 bank at) 99) (eqb (field 1 bank (at + 1)) m)) (Err (Body (p + 1) 0)) (then walk tail)) (length-tab (step_at bank) 9 (at + 2) s)
      ∙ ap (λ (found : Checked). test (both (leb (field 1 bank at) 99) (eqb (field 1 bank (at + 1)) s)) (Err (Body (p + 1) 0)) (then found tail)) (steps-start p at s)

  -- one turn of the code: the body that the pair gives, and whether it begins right
  module _ (n p : ℕ) {s : ℕ} {body : Extent} (h : p < n) (gives : Gives bank (p + 1) body) (told : s ≡ steps_in body.len) where
    start : rest_bodies n p ≡ test (start_right bank body.at s) (Err (Body (p + 1) 0)) (then (rest_steps p body.at s 0) (rest_bodies n (p + 1)))
    start =
        let steps = told ∙ ap steps_in gives.len in
        bodies-more n p h
        ∙ sym (λ i. test (start_right bank (gives.at i) (steps i)) (Err (Body (p + 1) 0)) (then (rest_steps p (gives.at i) (steps i) 0) (rest_bodies n (p + 1))))

    pub body-on : start_right bank body.at s ≡ true → rest_bodies n p ≡ then (rest_steps p body.at s 0) (rest_bodies n (p + 1))
    body-on holds = start ∙ right _ holds

    pub body-off : start_right bank body.at s ≡ false → rest_bodies n p ≡ Err (Body (p + 1) 0)
    body-off fails = start ∙ wrong _ fails

  pub bodies-end : (n p : ℕ) → n ≤ p → rest_bodies n p ≡ Accepted
  unfolding rest_bodies tab bodies_found
  bodies-end n p h = ap (λ (m : ℕ). bodies_found of_length low high (p + 1) (tab (pattern_at bank) 1 (p + 1) m)) (none n p h)
