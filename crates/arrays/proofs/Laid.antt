-- An accepted bank's patterns, laid out in arrays, are taken as they are.
-- Assumes nothing.
use mathlib.Core.Path.{◌≡◌, refl, sym, ap, ◌∙◌, subst}
use mathlib.Core.Bool.{true}
use mathlib.Core.List.{List, [], ◌∷◌, ◌++◌, map, append_assoc}
use Prim.Native.Nat.{ℕ, ◌+◌, ◌*◌, ◌≤◌}
use native.Mathlib.Nat.{add-zero, suc-mul, le_trans}
use native.Mathlib.Omega.{arith}
use borrow.Author.Tests.{le-leb}
use lib.ListN.{length, get_or, take, drop, replicate, length-append, length-map}
use lib.Seq.{sets, sets-eq, drop-drop, drop_at, take_at, get_or-drop}
use Rattle.field.specs.Field.{field}
use Rattle.capacity.specs.Capacity.{capacity_of}
use Rattle.bank.specs.View.{Pattern, pattern_at, patterns_of, no_step}
use Rattle.setting.specs.Setting.{settings_at}
use Rattle.bank.specs.Check.{of_length, found_in}
use Rattle.arrays.specs.Read.{all_steps, laid_out}
use Rattle.bank.specs.declared.Step.{Step}
use Rattle.arrays.specs.declared.Patterns.{Patterns}
use Rattle.setting.proofs.Laws.{next}
use Rattle.field.proofs.Tab.{length-tab}
use Rattle.bank.proofs.Facts.{parts, count-range, there, pattern-there, count-is, count_fits, all_fit}
use Rattle.arrays.specs.Write.{taken_from, taken_of, within_capacity, wrong_in}
use Rattle.arrays.proofs.Views.{All, all_map, all-tab}
use Rattle.arrays.proofs.Found.{bodies-change}
use Rattle.setting.specs.Found.{Accepted}

-- the entry at a place, and what stands behind it
entry : (l : List ℕ) (p x : ℕ) (behind : List ℕ) → drop p l ≡ x ∷ behind → get_or l p 0 ≡ x
entry l p x behind same = ap (λ (at : ℕ). get_or l at 0) (sym (add-zero p)) ∙ sym (get_or-drop p l 0 0) ∙ ap (λ (m : List ℕ). get_or m 0 0) same

after : (l : List ℕ) (p x : ℕ) (behind : List ℕ) → drop p l ≡ x ∷ behind → drop (p + 1) l ≡ behind
after l p x behind same = sym (drop-drop 1 p l) ∙ ap (drop 1) same

-- patterns whose numbers and steps stand in arrays are taken from there
taken : (ps : Patterns) (xs : List Pattern) (p base : ℕ) (runs counts : List ℕ) (steps : List Step) → All (λ x. x.count ≡ length x.steps) xs
    → drop p ps.runs ≡ map (λ x. x.runs) xs ++ runs → drop p ps.counts ≡ map (λ x. x.count) xs ++ counts → drop base ps.steps ≡ all_steps xs ++ steps
    → taken_from ps p base (length xs) ≡ xs
unfolding taken_from all_steps
taken ps [] p base runs counts steps h same f g = refl
taken ps (x ∷ xs) p base runs counts steps h same f g =
    let count : get_or ps.counts p 0 ≡ x.count = entry ps.counts p x.count _ f in
    let size : length x.steps ≡ get_or ps.counts p 0 = sym (count ∙ h.0) in
    let all : drop base ps.steps ≡ x.steps ++ (all_steps xs ++ steps) = g ∙ append_assoc x.steps (all_steps xs) steps in
    let own : take (get_or ps.counts p 0) (drop base ps.steps) ≡ x.steps =
    ap (take (get_or ps.counts p 0)) all ∙ take_at x.steps (all_steps xs ++ steps) (get_or ps.counts p 0) size in
    let rest : drop (base + get_or ps.counts p 0) ps.steps ≡ all_steps xs ++ steps =
    sym (drop-drop (get_or ps.counts p 0) base ps.steps) ∙ ap (drop (get_or ps.counts p 0)) all ∙ drop_at x.steps (all_steps xs ++ steps) (get_or ps.counts p 0) size in
    λ i. record { runs = entry ps.runs p x.runs _ same i; count = count i; steps = own i }
    ∷ taken ps xs (p + 1) (base + get_or ps.counts p 0) runs counts steps h.1 (after ps.runs p x.runs _ same) (after ps.counts p x.count _ f) rest i

-- what is laid out at the front stands there
front : {A : Type 0} (l vs : List A) → length vs ≤ length l → drop 0 (sets l 0 vs) ≡ vs ++ drop (0 + length vs) l
front l vs h = sets-eq vs l 0 (omega arith)

pub length-all : (n : ℕ) (xs : List Pattern) → All (λ x. (x.count ≡ length x.steps) × (x.count ≤ capacity_of n)) xs → length (all_steps xs) ≤ length xs * capacity_of n
unfolding all_steps
length-all n [] h = omega arith
length-all n (x ∷ xs) h =
    omega (arith, length-append x.steps (all_steps xs), length-all n xs h.1, h.0.0, h.0.1, suc-mul (length xs) (capacity_of n))

module _ (bank : List ℕ) (ok : found_in bank ≡ Accepted) where
  abbrev n : ℕ
  n = field 1 bank 0

  abbrev Sized : Pattern → Type 0
  Sized x = (x.count ≡ length x.steps) × (x.count ≤ capacity_of n)

  sized : All Sized (patterns_of bank)
  unfolding patterns_of
  sized =
      all-tab Sized (pattern_at bank) 1 n
      (λ p l upper.
      let h : p ≤ n = omega arith in
      subst Sized (pattern-there bank p (there bank ok p l h)) (count-is bank ok p l h, omega (arith, count-is bank ok p l h, count_fits bank ok p l h)))

  count : length (patterns_of bank) ≡ n
  unfolding patterns_of
  count = length-tab (pattern_at bank) 1 1 n

  -- what a bank's check finds right, the writer finds right
  pub right-again : wrong_in (settings_at bank) (patterns_of bank) ≡ Accepted
  unfolding wrong_in within_capacity settings_at
  right-again =
      next (parts bank ok).settings
      ∙ bodies-change of_length (within_capacity n) (settings_at bank).low (settings_at bank).high 1 (patterns_of bank)
      (all_map Sized (λ x. within_capacity n x ≡ true) (λ x h. le-leb x.count (capacity_of n) h.1) (patterns_of bank) sized) (parts bank ok).bodies

  pub taken-again : taken_of (settings_at bank) (laid_out (patterns_of bank)) ≡ patterns_of bank
  unfolding taken_of laid_out settings_at
  taken-again =
      let xs = patterns_of bank in
      let range = count-range bank ok in
      let runs = map (λ (x : Pattern). x.runs) xs in
      let counts = map (λ (x : Pattern). x.count) xs in
      let room : length xs ≤ 15 = omega (arith, count) in
      let fits : length (all_steps xs) ≤ 99 =
      le_trans (length-all n xs sized) (subst (λ (m : ℕ). m * capacity_of n ≤ 99) (sym count) (all_fit n n range.0 range.1 (omega arith))) in
      ap (taken_from (laid_out xs) 0 0) (sym count)
      ∙ taken (laid_out xs) xs 0 0 _ _ _ (all_map Sized (λ x. x.count ≡ length x.steps) (λ x h. h.0) xs sized)
      (front (replicate 15 0) runs (omega (arith, length-map xs (λ (x : Pattern). x.runs))))
      (front (replicate 15 0) counts (omega (arith, length-map xs (λ (x : Pattern). x.count))))
      (front (replicate 99 no_step) (all_steps xs) fits)
