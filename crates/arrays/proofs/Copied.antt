-- Copying an accepted bank into arrays, one pattern after the other. The invariant of the loop says that the rest, laid out from where
-- it is due, gives the whole.
-- Assumes nothing.
use mathlib.Core.Path.{◌≡◌, sym, ap, ◌∙◌}
use mathlib.Core.List.{List, ◌∷◌, map, append_assoc}
use Prim.Native.Nat.{ℕ, suc, ◌+◌, ◌*◌, ◌-◌, ◌≤◌, ◌<◌}
use native.Mathlib.Nat.{add-mul, one-mul}
use native.Mathlib.Numerals.{add-one}
use native.Mathlib.Omega.{arith}
use lib.ListN.{length, set, replicate}
use borrow.Rule.Slice.PartMut.{put_mid}
use lib.Seq.{sets, sets-eq, drop-drop, ext_get_or}
use Rattle.field.specs.Field.{field}
use Rattle.field.specs.Tab.{tab}
use Rattle.field.proofs.Laws.{sets-append}
use Rattle.field.proofs.Tab.{length-tab, get_or-tab}
use Rattle.capacity.specs.Capacity.{capacity_of}
use Rattle.bank.specs.View.{Pattern, pattern_at, patterns_of, pattern_of, step_of, numbered, no_step}
use Rattle.bank.specs.Check.{found_in}
use Rattle.bank.specs.declared.Step.{Step}
use Rattle.bank.proofs.Facts.{there, pattern-there, count-is, count_fits}
use Rattle.arrays.specs.declared.Patterns.{Patterns}
use Rattle.arrays.specs.Read.{all_steps, laid_out}
use Rattle.arrays.proofs.Views.{rest, rest-start, rest_more, rest_end, tab-from}
use Rattle.setting.specs.Found.{Accepted}

-- a part of a list, with all of its entries stored
pub part-stored : {A : Type 0} (at count : ℕ) (xs ys : List A) → at + count ≤ length xs → length ys ≡ count → put_mid at (at + count - at) xs ys ≡ sets xs at ys
part-stored at count xs ys h same =
    let size : at + count - at ≡ length ys = omega arith in
    rw size (sym (sets-eq ys xs at (omega arith) ∙ (simp (append_assoc, drop-drop))))

-- ---- patterns laid out in arrays, from place p on, and their steps from place base on

unfoldable pub laid_from : Patterns → ℕ → ℕ → List Pattern → Patterns
laid_from into p base ps = record {
  runs = sets into.runs p (map (λ x. x.runs) ps);
  counts = sets into.counts p (map (λ x. x.count) ps);
  steps = sets into.steps base (all_steps ps);
}

-- one pattern more
laid-turn : (into : Patterns) (p base : ℕ) (x : Pattern) (xs : List Pattern) → x.count ≡ length x.steps
    → laid_from (record { runs = set into.runs p x.runs; counts = set into.counts p x.count; steps = sets into.steps base x.steps }) (p + 1) (base + x.count) xs
    ≡ laid_from into p base (x ∷ xs)
unfolding laid_from all_steps
laid-turn into p base x xs same =
    let runs = map (λ (y : Pattern). y.runs) xs in
    let counts = map (λ (y : Pattern). y.count) xs in
    let steps = ap (λ (size : ℕ). sets (sets into.steps base x.steps) (base + size) (all_steps xs)) same
    ∙ sets-append x.steps (all_steps xs) into.steps base in
    λ i. record {
      runs = sets (set into.runs p x.runs) (add-one p i) runs;
      counts = sets (set into.counts p x.count) (add-one p i) counts;
      steps = steps i;
    }

-- ---- the patterns of a bank, from place 0 on

abbrev pub pattern_from : List ℕ → ℕ → Pattern
pattern_from bank p = pattern_at bank (p + 1)

-- all of them, laid out in arrays of nothing
abbrev pub empty : Step → Patterns
empty x = record { runs = replicate 15 0; counts = replicate 15 0; steps = replicate 99 x }

pub laid-start : (bank : List ℕ) {x : Step} → x ≡ no_step → laid_from (empty x) 0 0 (rest (pattern_from bank) (field 1 bank 0) 0) ≡ laid_out (patterns_of bank)
unfolding laid_from laid_out patterns_of
laid-start bank same =
    ap (λ (x : Step). laid_from (empty x) 0 0 (rest (pattern_from bank) (field 1 bank 0) 0)) same
    ∙ ap laid_out (sym (tab-from (pattern_at bank) 0 (field 1 bank 0) ∙ rest-start (pattern_from bank) (field 1 bank 0)))

-- none
pub laid_end : (bank : List ℕ) (p : ℕ) → field 1 bank 0 ≤ p → (into : Patterns) (base : ℕ) → into ≡ laid_from into p base (rest (pattern_from bank) (field 1 bank 0) p)
unfolding laid_from all_steps
laid_end bank p h into base = ap (laid_from into p base) (sym (rest_end (pattern_from bank) (field 1 bank 0) p h))

-- entries counted from 1, one by one, are all of them
numbered-all : {A : Type 0} (none : A) (xs : List A) → tab (numbered none xs) 1 1 (length xs) ≡ xs
unfolding numbered
numbered-all none xs =
    ext_get_or none (tab (numbered none xs) 1 1 (length xs)) xs (length-tab (numbered none xs) 1 1 (length xs))
    (λ j h. let same : 1 + 1 * j ≡ suc j = omega arith in
    get_or-tab (numbered none xs) 1 1 (length xs) j none (omega (arith, length-tab (numbered none xs) 1 1 (length xs))) ∙ ap (numbered none xs) same)

-- as many steps as fit, one pattern more
pub grown : (base count p c : ℕ) → base ≤ p * c → count ≤ c → base + count ≤ (p + 1) * c
grown base count p c h most = omega (arith, add-mul p 1 c, one-mul c)

module _ (bank : List ℕ) (ok : found_in bank ≡ Accepted) (p : ℕ) (h : p < field 1 bank 0) where
  pattern-of : rest (pattern_from bank) (field 1 bank 0) p ≡ pattern_of bank (p + 1) ∷ rest (pattern_from bank) (field 1 bank 0) (p + 1)
  pattern-of =
      rest_more (pattern_from bank) (field 1 bank 0) p h
      ∙ ap (λ (x : Pattern). x ∷ rest (pattern_from bank) (field 1 bank 0) (p + 1)) (sym (pattern-there bank (p + 1) (there bank ok (p + 1) (omega arith) (omega arith))))

  count_of : (pattern_of bank (p + 1)).count ≡ length (pattern_of bank (p + 1)).steps
  count_of = count-is bank ok (p + 1) (omega arith) (omega arith)

  pub count-in : (pattern_of bank (p + 1)).count ≤ capacity_of (field 1 bank 0)
  count-in = omega (arith, count_of, count_fits bank ok (p + 1) (omega arith) (omega arith))

  -- its steps, one by one, are all of them
  steps_of : tab (step_of bank (p + 1)) 1 1 (pattern_of bank (p + 1)).count ≡ (pattern_of bank (p + 1)).steps
  unfolding step_of
  steps_of = ap (tab (step_of bank (p + 1)) 1 1) count_of ∙ numbered-all no_step (pattern_of bank (p + 1)).steps

  -- one pattern more is copied, with what is read of it
  pub copied-turn : (into : Patterns) (base : ℕ) {runs count : ℕ} {steps : List Step} → runs ≡ (pattern_of bank (p + 1)).runs → count ≡ (pattern_of bank (p + 1)).count
      → steps ≡ sets into.steps base (tab (step_of bank (p + 1)) 1 1 count)
      → laid_from (record { runs = set into.runs p runs; counts = set into.counts p count; steps = steps }) (p + 1) (base + count) (rest (pattern_from bank) (field 1 bank 0) (p + 1))
      ≡ laid_from into p base (rest (pattern_from bank) (field 1 bank 0) p)
  copied-turn into base runs_same c steps-same =
      let x = pattern_of bank (p + 1) in
      let next = rest (pattern_from bank) (field 1 bank 0) (p + 1) in
      let steps = steps-same ∙ ap (λ (m : ℕ). sets into.steps base (tab (step_of bank (p + 1)) 1 1 m)) c ∙ ap (sets into.steps base) steps_of in
      (λ i. laid_from (record { runs = set into.runs p (runs_same i); counts = set into.counts p (c i); steps = steps i }) (p + 1) (base + c i) next)
      ∙ laid-turn into p base x next count_of ∙ ap (laid_from into p base) (sym pattern-of)
