-- What is known of an accepted bank: what other crates build on.
-- Assumes nothing.
use mathlib.Core.Path.{◌≡◌, refl, sym, ap, ◌∙◌, subst}
use mathlib.Core.Bool.{Bool, true, false, cond}
use mathlib.Core.Logic.{◌⊎◌, inl, inr}
use mathlib.Core.List.{List, [], ◌∷◌, ◌++◌}
use Prim.Native.Nat.{ℕ, zero, suc, ◌+◌, ◌*◌, ◌-◌, ◌/◌, ◌≤◌, ◌<◌, min}
use native.Mathlib.Nat.{div-mul-le_self, mul-le-mul_right, mul_comm, le_trans}
use native.Mathlib.Omega.{arith}
use lib.Dec.{leb}
use lib.IntN.{ℤ, pos}
use Rattle.setting.proofs.Padded.{zeros-after}
use lib.ListN.{length, get_or, take, drop, replicate, get_or-eq_default}
use lib.Seq.{ext_get_or}
use Rattle.std.proofs.lemmas.List.{get_or-drop}
use Rattle.std.proofs.lemmas.Slice.{between_to_end}
use Rattle.std.specs.Array.{AllOfLen}
use borrow.Author.Tests.{leb-true, leb-false, eqb-true, le-leb}
use mir.Syntax.{w16}
use mir.Val.{to_z}
use Rattle.field.specs.Field.{field, signed_field}
use Rattle.field.proofs.Laws.{field_past, field-one, field-same}
use Rattle.limits.specs.Range.{between}
use Rattle.capacity.specs.Capacity.{capacity_of}
use Rattle.bank.specs.View.{Pattern, offset_of, length_of, steps_in, pattern_at, patterns_of, pattern_of, step_of, step_at, numbered, no_step, no_pattern}
use Rattle.setting.specs.Setting.{settings_at}
use Rattle.field.specs.Tab.{tab}
use Rattle.setting.specs.Found.{test}
use Rattle.setting.specs.Setting.{settings_found, settings_in}
use Rattle.bank.specs.Check.{pair_right, pairs_from, pairs_found, step_right, steps_found, bodies_found, of_length, found_in}
use Rattle.bank.specs.declared.Step.{Step}
use Rattle.bank.specs.declared.pair.Extent.{Extent}
use Rattle.bank.specs.Pair.{Gives}
use Rattle.setting.specs.declared.BankRefusal.{BankRefusal}
use Rattle.setting.specs.declared.BankRefusal.TheVariants.{Short, Setting, Pair, Body}
use Rattle.setting.proofs.Laws.{not-accepted, on, both_left, both_right, settings-count}
pub use Rattle.setting.proofs.Laws.{then-holds}
use Rattle.field.proofs.Tab.{length-tab, get_or-tab}
use Rattle.std.specs.Prelude.{Err}
use Rattle.setting.specs.Found.{Checked}
use Rattle.setting.specs.Found.{Accepted}

-- ---- a refusal is not Accepted

pub not-refusal : (refusal : BankRefusal) → Err refusal ≡ Accepted → ⊥
not-refusal refusal = not-accepted (Err refusal) refl

pub not-setting : (o : ℕ) → Err (Setting o) ≡ Accepted → ⊥
not-setting o = not-refusal (Setting o)

pub not-pair : (i : ℕ) → Err (Pair i) ≡ Accepted → ⊥
not-pair i = not-refusal (Pair i)

pub not_body : (p k : ℕ) → Err (Body p k) ≡ Accepted → ⊥
not_body p k = not-refusal (Body p k)

-- ---- a pattern and a step of the view, by their numbers

-- past the end there is no step
pub step-beyond : (bank : List ℕ) (at : ℕ) → length bank ≤ at → step_at bank at ≡ no_step
unfolding step_at no_step signed_field tab
step-beyond bank at h =
    λ i. record {
      target = to_z w16 (field_past 2 bank at h i);
      minutes = field_past 2 bank (at + 2) (omega arith) i;
      wait = field_past 1 bank (at + 4) (omega arith) i;
      signals =
          field_past 1 bank (at + 5) (omega arith) i ∷ field_past 1 bank (at + 5 + 1) (omega arith) i
          ∷ field_past 1 bank (at + 5 + 1 + 1) (omega arith) i ∷ field_past 1 bank (at + 5 + 1 + 1 + 1) (omega arith) i ∷ [];
    }

-- a step is what its nine bytes say, wherever they stand
pub step-same : (a bank : List ℕ) (i j : ℕ) → ((k : ℕ) → k < 9 → get_or a (i + k) 0 ≡ get_or bank (j + k) 0) → step_at a i ≡ step_at bank j
unfolding step_at signed_field tab
step-same a bank i j same =
    λ along. record {
      target = to_z w16 (at 2 i j 0 (omega arith) (omega arith) (omega arith) along);
      minutes = at 2 (i + 2) (j + 2) 2 refl refl (omega arith) along;
      wait = at 1 (i + 4) (j + 4) 4 refl refl (omega arith) along;
      signals =
          at 1 (i + 5) (j + 5) 5 refl refl (omega arith) along
          ∷ at 1 (i + 5 + 1) (j + 5 + 1) 6 (omega arith) (omega arith) (omega arith) along
          ∷ at 1 (i + 5 + 1 + 1) (j + 5 + 1 + 1) 7 (omega arith) (omega arith) (omega arith) along
          ∷ at 1 (i + 5 + 1 + 1 + 1) (j + 5 + 1 + 1 + 1) 8 (omega arith) (omega arith) (omega arith) along
          ∷ [];
    }
  where
    at : (width x y k : ℕ) → x ≡ i + k → y ≡ j + k → k + width ≤ 9 → field width a x ≡ field width bank y
    at width x y k is is' h =
        field-same width a bank x y
        (λ index l.
        let p : x + index ≡ i + (k + index) = omega arith in
        let q : y + index ≡ j + (k + index) = omega arith in
        rw (p, q) (same (k + index) (omega arith)))

-- what stands from an offset on, which may be past the end
rest-read : (bank : List ℕ) (at from k : ℕ) → from ≡ min at (length bank) → get_or (take (length bank - from) (drop from bank)) k 0 ≡ get_or bank (at + k) 0
rest-read bank at from k is =
    ap (λ (xs : List ℕ). get_or xs k 0) (between_to_end bank from (length bank) (omega arith)) ∙ get_or-drop from bank k 0 ∙ go (leb at (length bank)) refl
  where
    go : (t : Bool) → leb at (length bank) ≡ t → get_or bank (from + k) 0 ≡ get_or bank (at + k) 0
    go true told =
        let h = leb-true at (length bank) told in
        let same : from ≡ at = omega arith in
        ap (λ (x : ℕ). get_or bank (x + k) 0) same
    go false told =
        let h = leb-false at (length bank) told in
        get_or-eq_default bank 0 (omega arith) ∙ sym (get_or-eq_default bank 0 (omega arith))

-- the step there is the step of what stands there with zeros behind it
pub step-padded : (bank front : List ℕ) (at from n : ℕ) → front ≡ take (length bank - from) (drop from bank) → from ≡ min at (length bank)
    → step_at (front ++ drop n (replicate 9 0)) 0 ≡ step_at bank at
step-padded bank front at from n same is =
    step-same _ bank 0 at (λ k h. let k-is : 0 + k ≡ k = omega arith in rw k-is (zeros-after front n 9 k ∙ ap (λ (xs : List ℕ). get_or xs k 0) same ∙ rest-read bank at from k is))

-- a step with the fields of one that stands at the front of some bytes, its wait number maybe read from there, is that step
pub step-fields : (made step : Step) (bytes : List ℕ) → step ≡ step_at bytes 0 → made.target ≡ step.target → made.minutes ≡ step.minutes
    → (step.wait ≡ get_or bytes 4 0 → made.wait ≡ step.wait) → made.signals ≡ step.signals → made ≡ step_at bytes 0
unfolding step_at
step-fields made step bytes is target minutes wait signals =
    let same : step.wait ≡ get_or bytes 4 0 = ap (λ (x : Step). x.wait) is ∙ field-one bytes 4 in
    let whole : made ≡ step = λ i. record { target = target i; minutes = minutes i; wait = wait same i; signals = signals i } in
    whole ∙ is

-- a step whose fields are 0
pub step-default : (step : Step) → (step.target ≡ pos 0) × ((step.minutes ≡ 0) × ((step.wait ≡ 0) × AllOfLen (λ (x : ℕ). x ≡ 0) step.signals 4)) → step ≡ no_step
unfolding no_step
step-default step is =
    let signals = is.1.1.1 in
    λ i. record { target = is.0 i; minutes = is.1.0 i; wait = is.1.1.0 i; signals = ext_get_or 0 step.signals (0 ∷ 0 ∷ 0 ∷ 0 ∷ []) signals.long (λ k h. signals.at k 0 (omega (arith, signals.long)) ∙ sym (zero_at k)) i }
  where
    zero_at : (k : ℕ) → get_or {A = ℕ} (0 ∷ 0 ∷ 0 ∷ 0 ∷ []) k 0 ≡ 0
    zero_at zero = refl
    zero_at (suc zero) = refl
    zero_at (suc (suc zero)) = refl
    zero_at (suc (suc (suc zero))) = refl
    zero_at (suc (suc (suc (suc k)))) = refl

-- an entry of a view, counted from 1
pub numbered-tab : {A : Type 0} (none : A) (f : ℕ → A) (width at m number : ℕ) → 1 ≤ number → number ≤ m
    → numbered none (tab f width at m) number ≡ f (at + width * (number - 1))
unfolding numbered
numbered-tab none f width at m zero from to = absurd (omega arith)
numbered-tab none f width at m (suc i) from to =
    let same : suc i - 1 ≡ i = omega arith in
    get_or-tab f width at m i none (omega arith) ∙ ap (λ (j : ℕ). f (at + width * j)) (sym same)

pub numbered-past : {A : Type 0} (none : A) (xs : List A) (number : ℕ) → length xs < number → numbered none xs number ≡ none
unfolding numbered
numbered-past none xs zero h = refl
numbered-past none xs (suc i) h = get_or-eq_default xs none (omega arith)

pub numbered-none : {A : Type 0} (none : A) (xs : List A) (number : ℕ) → number < 1 → numbered none xs number ≡ none
unfolding numbered
numbered-none none xs zero h = refl
numbered-none none xs (suc i) h = absurd (omega arith)

pub numbered-outside : {A : Type 0} (none : A) (f : ℕ → A) (width at m number : ℕ) → (number < 1) ⊎ (m < number) → numbered none (tab f width at m) number ≡ none
numbered-outside none f width at m number (inl h) = numbered-none none (tab f width at m) number h
numbered-outside none f width at m number (inr h) = numbered-past none (tab f width at m) number (omega (arith, length-tab f width at m))

module _ (bank : List ℕ) (p : ℕ) where
  pub pattern-there : between 1 p (field 1 bank 0) ≡ true → pattern_of bank p ≡ pattern_at bank p
  unfolding pattern_of patterns_of between
  pattern-there t =
      let l = leb-true 1 p (both_left _ (leb p (field 1 bank 0)) t) in
      let upper = leb-true p (field 1 bank 0) (both_right (leb 1 p) _ t) in
      let same : 1 + 1 * (p - 1) ≡ p = omega arith in
      numbered-tab no_pattern (pattern_at bank) 1 1 (field 1 bank 0) p l upper ∙ ap (pattern_at bank) same

  pub pattern-none : between 1 p (field 1 bank 0) ≡ false → pattern_of bank p ≡ no_pattern
  unfolding pattern_of patterns_of between
  pattern-none t = go (leb 1 p) refl
    where
      ps : List Pattern
      ps = tab (pattern_at bank) 1 1 (field 1 bank 0)

      go : (x : Bool) → leb 1 p ≡ x → numbered no_pattern ps p ≡ no_pattern
      go true same =
          let upper = leb-false p (field 1 bank 0) (sym (on same) ∙ t) in
          numbered-past no_pattern ps p (omega (arith, length-tab (pattern_at bank) 1 1 (field 1 bank 0)))
      go false same = numbered-none no_pattern ps p (leb-false 1 p same)

  module _ (there : between 1 p (field 1 bank 0) ≡ true) where
    steps-there : (pattern_of bank p).steps ≡ tab (step_at bank) 9 (offset_of bank p + 2) (steps_in (length_of bank p))
    unfolding pattern_at
    steps-there = ap (λ (x : Pattern). x.steps) (pattern-there there)

    pub step_past : (k : ℕ) → steps_in (length_of bank p) < k → step_of bank p k ≡ no_step
    unfolding step_of
    step_past k h =
        ap (λ (xs : List Step). numbered no_step xs k) steps-there
        ∙ numbered-past no_step _ k (omega (arith, length-tab (step_at bank) 9 (offset_of bank p + 2) (steps_in (length_of bank p))))

  -- a pattern that is not there has no step
  pub step-none : between 1 p (field 1 bank 0) ≡ false → (k : ℕ) → step_of bank p k ≡ no_step
  unfolding step_of no_pattern numbered
  step-none t k = ap (λ (x : Pattern). numbered no_step x.steps k) (pattern-none t) ∙ go k
    where
      go : (k : ℕ) → numbered no_step [] k ≡ no_step
      go zero = refl
      go (suc i) = refl

-- ---- a chain that ends in Accepted: each test in it holds, and each part of it is Accepted

pub test-holds : (a : Bool) (refusal rest : Checked) → (refusal ≡ Accepted → ⊥) → test a refusal rest ≡ Accepted → (a ≡ true) × (rest ≡ Accepted)
unfolding test
test-holds true refusal rest h same = (refl, same)
test-holds false refusal rest h same = absurd (h same)

-- each step of steps that are right is right
steps-right : (low high : ℤ) (p : ℕ) (steps : List Step) (k j : ℕ) (d : Step) → steps_found low high p k steps ≡ Accepted → j < length steps → step_right low high (get_or steps j d) ≡ true
unfolding steps_found
steps-right low high p [] k j d same h = absurd (omega arith)
steps-right low high p (step ∷ steps) k zero d same h = (test-holds _ _ _ (not_body p k) same).0
steps-right low high p (step ∷ steps) k (suc j) d same h = steps-right low high p steps (k + 1) j d (test-holds _ _ _ (not_body p k) same).1 (omega arith)

-- so is each pattern: its runs, its s, its steps
pub record Right (right : Pattern → Bool) (low high : ℤ) (p : ℕ) (x : Pattern) : Type 0 where
  pub runs : x.runs ≤ 99
  pub count : right x ≡ true
  pub steps : steps_found low high p 1 x.steps ≡ Accepted

body-right : (right : Pattern → Bool) (low high : ℤ) (p : ℕ) (x : Pattern) (xs : List Pattern) → bodies_found right low high p (x ∷ xs) ≡ Accepted
    → Right right low high p x × (bodies_found right low high (p + 1) xs ≡ Accepted)
unfolding bodies_found
body-right right low high p x xs same =
    let t = test-holds _ _ _ (not_body p 0) same in
    let rest = then-holds _ _ t.1 in
    (record { runs = leb-true _ _ (both_left _ _ t.0); count = both_right _ _ t.0; steps = rest.0 }, rest.1)

bodies_right : (right : Pattern → Bool) (low high : ℤ) (ps : List Pattern) (p j : ℕ) (d : Pattern) → bodies_found right low high p ps ≡ Accepted → j < length ps
    → Right right low high (p + j) (get_or ps j d)
bodies_right right low high [] p j d same h = absurd (omega arith)
bodies_right right low high (x ∷ xs) p zero d same h =
    let q : p ≡ p + 0 = omega arith in
    subst (λ (i : ℕ). Right right low high i x) q (body-right right low high p x xs same).0
bodies_right right low high (x ∷ xs) p (suc j) d same h =
    let q : p + 1 + j ≡ p + suc j = omega arith in
    subst (λ (i : ℕ). Right right low high i (get_or xs j d)) q (bodies_right right low high xs (p + 1) j d (body-right right low high p x xs same).1 (omega arith))

-- each pair is right: its length is that of its steps, at most as many as the capacity, and its body lies in the bank
pub record Fitting (bank : List ℕ) (n p : ℕ) : Type 0 where
  pub size : length_of bank p ≡ 2 + 9 * steps_in (length_of bank p)
  pub steps : steps_in (length_of bank p) ≤ capacity_of n
  pub inside : offset_of bank p + length_of bank p ≤ length bank

pub pair-holds : (bank : List ℕ) (n i due : ℕ) → pair_right (offset_of bank i) (length_of bank i) due (capacity_of n) (length bank) ≡ true → Fitting bank n i
unfolding pair_right
pair-holds bank n i due same =
    let t = both_right _ _ same in
    let rest = both_right _ _ t in
    let start = eqb-true (offset_of bank i) due (both_left _ _ same) in
    let end = leb-true (due + length_of bank i) (length bank) (both_right _ _ rest) in
    record { size = eqb-true _ _ (both_left _ _ t); steps = leb-true _ _ (both_left _ _ rest); inside = omega arith }

pairs-right : (bank : List ℕ) (n m i due j : ℕ) → pairs_from bank n m i due ≡ Accepted → j < m → Fitting bank n (i + j)
unfolding pairs_from
pairs-right bank n zero i due j same h = absurd (omega arith)
pairs-right bank n (suc m) i due zero same h =
    let q : i ≡ i + 0 = omega arith in
    subst (Fitting bank n) q (pair-holds bank n i due (test-holds _ _ _ (not-pair i) same).0)
pairs-right bank n (suc m) i due (suc j) same h =
    let t = test-holds _ _ _ (not-pair i) same in
    let q : i + 1 + j ≡ i + suc j = omega arith in
    subst (Fitting bank n) q (pairs-right bank n m (i + 1) (due + length_of bank i) j t.1 (omega arith))

module _ (bank : List ℕ) (n : ℕ) (right : pairs_found bank n ≡ Accepted) where
  pub pairs-there : 45 + 4 * n ≤ length bank
  unfolding pairs_found
  pairs-there = leb-true _ _ (test-holds _ _ _ (not-pair 0) right).0

  pub pairs-fit : (p : ℕ) → 1 ≤ p → p ≤ n → Fitting bank n p
  unfolding pairs_found
  pairs-fit p p1 pn =
      let q : 1 + (p - 1) ≡ p = omega arith in
      subst (Fitting bank n) q (pairs-right bank n n 1 _ (p - 1) (test-holds _ _ _ (not-pair 0) right).1 (omega arith))

  -- the body that a pair gives is whole steps, and lies in the bank
  pub body-inside : (p : ℕ) (body : Extent) → 1 ≤ p → p ≤ n → Gives bank p body → (body.len ≡ 2 + 9 * steps_in body.len) × (body.at + body.len ≤ length bank)
  body-inside p body p1 pn gives =
      let fit = pairs-fit p p1 pn in
      (omega (arith, fit.size, gives.len), omega (arith, fit.inside, gives.at, gives.len))

-- ---- as many patterns as there are, with as many steps as fit, have at most 99 steps

pub capacity-is : (n : ℕ) → 1 ≤ n → n ≤ 15 → capacity_of n ≡ 99 / n
unfolding capacity_of between
capacity-is n l upper = ap (λ (t : Bool). cond t (99 / n) 0) (on (le-leb 1 n l) ∙ le-leb n 15 upper)

pub all_fit : (n p : ℕ) → 1 ≤ n → n ≤ 15 → p ≤ n → p * capacity_of n ≤ 99
all_fit n p l upper h =
    le_trans (mul-le-mul_right (capacity_of n) h)
    (subst (λ (x : ℕ). n * x ≤ 99) (sym (capacity-is n l upper)) (subst (λ (x : ℕ). x ≤ 99) (mul_comm (99 / n) n) (div-mul-le_self 99 n)))

-- ---- of an accepted bank

module _ (bank : List ℕ) (ok : found_in bank ≡ Accepted) where
  pub record Parts : Type 0 where
    pub long : 45 ≤ length bank
    pub settings : settings_found (settings_at bank) ≡ Accepted
    pub pairs : pairs_found bank (field 1 bank 0) ≡ Accepted
    pub bodies : bodies_found of_length (settings_at bank).low (settings_at bank).high 1 (patterns_of bank) ≡ Accepted

  pub parts : Parts
  unfolding found_in settings_in settings_at
  parts =
      let t = then-holds _ _ ok in
      let front = test-holds _ _ _ (not-refusal Short) t.0 in
      let v = then-holds _ _ t.1 in
      record { long = leb-true _ _ front.0; settings = front.1; pairs = v.0; bodies = v.1 }

  pub count-range : (1 ≤ field 1 bank 0) × (field 1 bank 0 ≤ 15)
  unfolding settings_at
  count-range = settings-count (settings_at bank) parts.settings

  pub there : (p : ℕ) → 1 ≤ p → p ≤ field 1 bank 0 → between 1 p (field 1 bank 0) ≡ true
  unfolding between
  there p l upper = on (le-leb 1 p l) ∙ le-leb p (field 1 bank 0) upper

  -- each pattern's pair, body and steps
  pub pair_fits : (p : ℕ) → 1 ≤ p → p ≤ field 1 bank 0 → Fitting bank (field 1 bank 0) p
  pair_fits = pairs-fit bank (field 1 bank 0) parts.pairs

  pub pattern-right : (p : ℕ) → 1 ≤ p → p ≤ field 1 bank 0 → Right of_length (settings_at bank).low (settings_at bank).high p (pattern_of bank p)
  unfolding pattern_of patterns_of numbered
  pattern-right zero p1 pn = absurd (omega arith)
  pattern-right (suc i) p1 pn =
      let size = length-tab (pattern_at bank) 1 1 (field 1 bank 0) in
      subst (λ (j : ℕ). Right of_length (settings_at bank).low (settings_at bank).high j (get_or (patterns_of bank) i no_pattern)) (omega arith)
      (bodies_right of_length (settings_at bank).low (settings_at bank).high (patterns_of bank) 1 i no_pattern parts.bodies (omega arith))

  -- the s of a pattern is the number of its steps, at most the capacity
  pub count-is : (p : ℕ) → 1 ≤ p → p ≤ field 1 bank 0 → (pattern_of bank p).count ≡ length (pattern_of bank p).steps
  unfolding of_length
  count-is p p1 pn = eqb-true _ _ (pattern-right p p1 pn).count

  pub count_fits : (p : ℕ) → 1 ≤ p → p ≤ field 1 bank 0 → length (pattern_of bank p).steps ≤ capacity_of (field 1 bank 0)
  unfolding pattern_at
  count_fits p p1 pn =
      let same : length (pattern_of bank p).steps ≡ steps_in (length_of bank p) =
      ap (λ (x : Pattern). length x.steps) (pattern-there bank p (there p p1 pn))
      ∙ length-tab (step_at bank) 9 (offset_of bank p + 2) (steps_in (length_of bank p)) in
      subst (λ (x : ℕ). x ≤ capacity_of (field 1 bank 0)) (sym same) (pair_fits p p1 pn).steps

  pub step-is-right : (p k : ℕ) → 1 ≤ p → p ≤ field 1 bank 0 → 1 ≤ k → k ≤ (pattern_of bank p).count
      → step_right (settings_at bank).low (settings_at bank).high (step_of bank p k) ≡ true
  unfolding step_of numbered
  step-is-right p zero p1 pn k1 ks = absurd (omega arith)
  step-is-right p (suc i) p1 pn k1 ks =
      steps-right _ _ p (pattern_of bank p).steps 1 i no_step (pattern-right p p1 pn).steps (omega (arith, count-is p p1 pn))
