-- A bank that was written is accepted.
-- Assumes nothing.
use mathlib.Core.Path.{◌≡◌, sym, ap, ◌∙◌, subst}
use mathlib.Core.Bool.{Bool, true}
use mathlib.Core.List.{List, [], ◌∷◌, ◌++◌, append_assoc}
use Prim.Native.Nat.{ℕ, ◌+◌, ◌*◌, ◌≤◌, ◌<◌}
use native.Mathlib.Omega.{arith}
use borrow.Author.Tests.{le-leb, eq-eqb}
use lib.IntN.{ℤ}
use lib.ListN.{length, take, drop}
use lib.Seq.{drop_at}
use Rattle.std.proofs.Common.{sum}
use Rattle.field.specs.Field.{field}
use Rattle.field.specs.Row.{row}
use Rattle.capacity.specs.Capacity.{capacity_of}
use Rattle.bank.specs.View.{Pattern, pattern_at, patterns_of, offset_of, length_of, steps_in}
use Rattle.setting.specs.Setting.{settings_at}
use Rattle.field.specs.Tab.{tab}
use Rattle.setting.specs.Found.{then}
use Rattle.setting.specs.Setting.{settings_found, settings_in}
use Rattle.bank.specs.Check.{pair_right, pairs_from, pairs_found, bodies_found, of_length, found_in}
use Rattle.arrays.specs.Read.{all_steps}
use Rattle.setting.specs.declared.Settings.{Settings}
use Rattle.arrays.specs.declared.Patterns.{Patterns}
use Rattle.setting.proofs.Laws.{on, right, first-is, next, both_left}
use Rattle.bank.proofs.Facts.{not_body, test-holds, then-holds, all_fit}
use Rattle.arrays.specs.Encode.{setting_widths, setting_numbers, bodies_bytes, size_of, pairs_bytes, encode}
use Rattle.arrays.specs.Write.{taken_of, within_capacity, wrong_in}
use Rattle.arrays.proofs.Views.{All, all_map, all_drop, all_take, all-tab}
use Rattle.arrays.proofs.Taken.{count_at, pattern_in, taken-all, length_taken, Fit, fit_of, sum_to, sum-taken, all_in}
use Rattle.arrays.proofs.Sizes.{length-settings, length_front, length-written, full, length-all}
use Rattle.arrays.proofs.Values.{SettingsFit, fours-of, PatternsFit, StepFits}
use Rattle.arrays.proofs.Back.{PatternFits, Stand, settings-read, stand, patterns-read}
use Rattle.setting.specs.Found.{Checked}
use Rattle.setting.specs.Found.{Accepted}

-- ---- patterns that are right

-- one walk over patterns finds nothing wrong: no more does another, whose test of s holds of each
pub bodies-change : (f g : Pattern → Bool) (low high : ℤ) (p : ℕ) (xs : List Pattern) → All (λ x. g x ≡ true) xs → bodies_found f low high p xs ≡ Accepted
    → bodies_found g low high p xs ≡ Accepted
unfolding bodies_found
bodies-change f g low high p [] h same = same
bodies-change f g low high p (x ∷ xs) h same =
    let t = test-holds _ _ _ (not_body p 0) same in
    let rest = then-holds _ _ t.1 in
    right _ (on (both_left _ _ t.0) ∙ h.0) ∙ next rest.0 ∙ bodies-change f g low high (p + 1) xs h.1 rest.1

-- a pattern that the writer takes: its numbers, as many steps as it says, and no more than there can be
pub record Whole (n : ℕ) (x : Pattern) : Type 0 where
  pub runs : x.runs ≤ 99
  pub count : x.count ≡ length x.steps
  pub most : x.count ≤ capacity_of n
  pub steps : All StepFits x.steps

pub whole-all : (settings : Settings) (ps : Patterns) → PatternsFit ps → wrong_in settings (taken_of settings ps) ≡ Accepted → All (Whole settings.patterns) (taken_of settings ps)
whole-all settings ps fits ok = subst (All (Whole n)) (sym (taken-all settings ps)) (all-tab (Whole n) (pattern_in ps) 0 n (λ p l upper. one p (omega arith)))
  where
    n : ℕ
    n = settings.patterns

    fit : Fit n ps
    fit = fit_of settings ps ok

    one : (p : ℕ) → p < n → Whole n (pattern_in ps p)
    one p h = record {
      runs = fit.runs p h;
      count = sym (full ps n fit fits.size p h);
      most = fit.count p h;
      steps = all_take StepFits (count_at ps p) (drop (sum_to ps.counts p) ps.steps) (all_drop StepFits (sum_to ps.counts p) ps.steps fits.steps);
    }

-- ---- the pairs

pair-right : (offset len due cap size s : ℕ) → offset ≡ due → len ≡ 2 + 9 * s → s ≤ cap → due + len ≤ size → pair_right offset len due cap size ≡ true
unfolding pair_right
pair-right offset len due cap size s o l c h =
    let same : steps_in len ≡ s = omega arith in
    on (eq-eqb offset due o) ∙ on (eq-eqb len (2 + 9 * steps_in len) (omega arith)) ∙ on (le-leb (steps_in len) cap (omega arith)) ∙ le-leb (due + len) size h

pairs-right : (bank : List ℕ) (n : ℕ) (xs : List Pattern) (p due : ℕ) → All (Whole n) xs → Stand bank p due xs → pairs_from bank n (length xs) p due ≡ Accepted
unfolding pairs_from
pairs-right bank n [] p due whole h = right _ (eq-eqb due (length bank) h)
pairs-right bank n (x ∷ xs) p due whole h =
    right _
    (pair-right (offset_of bank p) (length_of bank p) due (capacity_of n) (length bank) (length x.steps) h.0 h.1
    (omega (arith, whole.0.count, whole.0.most)) (omega (arith, h.1, h.3)))
    ∙ ap (λ (size : ℕ). pairs_from bank n (length xs) (p + 1) (due + size)) h.1 ∙ pairs-right bank n xs (p + 1) (due + size_of x) whole.1 h.4

-- ---- the bank

module _ (settings : Settings) (ps : Patterns) (f : SettingsFit settings) (g : PatternsFit ps) (ok : wrong_in settings (taken_of settings ps) ≡ Accepted) where
  abbrev xs : List Pattern
  xs = taken_of settings ps

  abbrev bank : List ℕ
  bank = encode settings xs

  fit : Fit settings.patterns ps
  fit = fit_of settings ps ok

  wholes : All (Whole settings.patterns) xs
  wholes = whole-all settings ps g ok

  -- at most 99 steps
  steps_of : length (all_steps (taken_of settings ps)) ≡ sum_to ps.counts settings.patterns
  steps_of = ap (λ (ys : List Pattern). length (all_steps ys)) (taken-all settings ps) ∙ length-all ps settings.patterns fit g.size

  steps-in : length (all_steps (taken_of settings ps)) ≤ 99
  steps-in = omega (arith, steps_of, all_in settings.patterns ps fit settings.patterns (omega arith))

  size : length (encode settings (taken_of settings ps)) ≡ 45 + 6 * settings.patterns + 9 * length (all_steps (taken_of settings ps))
  size = length-written settings ps (fours-of settings f)

  -- by a number of steps that is theirs
  pub size-by : {steps : ℕ} → steps ≡ length (all_steps (taken_of settings ps))
      → (45 + 6 * settings.patterns + 9 * steps ≡ length (encode settings (taken_of settings ps))) × (steps ≤ 99)
  size-by same = (omega (arith, size), omega (arith, steps-in))

  -- and by the sum of the counts
  pub size-counted : {steps : ℕ} → length ps.counts ≡ 15 → steps ≡ sum (take settings.patterns ps.counts)
      → (45 + 6 * settings.patterns + 9 * steps ≡ length (encode settings (taken_of settings ps))) × (steps ≤ 99)
  size-counted long same = size-by (same ∙ sum-taken ps.counts settings.patterns (omega (arith, fit.few, long)) ∙ sym steps_of)

  short : length bank < 65536
  short = omega (arith, size, fit.few, steps-in)

  abbrev due : ℕ
  due = 45 + 4 * length xs

  -- what stands at 0, at 45 and where the first body is due
  at_front : drop 0 bank ≡ row setting_widths (setting_numbers settings) ++ (pairs_bytes due xs ++ bodies_bytes xs)
  unfolding encode
  at_front = append_assoc (row setting_widths (setting_numbers settings)) (pairs_bytes due xs) (bodies_bytes xs)

  at-pairs : drop 45 bank ≡ pairs_bytes due xs ++ bodies_bytes xs
  at-pairs =
      ap (drop 45) at_front ∙ drop_at (row setting_widths (setting_numbers settings)) (pairs_bytes due xs ++ bodies_bytes xs) 45 (length-settings settings (fours-of settings f))

  at-bodies : drop due bank ≡ bodies_bytes xs
  unfolding encode
  at-bodies = drop_at (row setting_widths (setting_numbers settings) ++ pairs_bytes due xs) (bodies_bytes xs) due (length_front settings xs due (fours-of settings f))

  stands : Stand bank 1 due xs
  stands =
      let cap = all_fit settings.patterns 1 fit.some fit.few fit.some in
      let fits : (x : Pattern) → Whole settings.patterns x → PatternFits x =
      λ x whole. record { runs = omega (arith, whole.runs); count = omega (arith, whole.most, cap); steps = whole.steps } in
      stand bank xs 1 due (bodies_bytes xs) short (omega (arith, size, length_taken settings ps)) (all_map (Whole settings.patterns) PatternFits fits xs wholes) at-pairs at-bodies

  -- it reads as what was taken
  pub reads-settings : settings_at (encode settings (taken_of settings ps)) ≡ settings
  reads-settings = settings-read bank settings (pairs_bytes due xs ++ bodies_bytes xs) f at_front

  count-read : field 1 bank 0 ≡ length xs
  unfolding settings_at
  count-read = ap (λ (x : Settings). x.patterns) reads-settings ∙ sym (length_taken settings ps)

  pub reads-patterns : patterns_of (encode settings (taken_of settings ps)) ≡ taken_of settings ps
  unfolding patterns_of
  reads-patterns = ap (tab (pattern_at bank) 1 1) count-read ∙ patterns-read bank xs 1 due stands

  -- and is accepted
  pairs-found : pairs_found bank settings.patterns ≡ Accepted
  unfolding pairs_found
  pairs-found =
      let n : settings.patterns ≡ length xs = sym (length_taken settings ps) in
      right _ (le-leb (45 + 4 * settings.patterns) (length bank) (omega (arith, size, n)))
      ∙ (λ i. pairs_from bank settings.patterns (n i) 1 (45 + 4 * n i)) ∙ pairs-right bank settings.patterns xs 1 due wholes stands

  pub written-accepted : found_in (encode settings (taken_of settings ps)) ≡ Accepted
  unfolding found_in settings_in wrong_in of_length
  written-accepted =
      let parts = then-holds _ _ ok in
      let counts : All (λ x. of_length x ≡ true) xs =
      all_map (Whole settings.patterns) _ (λ x whole. eq-eqb x.count (length x.steps) whole.count) xs wholes in
      let bodies = bodies-change (within_capacity settings.patterns) of_length settings.low settings.high 1 xs counts parts.1 in
      let found : Settings → List Pattern → Checked =
      λ t ys. then (settings_found t) (then (pairs_found bank t.patterns) (bodies_found of_length t.low t.high 1 ys)) in
      first-is _ (right _ (le-leb 45 (length bank) (omega (arith, size))))
      ∙ (λ i. found (reads-settings i) (reads-patterns i))
      ∙ next parts.0 ∙ next pairs-found ∙ bodies
