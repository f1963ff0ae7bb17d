-- The check of the patterns that the writer takes, one pattern and one step at a time.
-- Assumes nothing.
use mathlib.Core.Path.{◌≡◌, refl, sym, ap, ◌∙◌}
use mathlib.Core.Bool.{Bool, true, false, ◌&&◌}
use mathlib.Core.List.{List}
use Prim.Native.Nat.{ℕ, ◌+◌, ◌*◌, ◌-◌, ◌≤◌, ◌<◌, zero-le}
use native.Mathlib.Numerals.{add-one-le}
use native.Mathlib.Omega.{arith}
use lib.Dec.{leb}
use lib.ListN.{length, get_or, take, drop}
use mir.Syntax.{w16}
use mir.Val.{to_z, of_z}
use mir.Facts.{to_z-of_z}
use borrow.Author.Tests.{leb-true}
use Rattle.limits.specs.Range.{both}
use Rattle.capacity.specs.Capacity.{capacity_of}
use Rattle.setting.specs.Found.{Checked, Accepted, test, then}
use Rattle.setting.specs.Setting.{settings_found}
use Rattle.setting.specs.declared.Settings.{Settings}
use Rattle.setting.specs.declared.BankRefusal.TheVariants.{Body}
use Rattle.setting.proofs.Laws.{both_right, both-and, right, wrong, first-is, next, stop, settings-count}
use Rattle.bank.specs.Check.{step_right, bodies_found}
use Rattle.bank.specs.declared.Step.{Step}
use Rattle.bank.proofs.Facts.{all_fit}
use Rattle.arrays.specs.declared.Patterns.{Patterns}
use Rattle.arrays.specs.Write.{taken_of, within_capacity}
use Rattle.arrays.proofs.Copied.{grown}
use Rattle.arrays.proofs.Taken.{count_at, sum_to, sum_more, steps_left, steps-more, steps-end, patterns_left, patterns-start, patterns-more, patterns-end}
use Rattle.arrays.proofs.Values.{SettingsFit}
use Rattle.std.specs.Prelude.{Err}

abbrev pub whole : Settings → Patterns → Checked
whole settings ps = bodies_found (within_capacity settings.patterns) settings.low settings.high 1 (taken_of settings ps)

-- pattern p + 1 is reached, whose steps stand from place base on: what is found is what the patterns from there on are found to be
pub record Reached (settings : Settings) (ps : Patterns) (base p : ℕ) : Type 0 where
  pub some : 1 ≤ settings.patterns
  pub few : settings.patterns ≤ 15
  pub inside : base ≤ 99
  pub begins : base ≡ sum_to ps.counts p
  pub before : base ≤ p * capacity_of settings.patterns
  pub found : whole settings ps ≡ patterns_left settings.low settings.high ps settings.patterns p

-- what is found, by what the steps of pattern p + 1 from step k + 1 on are found to be
abbrev pub Left : Settings → Patterns → List Step → ℕ → ℕ → Type 0
Left settings ps steps p k =
    whole settings ps ≡ then (steps_left settings.low settings.high steps p k) (patterns_left settings.low settings.high ps settings.patterns (p + 1))

pub start : (settings : Settings) (ps : Patterns) → settings_found settings ≡ Accepted → Reached settings ps 0 0
unfolding sum_to
start settings ps ok = record {
  some = (settings-count settings ok).0;
  few = (settings-count settings ok).1;
  inside = zero-le;
  begins = refl;
  before = zero-le;
  found = patterns-start settings ps;
}

pub end : (settings : Settings) (ps : Patterns) (base p : ℕ) → Reached settings ps base p → settings.patterns ≤ p → whole settings ps ≡ Accepted
end settings ps base p at none = at.found ∙ patterns-end settings.low settings.high ps settings.patterns p none

-- a pattern, and the test of its numbers
module _ (settings : Settings) (ps : Patterns) (base p : ℕ) (at : Reached settings ps base p) (less : p < settings.patterns) (most : ℕ) (is : most ≡ capacity_of settings.patterns) where
  tested : {t : Bool} → (leb (get_or ps.runs p 0) 99 && leb (count_at ps p) most) ≡ t → both (leb (get_or ps.runs p 0) 99) (leb (count_at ps p) (capacity_of settings.patterns)) ≡ t
  tested said = both-and _ _ ∙ ap (λ (m : ℕ). leb (get_or ps.runs p 0) 99 && leb (count_at ps p) m) (sym is) ∙ said

  more : whole settings ps ≡ test (both (leb (get_or ps.runs p 0) 99) (leb (count_at ps p) (capacity_of settings.patterns))) (Err (Body (p + 1) 0))
      (then (steps_left settings.low settings.high (take (count_at ps p) (drop base ps.steps)) p 0) (patterns_left settings.low settings.high ps settings.patterns (p + 1)))
  more = at.found ∙ patterns-more settings.low settings.high ps settings.patterns p base less at.begins

  pub pattern-wrong : (leb (get_or ps.runs p 0) 99 && leb (count_at ps p) most) ≡ false → whole settings ps ≡ Err (Body (p + 1) 0)
  pattern-wrong said = more ∙ wrong _ (tested said)

  module _ (said : (leb (get_or ps.runs p 0) 99 && leb (count_at ps p) most) ≡ true) where
    -- there is room for its steps
    pub room : (base + count_at ps p ≤ (p + 1) * capacity_of settings.patterns) × (base + count_at ps p ≤ 99)
    room =
        let upto = grown base (count_at ps p) p (capacity_of settings.patterns) at.before (leb-true _ _ (both_right _ _ (tested said))) in
        (upto, omega (arith, upto, all_fit settings.patterns (p + 1) at.some at.few (add-one-le less)))

    pub pattern-right : Left settings ps (take (base + count_at ps p - base) (drop base ps.steps)) p 0
    pattern-right = let size : base + count_at ps p - base ≡ count_at ps p = omega arith in rw size (more ∙ right _ (tested said))

    -- all of them are right: the next pattern is reached
    pub next-pattern : (steps : List Step) (k : ℕ) → Left settings ps steps p k → length steps ≤ k → Reached settings ps (base + count_at ps p) (p + 1)
    next-pattern steps k left none = record {
      some = at.some;
      few = at.few;
      inside = room.1;
      begins = ap (λ (from : ℕ). from + count_at ps p) at.begins ∙ sym (sum_more ps.counts p);
      before = room.0;
      found = left ∙ next (steps-end settings.low settings.high steps p k none);
    }

-- a step, and the test of it, which is handed the set value limits by their bits
module _ (settings : Settings) (ps : Patterns) (fit : SettingsFit settings) (steps : List Step) (p k : ℕ) (d : Step) (left : Left settings ps steps p k) (less : k < length steps)
    {t : Bool} (said : t ≡ step_right (to_z w16 (of_z w16 settings.low)) (to_z w16 (of_z w16 settings.high)) (get_or steps k d)) where
  step : whole settings ps
      ≡ then (test t (Err (Body (p + 1) (k + 1))) (steps_left settings.low settings.high steps p (k + 1))) (patterns_left settings.low settings.high ps settings.patterns (p + 1))
  step =
      let same : t ≡ step_right settings.low settings.high (get_or steps k d) = said ∙ (λ i. step_right (to_z-of_z fit.low i) (to_z-of_z fit.high i) (get_or steps k d)) in
      left ∙ first-is _ (steps-more settings.low settings.high steps p k d less
      ∙ ap (λ (t : Bool). test t (Err (Body (p + 1) (k + 1))) (steps_left settings.low settings.high steps p (k + 1))) (sym same))

  pub step-wrong : t ≡ false → whole settings ps ≡ Err (Body (p + 1) (k + 1))
  step-wrong same = step ∙ first-is _ (wrong _ same) ∙ stop (p + 1) (k + 1) _

  pub step-right : t ≡ true → Left settings ps steps p (k + 1)
  step-right same = step ∙ first-is _ (right _ same)
