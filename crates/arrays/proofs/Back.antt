-- The parts of a bank that was written read as what they were written from.
-- Assumes nothing.
use mathlib.Core.Path.{◌≡◌, refl, sym, ap, ◌∙◌, subst}
use mathlib.Core.List.{List, [], ◌∷◌, ◌++◌, append_assoc}
use Prim.Native.Nat.{ℕ, ◌+◌, ◌*◌, ◌-◌, ◌≤◌, ◌<◌}
use native.Mathlib.Omega.{arith}
use lib.ListN.{length, get_or, take, drop, replicate, length-drop}
use lib.Seq.{drop-drop, drop_at, take_at}
use mir.Syntax.{w16}
use mir.Val.{to_z}
use mir.Facts.{to_z-of_z, Fits-of_z}
use Rattle.field.specs.Field.{field, signed_field}
use Rattle.field.specs.Row.{row, row_at}
use Rattle.field.proofs.Rows.{Held, none, held, read-row}
use Rattle.bank.specs.View.{Pattern, step_at, pattern_at, offset_of, length_of, steps_in}
use Rattle.setting.specs.Setting.{settings_at}
use Rattle.field.specs.Tab.{tab}
use Rattle.setting.specs.declared.Settings.{Settings}
use Rattle.bank.specs.declared.Step.{Step}
use Rattle.arrays.specs.Encode.{paired, setting_widths, setting_numbers, step_widths, step_numbers, steps_bytes, bodies_bytes, size_of, pairs_bytes}
use Rattle.arrays.proofs.Views.{All}
use Rattle.arrays.proofs.Sizes.{four, length-paired, length-step, length_two, length-pattern, length-body}
use Rattle.arrays.proofs.Values.{Four, SettingsFit, StepFits}

-- what stands behind a part
behind : (bank : List ℕ) (at j : ℕ) (xs ys : List ℕ) → drop at bank ≡ xs ++ ys → at + length xs ≡ j → drop j bank ≡ ys
behind bank at j xs ys same h =
    ap (λ (from : ℕ). drop from bank) (sym h) ∙ sym (drop-drop (length xs) at bank) ∙ ap (drop (length xs)) same ∙ drop_at xs ys (length xs) refl

-- ---- settings

held-append : {ws vs ws₁ vs₁ : List ℕ} → Held ws vs → Held ws₁ vs₁ → Held (ws ++ ws₁) (vs ++ vs₁)
held-append none more = more
held-append (held l h) more = held l (held-append h more)

held-paired : (xs ys : List ℕ) → Four 65536 xs → Four 65536 ys → Held (replicate 8 2) (paired xs ys)
unfolding paired
held-paired xs ys f g =
    subst (λ (l : List ℕ). Held (replicate 8 2) l) (λ i. paired (sym (four xs f.size) i) (sym (four ys g.size) i))
    (held (f.below 0) (held (g.below 0) (held (f.below 1) (held (g.below 1) (held (f.below 2) (held (g.below 2) (held (f.below 3) (held (g.below 3) none))))))))

-- every other number of a list, from the first and from the second on
firsts : List ℕ → List ℕ
firsts [] = []
firsts (x ∷ []) = x ∷ []
firsts (x ∷ y ∷ l) = x ∷ firsts l

seconds : List ℕ → List ℕ
seconds [] = []
seconds (x ∷ []) = []
seconds (x ∷ y ∷ l) = y ∷ seconds l

firsts-paired : (xs ys : List ℕ) → length xs ≡ length ys → firsts (paired xs ys) ≡ xs
unfolding paired firsts
firsts-paired [] ys same = refl
firsts-paired (x ∷ xs) [] same = absurd (omega arith)
firsts-paired (x ∷ xs) (y ∷ ys) same = ap (λ (l : List ℕ). x ∷ l) (firsts-paired xs ys (omega arith))

seconds-paired : (xs ys : List ℕ) → length xs ≡ length ys → seconds (paired xs ys) ≡ ys
unfolding paired seconds
seconds-paired [] [] same = refl
seconds-paired [] (y ∷ ys) same = absurd (omega arith)
seconds-paired (x ∷ xs) [] same = absurd (omega arith)
seconds-paired (x ∷ xs) (y ∷ ys) same = ap (λ (l : List ℕ). y ∷ l) (seconds-paired xs ys (omega arith))

module _ (bank : List ℕ) (settings : Settings) (rest : List ℕ) (f : SettingsFit settings) (same : drop 0 bank ≡ row setting_widths (setting_numbers settings) ++ rest) where
  numbers : row_at setting_widths bank 0 ≡ setting_numbers settings
  numbers =
      read-row bank 0 rest
      (held f.patterns (held f.start (held f.outage (held (Fits-of_z f.low).fits (held (Fits-of_z f.high).fits (held (Fits-of_z f.initial).fits (held f.width (held f.filter
      (held-append (held-paired settings.zones settings.waits f.zones f.waits) (held-paired settings.on settings.off f.on f.off))))))))))
      same

  waiting : take 8 (drop 8 (row_at setting_widths bank 0)) ≡ paired settings.zones settings.waits
  waiting =
      ap (λ (l : List ℕ). take 8 (drop 8 l)) numbers
      ∙ take_at (paired settings.zones settings.waits) (paired settings.on settings.off) 8 (length-paired 4 settings.zones settings.waits f.zones.size f.waits.size)

  signals : drop 8 (drop 8 (row_at setting_widths bank 0)) ≡ paired settings.on settings.off
  signals =
      ap (λ (l : List ℕ). drop 8 (drop 8 l)) numbers
      ∙ drop_at (paired settings.zones settings.waits) (paired settings.on settings.off) 8 (length-paired 4 settings.zones settings.waits f.zones.size f.waits.size)

  pub settings-read : settings_at bank ≡ settings
  unfolding settings_at row_at signed_field tab firsts seconds
  settings-read =
      let at : (i : ℕ) → get_or (row_at setting_widths bank 0) i 0 ≡ get_or (setting_numbers settings) i 0 = λ i. ap (λ (l : List ℕ). get_or l i 0) numbers in
      let zones : tab (field 2 bank) 4 13 4 ≡ settings.zones = ap firsts waiting ∙ firsts-paired settings.zones settings.waits (f.zones.size ∙ sym f.waits.size) in
      let waits : tab (field 2 bank) 4 15 4 ≡ settings.waits = ap seconds waiting ∙ seconds-paired settings.zones settings.waits (f.zones.size ∙ sym f.waits.size) in
      let on : tab (field 2 bank) 4 29 4 ≡ settings.on = ap firsts signals ∙ firsts-paired settings.on settings.off (f.on.size ∙ sym f.off.size) in
      let off : tab (field 2 bank) 4 31 4 ≡ settings.off = ap seconds signals ∙ seconds-paired settings.on settings.off (f.on.size ∙ sym f.off.size) in
      λ i. record {
        patterns = at 0 i;
        start = at 1 i;
        outage = at 2 i;
        low = (ap (to_z w16) (at 3) ∙ to_z-of_z f.low) i;
        high = (ap (to_z w16) (at 4) ∙ to_z-of_z f.high) i;
        initial = (ap (to_z w16) (at 5) ∙ to_z-of_z f.initial) i;
        width = at 6 i;
        filter = at 7 i;
        zones = zones i;
        waits = waits i;
        on = on i;
        off = off i;
      }

-- ---- steps

-- a step by the numbers of its row
abbrev step_from : List ℕ → Step
step_from l = record {
  target = to_z w16 (get_or l 0 0);
  minutes = get_or l 1 0;
  wait = get_or l 2 0;
  signals = get_or l 3 0 ∷ get_or l 4 0 ∷ get_or l 5 0 ∷ get_or l 6 0 ∷ [];
}

pub step-at : (bank : List ℕ) (at : ℕ) → step_at bank at ≡ step_from (row_at step_widths bank at)
unfolding step_at row_at signed_field tab
step-at bank at =
    let wait : at + 4 ≡ at + 2 + 2 = omega arith in
    let first : at + 5 ≡ at + 2 + 2 + 1 = omega arith in
    let second : at + 5 + 1 ≡ at + 2 + 2 + 1 + 1 = omega arith in
    let third : at + 5 + 1 + 1 ≡ at + 2 + 2 + 1 + 1 + 1 = omega arith in
    let fourth : at + 5 + 1 + 1 + 1 ≡ at + 2 + 2 + 1 + 1 + 1 + 1 = omega arith in
    λ i. record {
      target = to_z w16 (field 2 bank at);
      minutes = field 2 bank (at + 2);
      wait = field 1 bank (wait i);
      signals = field 1 bank (first i) ∷ field 1 bank (second i) ∷ field 1 bank (third i) ∷ field 1 bank (fourth i) ∷ [];
    }

step-held : (step : Step) → StepFits step → Held step_widths (step_numbers step)
step-held step f =
    held (Fits-of_z f.target).fits (held f.minutes (held f.wait (held (f.signals.below 0) (held (f.signals.below 1) (held (f.signals.below 2) (held (f.signals.below 3) none))))))

step-read : (bank : List ℕ) (at : ℕ) (step : Step) (rest : List ℕ) → StepFits step → drop at bank ≡ row step_widths (step_numbers step) ++ rest → step_at bank at ≡ step
step-read bank at step rest f same =
    step-at bank at ∙ ap step_from (read-row bank at rest (step-held step f) same)
    ∙ (λ i. record { target = to_z-of_z f.target i; minutes = step.minutes; wait = step.wait; signals = sym (four step.signals f.signals.size) i })

steps-read : (bank : List ℕ) (steps : List Step) (at : ℕ) (rest : List ℕ) → All StepFits steps → drop at bank ≡ steps_bytes steps ++ rest
    → tab (step_at bank) 9 at (length steps) ≡ steps
unfolding tab steps_bytes
steps-read bank [] at rest f same = refl
steps-read bank (step ∷ steps) at rest f same =
    let first = row step_widths (step_numbers step) in
    let g : drop at bank ≡ first ++ (steps_bytes steps ++ rest) = same ∙ append_assoc first (steps_bytes steps) rest in
    let next = behind bank at (at + 9) first (steps_bytes steps ++ rest) g (omega (arith, length-step step)) in
    λ i. step-read bank at step (steps_bytes steps ++ rest) f.0 g i ∷ steps-read bank steps (at + 9) rest f.1 next i

-- ---- patterns

pub record PatternFits (x : Pattern) : Type 0 where
  pub runs : x.runs < 256
  pub count : x.count < 256
  pub steps : All StepFits x.steps

-- patterns stand in a bank, the first of them pattern p, whose body is due at an offset
abbrev pub Stand : List ℕ → ℕ → ℕ → List Pattern → Type 0
Stand bank p due [] = due ≡ length bank
Stand bank p due (x ∷ xs) =
    (offset_of bank p ≡ due) × (length_of bank p ≡ size_of x) × (pattern_at bank p ≡ x) × (due + size_of x ≤ length bank) × Stand bank (p + 1) (due + size_of x) xs

-- the pattern whose body stands where its pair says
pattern-read : (bank : List ℕ) (p due : ℕ) (x : Pattern) (rest : List ℕ) → PatternFits x → offset_of bank p ≡ due → length_of bank p ≡ size_of x
    → drop due bank ≡ row (1 ∷ 1 ∷ []) (x.runs ∷ x.count ∷ []) ++ steps_bytes x.steps ++ rest → pattern_at bank p ≡ x
unfolding pattern_at row_at
pattern-read bank p due x rest f o l same =
    let start = row (1 ∷ 1 ∷ []) (x.runs ∷ x.count ∷ []) in
    let g : drop due bank ≡ start ++ (steps_bytes x.steps ++ rest) = same ∙ append_assoc start (steps_bytes x.steps) rest in
    let numbers : row_at (1 ∷ 1 ∷ []) bank due ≡ x.runs ∷ x.count ∷ [] = read-row bank due (steps_bytes x.steps ++ rest) (held f.runs (held f.count none)) g in
    let count : steps_in (length_of bank p) ≡ length x.steps = omega arith in
    let steps : tab (step_at bank) 9 (offset_of bank p + 2) (steps_in (length_of bank p)) ≡ x.steps =
    (λ i. tab (step_at bank) 9 (o i + 2) (count i))
    ∙ steps-read bank x.steps (due + 2) rest f.steps (behind bank due (due + 2) start (steps_bytes x.steps ++ rest) g (omega (arith, length_two 1 1 x.runs x.count))) in
    λ i. record {
      runs = (ap (field 1 bank) o ∙ ap (λ (v : List ℕ). get_or v 0 0) numbers) i;
      count = (ap (λ (at : ℕ). field 1 bank (at + 1)) o ∙ ap (λ (v : List ℕ). get_or v 1 0) numbers) i;
      steps = steps i;
    }

pub stand : (bank : List ℕ) (xs : List Pattern) (p due : ℕ) (rest : List ℕ) → length bank < 65536 → due ≤ length bank → All PatternFits xs
    → drop (41 + 4 * p) bank ≡ pairs_bytes due xs ++ rest → drop due bank ≡ bodies_bytes xs → Stand bank p due xs
unfolding pairs_bytes bodies_bytes row_at
stand bank [] p due rest small d f same g = let h : length bank - due ≡ 0 = sym (length-drop due bank) ∙ ap length g in omega arith
stand bank (x ∷ xs) p due rest small d f same g =
    let start = row (1 ∷ 1 ∷ []) (x.runs ∷ x.count ∷ []) in
    let body = start ++ steps_bytes x.steps in
    let pair = row (2 ∷ 2 ∷ []) (due ∷ size_of x ∷ []) in
    let tail = pairs_bytes (due + size_of x) xs in
    let size : length body ≡ size_of x = length-pattern x in
    let whole : length bank - due ≡ size_of x + length (bodies_bytes xs) = sym (length-drop due bank) ∙ ap length g ∙ length-body x (bodies_bytes xs) in
    let fits : due + size_of x ≤ length bank = omega arith in
    let h : drop (41 + 4 * p) bank ≡ pair ++ (tail ++ rest) = same ∙ append_assoc pair tail rest in
    let due_below : due < 65536 = omega arith in
    let size_below : size_of x < 65536 = omega arith in
    let numbers : row_at (2 ∷ 2 ∷ []) bank (41 + 4 * p) ≡ due ∷ size_of x ∷ [] = read-row bank (41 + 4 * p) (tail ++ rest) (held due_below (held size_below none)) h in
    let at2 : 43 + 4 * p ≡ 41 + 4 * p + 2 = omega arith in
    let o : offset_of bank p ≡ due = ap (λ (v : List ℕ). get_or v 0 0) numbers in
    let l : length_of bank p ≡ size_of x = ap (field 2 bank) at2 ∙ ap (λ (v : List ℕ). get_or v 1 0) numbers in
    let pairs = behind bank (41 + 4 * p) (41 + 4 * (p + 1)) pair (tail ++ rest) h (omega (arith, length_two 2 2 due (size_of x))) in
    let bodies = behind bank due (due + size_of x) body (bodies_bytes xs) g (omega (arith, size)) in (
      o,
      l,
      pattern-read bank p due x (bodies_bytes xs) f.0 o l g,
      fits,
      stand bank xs (p + 1) (due + size_of x) rest small fits f.1 pairs bodies,
    )

-- they are then the patterns of the bank
pub patterns-read : (bank : List ℕ) (xs : List Pattern) (p due : ℕ) → Stand bank p due xs → tab (pattern_at bank) 1 p (length xs) ≡ xs
unfolding tab
patterns-read bank [] p due h = refl
patterns-read bank (x ∷ xs) p due h = λ i. h.2 i ∷ patterns-read bank xs (p + 1) (due + size_of x) h.4 i
