-- The parts of an accepted bank, written again, are the bytes that they were read from.
-- Assumes nothing.
use mathlib.Core.Path.{◌≡◌, refl, sym, ap, ◌∙◌}
use mathlib.Core.Bool.{true}
use mathlib.Core.List.{List, [], ◌∷◌, ◌++◌}
use Prim.Native.Nat.{ℕ, zero, suc, ◌+◌, ◌*◌, ◌≤◌}
use native.Mathlib.Omega.{arith}
use borrow.Author.Tests.{eqb-true, leb-true}
use lib.ListN.{length, take, drop, take-append-drop, drop_of_length-le}
use lib.Seq.{take-add, drop-drop}
use mir.Syntax.{w16}
use Rattle.field.specs.Field.{field, signed_field}
use Rattle.field.specs.Row.{row, row_at, total}
use Rattle.field.proofs.Laws.{Bytes, signed-bits}
use Rattle.field.proofs.Rows.{row_read}
use Rattle.setting.specs.Setting.{settings_at}
use Rattle.bank.specs.View.{step_at, pattern_at, patterns_of, offset_of, length_of, steps_in}
use Rattle.field.specs.Tab.{tab}
use Rattle.bank.specs.Check.{pair_right, pairs_from, pairs_found, found_in}
use Rattle.bank.specs.declared.Step.{Step}
use Rattle.setting.proofs.Laws.{both_left, both_right}
use Rattle.field.proofs.Tab.{length-tab}
use Rattle.bank.proofs.Facts.{not-pair, test-holds, parts}
use Rattle.arrays.specs.Encode.{paired, setting_widths, setting_numbers, step_widths, step_numbers, steps_bytes, bodies_bytes, pairs_bytes, encode}
use Rattle.arrays.proofs.Back.{step-at}
use Rattle.setting.specs.Found.{Accepted}

-- two parts side by side are one part
joined : (bank : List ℕ) (i j m more : ℕ) → i + m ≡ j → take m (drop i bank) ++ take more (drop j bank) ≡ take (m + more) (drop i bank)
joined bank i j m more same =
    ap (λ (at : ℕ). take m (drop i bank) ++ take more (drop at bank)) (sym same)
    ∙ sym (take-add m more (drop i bank) ∙ ap (λ (l : List ℕ). take m (drop i bank) ++ take more l) (drop-drop m i bank))

-- what a right pair says
pair-says : (offset len due cap size : ℕ) → pair_right offset len due cap size ≡ true → (offset ≡ due) × (len ≡ 2 + 9 * steps_in len) × (due + len ≤ size)
unfolding pair_right
pair-says offset len due cap size same =
    let t = both_right _ _ same in
    (eqb-true _ _ (both_left _ _ same), eqb-true _ _ (both_left _ _ t), leb-true _ _ (both_right _ _ (both_right _ _ t)))

module _ (bank : List ℕ) (small : Bytes bank) where
  settings-again : 45 ≤ length bank → row setting_widths (setting_numbers (settings_at bank)) ≡ take 45 bank
  unfolding settings_at row_at paired tab total
  settings-again h =
      let numbers : setting_numbers (settings_at bank) ≡ row_at setting_widths bank 0 =
      λ i. field 1 bank 0 ∷ field 1 bank 1 ∷ field 1 bank 2 ∷ signed-bits w16 bank 3 small i ∷ signed-bits w16 bank 5 small i ∷ signed-bits w16 bank 7 small i ∷ drop 6 (row_at setting_widths bank 0) in
      ap (row setting_widths) numbers ∙ row_read setting_widths bank 0 small h

  step-again : (at : ℕ) → at + 9 ≤ length bank → row step_widths (step_numbers (step_at bank at)) ≡ take 9 (drop at bank)
  unfolding row_at signed_field total
  step-again at h =
      ap (λ (x : Step). row step_widths (step_numbers x)) (step-at bank at)
      ∙ ap (λ (v : ℕ). row step_widths (v ∷ drop 1 (row_at step_widths bank at))) (signed-bits w16 bank at small)
      ∙ row_read step_widths bank at small h

  steps-again : (at m : ℕ) → at + 9 * m ≤ length bank → steps_bytes (tab (step_at bank) 9 at m) ≡ take (9 * m) (drop at bank)
  unfolding steps_bytes tab
  steps-again at zero h = refl
  steps-again at (suc m) h =
      let same : 9 + 9 * m ≡ 9 * suc m = omega arith in
      (λ i. step-again at (omega arith) i ++ steps-again (at + 9) m (omega arith) i)
      ∙ joined bank at (at + 9) 9 (9 * m) refl ∙ ap (λ (size : ℕ). take size (drop at bank)) same

  -- two numbers side by side
  two-again : (width v i : ℕ) → i + (width + v) ≤ length bank → row (width ∷ v ∷ []) (field width bank i ∷ field v bank (i + width) ∷ []) ≡ take (width + v) (drop i bank)
  unfolding row_at total
  two-again width v i h =
      let same : width + (v + 0) ≡ width + v = omega arith in
      row_read (width ∷ v ∷ []) bank i small (omega arith) ∙ ap (λ (size : ℕ). take size (drop i bank)) same

  -- the body of a right pair, and what follows it
  body-again : (p due : ℕ) (rest : List ℕ) → offset_of bank p ≡ due → length_of bank p ≡ 2 + 9 * steps_in (length_of bank p) → due + length_of bank p ≤ length bank
      → rest ≡ drop (due + length_of bank p) bank
      → row (1 ∷ 1 ∷ []) ((pattern_at bank p).runs ∷ (pattern_at bank p).count ∷ []) ++ steps_bytes (pattern_at bank p).steps ++ rest ≡ drop due bank
  unfolding pattern_at
  body-again p due rest o l h follows =
      let s = steps_in (length_of bank p) in
      let at = offset_of bank p in
      let same : 2 + 9 * s ≡ length_of bank p = sym l in
      (λ i. two-again 1 1 at (omega arith) i ++ steps-again (at + 2) s (omega arith) i ++ follows i)
      ∙ ap (λ (x : List ℕ). x ++ drop (due + length_of bank p) bank) (joined bank at (at + 2) 2 (9 * s) refl)
      ∙ (λ i. take (same i) (drop (o i) bank) ++ drop (due + length_of bank p) bank)
      ∙ ap (λ (x : List ℕ). take (length_of bank p) (drop due bank) ++ x) (sym (drop-drop (length_of bank p) due bank))
      ∙ take-append-drop (length_of bank p) (drop due bank)

  -- the rest of the pairs is right: the bodies from where the next is due, written again, are the rest of the bank
  bodies-again : (n m p due : ℕ) → pairs_from bank n m p due ≡ Accepted → bodies_bytes (tab (pattern_at bank) 1 p m) ≡ drop due bank
  unfolding pairs_from bodies_bytes tab
  bodies-again n zero p due same =
      let l : due ≡ length bank = eqb-true _ _ (test-holds _ _ _ (not-pair n) same).0 in
      sym (drop_of_length-le bank {i = due} (omega arith))
  bodies-again n (suc m) p due same =
      let t = test-holds _ _ _ (not-pair p) same in
      let h = pair-says _ _ due _ _ t.0 in
      body-again p due _ h.0 h.1 h.2 (bodies-again n m (p + 1) (due + length_of bank p) t.1)

  -- and so are the pairs
  pairs-again : (n m p due : ℕ) → 41 + 4 * p + 4 * m ≤ length bank → pairs_from bank n m p due ≡ Accepted
      → pairs_bytes due (tab (pattern_at bank) 1 p m) ≡ take (4 * m) (drop (41 + 4 * p) bank)
  unfolding pairs_from pairs_bytes tab pattern_at
  pairs-again n zero p due fits same = refl
  pairs-again n (suc m) p due fits same =
      let t = test-holds _ _ _ (not-pair p) same in
      let h = pair-says _ _ due _ _ t.0 in
      let steps = tab (step_at bank) 9 (offset_of bank p + 2) (steps_in (length_of bank p)) in
      let at2 : 43 + 4 * p ≡ 41 + 4 * p + 2 = omega arith in
      let e4 : 4 + 4 * m ≡ 4 * suc m = omega arith in
      let size : 2 + 9 * length steps ≡ length_of bank p = ap (λ (size : ℕ). 2 + 9 * size) (length-tab (step_at bank) 9 (offset_of bank p + 2) (steps_in (length_of bank p))) ∙ sym h.1 in
      let rest = pairs-again n m (p + 1) (due + length_of bank p) (omega arith) t.1 in
      (λ i. row (2 ∷ 2 ∷ []) (sym h.0 i ∷ (size ∙ ap (field 2 bank) at2) i ∷ []) ++ pairs_bytes (due + size i) (tab (pattern_at bank) 1 (p + 1) m))
      ∙ (λ i. two-again 2 2 (41 + 4 * p) (omega arith) i ++ rest i)
      ∙ joined bank (41 + 4 * p) (41 + 4 * (p + 1)) 4 (4 * m) (omega arith)
      ∙ ap (λ (size : ℕ). take size (drop (41 + 4 * p) bank)) e4

  -- all of it: settings, pairs and bodies
  pub written-again : found_in bank ≡ Accepted → encode (settings_at bank) (patterns_of bank) ≡ bank
  unfolding encode patterns_of pairs_found
  written-again ok =
      let n = field 1 bank 0 in
      let t = test-holds _ _ _ (not-pair 0) (parts bank ok).pairs in
      let h : 45 + 4 * n ≤ length bank = leb-true _ _ t.0 in
      let count = length-tab (pattern_at bank) 1 1 n in
      (λ i. row setting_widths (setting_numbers (settings_at bank)) ++ pairs_bytes (45 + 4 * count i) (tab (pattern_at bank) 1 1 n) ++ bodies_bytes (tab (pattern_at bank) 1 1 n))
      ∙ (λ i. settings-again (parts bank ok).long i ++ pairs-again n n 1 (45 + 4 * n) (omega arith) t.1 i ++ bodies-again n n 1 (45 + 4 * n) t.1 i)
      ∙ ap (λ (l : List ℕ). l ++ drop (45 + 4 * n) bank) (joined bank 0 45 45 (4 * n) refl)
      ∙ take-append-drop (45 + 4 * n) bank
