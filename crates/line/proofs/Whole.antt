-- The one equation over all input: however an input is cut into parts, the calls print what the programs print for the whole, and leave its state.
-- Assumes nothing.
use Prim.Native.Nat.{ℕ, zero, suc, ◌+◌, ◌*◌, ◌≤◌}
use mathlib.Core.Bool.{Bool, true, false}
use mathlib.Core.List.{List, [], ◌∷◌, ◌++◌, append_assoc, append-nil, flatten, map}
use mathlib.Core.Path.{◌≡◌, refl, sym, ap, ◌∙◌}
use native.Mathlib.Nat.{zero-add}
use native.Mathlib.Omega.{arith}
use borrow.Author.Tests.{le-leb, ne_eqb}
use lib.Dec.{eqb}
use lib.IntN.{pos}
use lib.ListN.{length, take, drop, replicate, length-map}
use lib.Seq.{sets, sets-eq, take-append_seam}
use Rattle.std.proofs.lemmas.Bool.{cond_both}
use Rattle.field.specs.Row.{total}
use Rattle.std.specs.Prelude.{Ok, Err}
use Rattle.setting.specs.Found.{Checked, numbers_of as bank_numbers, unless}
use Rattle.bank.specs.Check.{found_in}
use Rattle.plain.specs.Record.{credit_widths, widths_of}
use Rattle.plain.specs.Setup.{Setup}
use Rattle.plain.specs.Event.{State}
use Rattle.decimal.specs.Text.{line_of}
use Rattle.key.proofs.Long.{long-lines}
use Rattle.line.specs.declared.Ran.{Ran}
use Rattle.line.specs.Text.{refusal, Answered, answered_to}
use Rattle.line.specs.Sheet.{last_line, lines_from, next_line, answers_to, made, all_of, sheet_text, credit_lines, credits_text}
use Rattle.line.specs.Part.{Sheet, ended, byte_of, part_of, end_of, no_text, printed, left_by, begun, After, after, found, run_of, finish_of, refusal_in, start_of, credits_of}
use Rattle.line.proofs.Laws.{both-ways, length-line, length-refusal, length-credits, part-append, length-ended, length-byte}

-- ---- what a call prints is the front of the buffer that it leaves

-- a text that was put at the front of a buffer
stands : (text out : List ℕ) → length text ≤ length out → take (length text) (sets out 0 text) ≡ text
stands text out h = ap (take (length text)) (sets-eq text out 0 (omega arith)) ∙ take-append_seam text (drop (0 + length text) out)

module _ (setup : Setup) where
  length_part : (sheet : Sheet) (cs : List ℕ) → length (part_of setup sheet cs).text ≤ length sheet.text + 168 * length cs
  unfolding part_of
  length_part sheet [] = omega arith
  length_part sheet (c ∷ cs) = omega (arith, length-byte setup sheet c, length_part (byte_of setup sheet c) cs)

  length-end : (sheet : Sheet) → length (end_of setup sheet).text ≤ length sheet.text + 168
  unfolding end_of ended
  length-end sheet =
      cond_both (eqb (length sheet.line) 0) sheet (ended setup sheet) (λ x. length x.text ≤ length sheet.text + 168) (λ h. omega arith) (λ h. length-ended setup sheet)

  -- for a part, and for the end
  pub run-prints : (sheet : Sheet) (cs out : List ℕ) → 168 * length cs ≤ length out
      → let left = run_of setup (no_text sheet) cs out in take left.end left.out ≡ (part_of setup (no_text sheet) cs).text
  unfolding run_of
  run-prints sheet cs out h =
      rw (le-leb (168 * length cs) (length out) h) (stands (part_of setup (no_text sheet) cs).text out (omega (arith, length_part (no_text sheet) cs)))

  pub finish-prints : (sheet : Sheet) (out : List ℕ) → 168 ≤ length out
      → let left = finish_of setup (no_text sheet) out in take left.end left.out ≡ (end_of setup (no_text sheet)).text
  unfolding finish_of
  finish-prints sheet out h =
      rw (le-leb 168 (length out) h) (stands (end_of setup (no_text sheet)).text out (omega (arith, length-end (no_text sheet))))

  -- for the beginning: the refusal's text of a refused bank, else nothing
  pub start-prints : (store out : List ℕ) → 168 ≤ length out
      → let left = start_of setup store out in take left.end left.out ≡ unless (found_in setup.bank) refusal []
  unfolding start_of refusal
  start-prints store out h = go (found_in setup.bank)
    where
      go : (found : Checked) → let text = unless found (refusal_in out) [] in take (length text) (sets out 0 text) ≡ unless found refusal []
      go (Ok done) = refl
      go (Err refused) =
          let numbers = bank_numbers (Err refused) in
          rw (le-leb 168 (length out) h) (stands (line_of (map pos numbers)) out
          (omega (arith, length-line (map pos numbers), length-map numbers pos, length-refusal refused)))

-- for the credits of 99 steps
pub credits-prints : (credits out : List ℕ) → length credits ≡ 99 → 4158 ≤ length out
    → let left = credits_of credits out in take left.end left.bytes ≡ credit_lines 1 credits
unfolding credits_of
credits-prints credits out l h =
    rw (le-leb 4158 (length out) h, zero-add (length (credit_lines 1 credits)))
    (stands (credit_lines 1 credits) out (omega (arith, length-credits 1 credits)))

-- ---- text that was there before changes nothing else

abbrev behind : List ℕ → Sheet → Sheet
behind text sheet = record { state = sheet.state; store = sheet.store; line = sheet.line; text = text ++ sheet.text }

-- a sheet is its text, and itself without it
with-text : (sheet : Sheet) → behind sheet.text (no_text sheet) ≡ sheet
with-text sheet = λ i. record { state = sheet.state; store = sheet.store; line = sheet.line; text = append-nil sheet.text i }

module _ (setup : Setup) where
  line-behind : (text : List ℕ) (sheet : Sheet) → ended setup (behind text sheet) ≡ behind text (ended setup sheet)
  unfolding ended
  line-behind text sheet =
      let answer = answered_to setup sheet.store sheet.state sheet.line in
      λ i. record { state = answer.state; store = answer.store; line = []; text = append_assoc text sheet.text answer.printed i }

  byte-behind : (text : List ℕ) (sheet : Sheet) (c : ℕ) → byte_of setup (behind text sheet) c ≡ behind text (byte_of setup sheet c)
  unfolding byte_of
  byte-behind text sheet c = both-ways (behind text) (eqb c 10) (line-behind text sheet) refl

  part-behind : (text : List ℕ) (sheet : Sheet) (cs : List ℕ) → part_of setup (behind text sheet) cs ≡ behind text (part_of setup sheet cs)
  unfolding part_of
  part-behind text sheet [] = refl
  part-behind text sheet (c ∷ cs) =
      ap (λ (x : Sheet). part_of setup x cs) (byte-behind text sheet c) ∙ part-behind text (byte_of setup sheet c) cs

  end-behind : (text : List ℕ) (sheet : Sheet) → end_of setup (behind text sheet) ≡ behind text (end_of setup sheet)
  unfolding end_of
  end-behind text sheet = both-ways (behind text) (eqb (length sheet.line) 0) refl (line-behind text sheet)

  -- so a part, and the end, of a sheet with text are those of the sheet without it, behind the text
  part-text : (sheet : Sheet) (cs : List ℕ) → part_of setup sheet cs ≡ behind sheet.text (part_of setup (no_text sheet) cs)
  part-text sheet cs = ap (λ (x : Sheet). part_of setup x cs) (sym (with-text sheet)) ∙ part-behind sheet.text (no_text sheet) cs

  end-text : (sheet : Sheet) → end_of setup sheet ≡ behind sheet.text (end_of setup (no_text sheet))
  end-text sheet = ap (end_of setup) (sym (with-text sheet)) ∙ end-behind sheet.text (no_text sheet)

  pub part-bare : (sheet : Sheet) (cs : List ℕ) → no_text (part_of setup (no_text sheet) cs) ≡ no_text (part_of setup sheet cs)
  part-bare sheet cs = sym (ap (λ (x : Sheet). no_text x) (part-text sheet cs))

  pub end-bare : (sheet : Sheet) → no_text (end_of setup (no_text sheet)) ≡ no_text (end_of setup sheet)
  end-bare sheet = sym (ap (λ (x : Sheet). no_text x) (end-text sheet))

  -- ---- the parts of an input are the whole

  parts_whole : (sheet : Sheet) (parts : List (List ℕ)) → let left = left_by setup (no_text sheet) parts in
      let text = sheet.text ++ printed setup (no_text sheet) parts in
      ◌≡◌ {A = Sheet} (record { state = left.state; store = left.store; line = left.line; text = text }) (end_of setup (part_of setup sheet (flatten parts)))
  unfolding left_by printed flatten part_of
  parts_whole sheet [] = sym (end-text sheet)
  parts_whole sheet (part ∷ parts) =
      let next = part_of setup (no_text sheet) part in
      let left = left_by setup (no_text next) parts in
      let texts = append_assoc sheet.text next.text (printed setup (no_text next) parts) in
      (λ i. record { state = left.state; store = left.store; line = left.line; text = sym texts i })
      ∙ parts_whole (behind sheet.text next) parts
      ∙ ap (λ (x : Sheet). end_of setup (part_of setup x (flatten parts))) (sym (part-text sheet part))
      ∙ ap (end_of setup) (sym (part-append setup sheet part (flatten parts)))

-- ---- a sheet within its input, and its lines

abbrev pub within : Answered → List ℕ → Sheet
within answer line = record { state = answer.state; store = answer.store; line = line; text = answer.printed }

-- the first bytes of a line that grows are those of the line
take_more : (many : ℕ) (line : List ℕ) (c : ℕ) → take many (take many line ++ (c ∷ [])) ≡ take many (line ++ (c ∷ []))
take_more zero line c = refl
take_more (suc many) [] c = refl
take_more (suc many) (x ∷ xs) c = ap (λ (line : List ℕ). x ∷ line) (take_more many xs c)

module _ (setup : Setup) where
  -- a line of which the first 16 bytes are kept is answered as a whole line
  next-line : (before : Answered) (line : List ℕ) → ended setup (within before (take 16 line)) ≡ within (next_line setup before line) []
  unfolding ended next_line answered_to
  next-line before line = rw (← long-lines line)

  last_line_lem : (before : Answered) (line : List ℕ) → end_of setup (within before (take 16 line)) ≡ within (answers_to setup before (last_line line)) []
  unfolding end_of answers_to
  last_line_lem before [] = refl
  last_line_lem before (c ∷ cs) = rw (ne_eqb (length (take 16 (c ∷ cs))) 0 (λ h. omega arith)) (next-line before (c ∷ cs))

  abbrev All : List ℕ → Answered → List ℕ → Type 0
  All cs before line = end_of setup (part_of setup (within before (take 16 line)) cs) ≡ within (answers_to setup before (lines_from line cs)) []

  all_lines : (before : Answered) (line cs : List ℕ) → All cs before line
  unfolding part_of byte_of lines_from answers_to
  all_lines before line [] = last_line_lem before line
  all_lines before line (c ∷ cs) = go (λ before line. all_lines before line cs) (eqb c 10) refl
    where
      go : ((before : Answered) (line : List ℕ) → All cs before line) → (t : Bool) → eqb c 10 ≡ t → All (c ∷ cs) before line
      go rest true h = rw h (ap (λ (x : Sheet). end_of setup (part_of setup x cs)) (next-line before line) ∙ rest (next_line setup before line) [])
      go rest false h =
          rw h (ap (λ (kept : List ℕ). end_of setup (part_of setup (within before kept) cs)) (take_more 16 line c) ∙ rest before (line ++ (c ∷ [])))

  -- ---- the programs, for every bank and every cutting of an input into parts

  -- the beginning, over a record of zeros, leaves a made controller
  pub start-leaves : (out : List ℕ) (ran : Ran) {store out' : List ℕ} → after ran store out' ≡ start_of setup (replicate 423 0) out
      → found ran.between store ≡ begun setup
  unfolding start_of begun made credit_widths widths_of total
  start-leaves out ran h = ap (λ (left : After). record { state = left.state; store = left.store; line = left.line; text = [] }) h

  -- an input that comes in one part
  pub all-input : (input : List ℕ) → end_of setup (part_of setup (begun setup) input) ≡ within (all_of setup input) []
  unfolding begun made all_of
  all-input input = all_lines (made setup) [] input

module _ (setup : Setup) (parts : List (List ℕ)) where
  whole : let left = left_by setup (begun setup) parts in
      let text = printed setup (begun setup) parts in
      ◌≡◌ {A = Sheet} (record { state = left.state; store = left.store; line = left.line; text = text }) (within (all_of setup (flatten parts)) [])
  unfolding begun
  whole = parts_whole setup (begun setup) parts ∙ all-input setup (flatten parts)

  pub whole-text : printed setup (begun setup) parts ≡ (all_of setup (flatten parts)).printed
  whole-text = ap (λ (x : Sheet). x.text) whole

  pub whole-state : (left_by setup (begun setup) parts).state ≡ (all_of setup (flatten parts)).state
  whole-state = ap (λ (x : Sheet). x.state) whole

  pub whole-record : (left_by setup (begun setup) parts).store ≡ (all_of setup (flatten parts)).store
  whole-record = ap (λ (x : Sheet). x.store) whole

  -- `sheet`: the refusal's text of a refused bank, and of an accepted one what the calls print
  pub sheet-text : sheet_text setup (flatten parts) ≡ unless (found_in setup.bank) refusal (printed setup (begun setup) parts)
  unfolding sheet_text
  sheet-text = ap (λ (text : List ℕ). unless (found_in setup.bank) refusal text) (sym whole-text)

  -- `credits`: the refusal's text of a refused bank, and of an accepted one the credits of the state that is left
  pub credits-text : credits_text setup (flatten parts)
      ≡ unless (found_in setup.bank) refusal (credit_lines 1 (left_by setup (begun setup) parts).state.credits)
  unfolding credits_text
  credits-text = ap (λ (state : State). unless (found_in setup.bank) refusal (credit_lines 1 state.credits)) (sym whole-state)
