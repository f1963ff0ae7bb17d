-- The laws of lines and their text, and of a sheet within its input.
-- Assumes nothing.
use Prim.Native.Nat.{ℕ, ◌+◌, ◌*◌, ◌^◌, ◌≤◌, ◌<◌, min}
use mathlib.Core.Bool.{Bool, true, false, cond}
use mathlib.Core.List.{List, [], ◌∷◌, ◌++◌, map}
use mathlib.Core.Path.{◌≡◌, refl, sym, ap, ◌∙◌}
use native.Mathlib.Nat.{zero-add}
use native.Mathlib.Numerals.{add-one}
use native.Mathlib.Omega.{arith}
use lib.Dec.{eqb}
use lib.IntN.{ℤ, pos}
use lib.ListN.{length, take, get_or, set, length-append}
use lib.Seq.{sets, take_all, take_at, take-suc, take-suc-set, length-take-le}
use mir.Facts.{to_z_pos}
use mir.Syntax.{w64}
use mir.Val.{to_z}
use Rattle.std.proofs.lemmas.Bool.{cond_both}
use Rattle.std.proofs.lemmas.List.{take_min}
use Rattle.field.proofs.Laws.{sets-append}
use Rattle.setting.specs.Found.{Checked, is_accepted, numbers_of as bank_numbers, unless}
use Rattle.setting.proofs.Laws.{numbers-tell}
use Rattle.setting.specs.declared.BankRefusal.{BankRefusal}
use Rattle.setting.specs.declared.BankRefusal.TheVariants.{Short, Setting, Pair, Body}
use Rattle.setting.specs.declared.Settings.{Settings}
use Rattle.bank.specs.Check.{found_in}
use Rattle.position.specs.declared.Position.{Position}
use Rattle.position.specs.declared.Here.{Here}
use Rattle.position.specs.Program.{said_at}
use Rattle.plain.specs.declared.Run.{Run}
use Rattle.plain.specs.declared.Event.{Event}
use Rattle.plain.specs.Setup.{Setup, settings_in, here_in}
use Rattle.plain.specs.Event.{State, After as Made, event_outcome, make_outcome}
use Rattle.decimal.specs.Text.{text, behind, line_of, Put, put_text, put_of}
use Rattle.decimal.proofs.Laws.{length-text, put-fits}
use Rattle.answer.specs.Numbers.{number_and_values}
use Rattle.key.specs.Line.{asked_by}
use Rattle.line.specs.declared.Ran.{Ran}
use Rattle.line.specs.Sheet.{credit_lines}
use Rattle.line.specs.Part.{Sheet, ended, byte_of, part_of, After, after, found, leaving, refusal_in, start_of, Begun, took_line, took_byte}
use Rattle.line.specs.Text.{eight, Answered, said, showing, asked_for, answered_to}
use Rattle.std.specs.Prelude.{Option, None, Some, Err}

-- what is made of either of two things, by a test, is that of the one that the test takes
pub both-ways : {X Y : Type 0} (f : X → Y) (t : Bool) {a b : X} {x y : Y} → x ≡ f a → y ≡ f b → cond t x y ≡ f (cond t a b)
both-ways f true g h = g
both-ways f false g h = h

-- ---- text

-- a number has at most 20 bytes, and one behind it
pub length-line : (xs : List ℤ) → length (line_of xs) ≤ 21 * length xs
unfolding line_of
length-line [] = omega arith
length-line (x ∷ xs) = omega (arith, length-append (text x) (behind xs ∷ line_of xs), length-text x, length-line xs)

-- a line that has room stands where it is due
pub line-put : {left : Put} (out : List ℕ) (at : ℕ) {xs : List ℤ} (ys : List ℤ) → at + 21 * length ys ≤ length out → xs ≡ ys
    → left ≡ put_of out at xs → left ≡ put_text out at (line_of ys)
line-put out at ys h g f = f ∙ ap (put_of out at) g ∙ put-fits out at ys h

-- a number that is cast to one of 64 bits
pub small : (number : ℕ) → number < 2 ^ 63 → to_z w64 number ≡ pos number
small number h = to_z_pos w64 h

-- what a bank says at a position, of its settings and its place
pub here-is : (setup : Setup) (position : Position) {settings : Settings} {here : Here} → settings ≡ settings_in setup
    → here ≡ said_at setup.bank settings position → here ≡ here_in setup position
unfolding here_in
here-is setup position h g = g ∙ ap (λ (x : Settings). said_at setup.bank x position) h

-- the first of three numbers, as many as a list of at most three has, are the list's
pub first-ones : (xs : List ℕ) → length xs ≤ 3 → take (length xs) (pos (get_or xs 0 0) ∷ pos (get_or xs 1 0) ∷ pos (get_or xs 2 0) ∷ []) ≡ map pos xs
first-ones [] h = refl
first-ones (x ∷ []) h = refl
first-ones (x ∷ y ∷ []) h = refl
first-ones (x ∷ y ∷ z ∷ []) h = refl
first-ones (x ∷ y ∷ z ∷ v ∷ xs) h = absurd (omega arith)

-- a refusal has at most three numbers
pub length-refusal : (refused : BankRefusal) → length (bank_numbers (Err refused)) ≤ 3
unfolding bank_numbers
length-refusal Short = omega arith
length-refusal (Setting offset) = omega arith
length-refusal (Pair pair) = omega arith
length-refusal (Body p k) = omega arith

-- as many as its struct counts
pub few : (refused : BankRefusal) → (number_and_values (bank_numbers (Err refused))).count ≤ 3
unfolding number_and_values
few refused = length-refusal refused

-- a line's answer is eight numbers
pub length-answered : (setup : Setup) (store : List ℕ) (state : State) (line : List ℕ) → length (answered_to setup store state line).printed ≤ 168
unfolding answered_to asked_for showing eight
length-answered setup store state line = go (asked_by line)
  where
    fit : (number : ℤ) (run : Run) → length (line_of (eight setup number run)) ≤ 168
    fit number run = length-line (eight setup number run)

    go : (asked : Option Event) → length (asked_for setup store state asked).printed ≤ 168
    go None = fit (pos 99) state.run
    go (Some event) = let left = event_outcome setup store state event in fit (get_or left.numbers 0 (pos 0)) left.state.run

-- ---- credits

-- a line of credit is two numbers
length-credit : (k credit : ℕ) → length (cond (eqb credit 0) [] (line_of (pos k ∷ pos credit ∷ []))) ≤ 42
length-credit k credit =
    cond_both (eqb credit 0) [] (line_of (pos k ∷ pos credit ∷ [])) (λ text. length text ≤ 42) (λ h. omega arith) (λ h. length-line (pos k ∷ pos credit ∷ []))

pub length-credits : (k : ℕ) (credits : List ℕ) → length (credit_lines k credits) ≤ 42 * length credits
unfolding credit_lines
length-credits k [] = omega arith
length-credits k (credit ∷ credits) =
    let l = length-append (cond (eqb credit 0) [] (line_of (pos k ∷ pos credit ∷ []))) (credit_lines (k + 1) credits) in
    omega (arith, length-credit k credit, length-credits (k + 1) credits)

-- ---- a line within a call

-- a line that asks for an event: what the event leaves, with the number of its answer
pub event-answered : (setup : Setup) (store : List ℕ) (state : State) (event : Event) (left : Made) {number : ℤ}
    → left ≡ event_outcome setup store state event → number ≡ get_or left.numbers 0 (pos 0)
    → said setup left.state left.store number ≡ asked_for setup store state (Some event)
unfolding asked_for showing
event-answered setup store state event left h g = ap (said setup left.state left.store) g ∙ ap (showing setup) h

-- what is kept of a line that has room for 16 bytes
pub kept_line : (kept : ℕ) (line : List ℕ) {m : ℕ} → length line ≡ 16 → m ≡ min kept 16 → take m line ≡ take kept line
kept_line kept line l g = ap (λ (x : ℕ). take x line) (g ∙ ap (min kept) (sym l)) ∙ take_min kept line

-- a line that was answered: its text stands where it is due, and no line has begun
pub line_taken : (setup : Setup) (sheet : Sheet) (out : List ℕ) (at : ℕ) (answer : Answered) {asked : Option Event} {left : Put}
    → answer ≡ asked_for setup sheet.store sheet.state asked → asked ≡ asked_by sheet.line → left ≡ put_text out at answer.printed
    → ◌≡◌ {A = After} (record { state = answer.state; store = answer.store; line = []; out = left.bytes; end = left.end }) (took_line setup sheet out at)
unfolding took_line answered_to
line_taken setup sheet out at answer h g f =
    ap (λ (x : Put). record { state = answer.state; store = answer.store; line = []; out = x.bytes; end = x.end }) f
    ∙ ap (λ (x : Answered). record { state = x.state; store = x.store; line = []; out = sets out at x.printed; end = at + length x.printed })
    (h ∙ ap (asked_for setup sheet.store sheet.state) g)

-- a byte more of a line that has room for 16, and of one that has none
pub kept_more : (kept : ℕ) (line : List ℕ) (c : ℕ) → length line ≡ 16 → kept < 16 → take (kept + 1) (set line kept c) ≡ take 16 (take kept line ++ (c ∷ []))
kept_more kept line c l h =
    let g = length-append (take kept line) (c ∷ []) in
    rw (add-one, take-suc-set line kept c (omega arith))
    (sym (take_all 16 (take kept line ++ (c ∷ [])) (omega (arith, length-take-le kept line (omega arith)))))

pub kept_full : (kept : ℕ) (line : List ℕ) (c : ℕ) → length line ≡ 16 → 16 ≤ kept → take kept line ≡ take 16 (take kept line ++ (c ∷ []))
kept_full kept line c l h = rw (take_all kept line (omega arith)) (sym (take_at line (c ∷ []) 16 l))

-- ---- a call and the sheet that it stands for

module _ (setup : Setup) (ran : Ran) (store out : List ℕ) (sheet : Sheet) (out₀ : List ℕ) (same : after ran store out ≡ leaving sheet out₀) where
  -- a line, and a byte, of the one are those of the other
  pub line-leaves : {left : After} → left ≡ took_line setup (found ran.between store) out ran.end → left ≡ leaving (ended setup sheet) out₀
  unfolding took_line ended
  line-leaves h =
      let answer = answered_to setup sheet.store sheet.state sheet.line in
      let before = sheet.text in
      let joined = ap (λ (x : ℕ). sets (sets out₀ 0 before) x answer.printed) (sym (zero-add (length before))) ∙ sets-append before answer.printed out₀ 0 in
      h
      ∙ ap (λ (x : After). let y = answered_to setup x.store x.state x.line in
      record { state = y.state; store = y.store; line = []; out = sets x.out x.end y.printed; end = x.end + length y.printed }) same
      ∙ (λ i. record { state = answer.state; store = answer.store; line = []; out = joined i; end = sym (length-append before answer.printed) i })

  pub byte-leaves : (c : ℕ) {left : After} → left ≡ took_byte setup (found ran.between store) out ran.end c → left ≡ leaving (byte_of setup sheet c) out₀
  unfolding took_byte byte_of
  byte-leaves c f =
      let kept : After → After = λ x. record { state = x.state; store = x.store; line = take 16 (x.line ++ (c ∷ [])); out = x.out; end = x.end } in
      f ∙ both-ways (λ (x : Sheet). leaving x out₀) (eqb c 10) (line-leaves refl) (ap kept same)

-- ---- a part, byte by byte

module _ (setup : Setup) where
  pub part-append : (sheet : Sheet) (cs ds : List ℕ) → part_of setup sheet (cs ++ ds) ≡ part_of setup (part_of setup sheet cs) ds
  unfolding part_of
  part-append sheet [] ds = refl
  part-append sheet (c ∷ cs) ds = part-append (byte_of setup sheet c) cs ds

  pub part-more : (sheet : Sheet) (cs : List ℕ) (i : ℕ) → i < length cs
      → part_of setup sheet (take (i + 1) cs) ≡ byte_of setup (part_of setup sheet (take i cs)) (get_or cs i 0)
  unfolding part_of
  part-more sheet cs i h = rw (add-one, take-suc cs i 0 h) (part-append sheet (take i cs) (get_or cs i 0 ∷ []))

  -- the end of a line, and so a byte, adds at most 168 bytes
  pub length-ended : (sheet : Sheet) → length (ended setup sheet).text ≤ length sheet.text + 168
  unfolding ended
  length-ended sheet =
      let l = length-answered setup sheet.store sheet.state sheet.line in
      omega (arith, length-append sheet.text (answered_to setup sheet.store sheet.state sheet.line).printed)

  pub length-byte : (sheet : Sheet) (c : ℕ) → length (byte_of setup sheet c).text ≤ length sheet.text + 168
  unfolding byte_of
  length-byte sheet c = cond_both (eqb c 10) (ended setup sheet) _ (λ x. length x.text ≤ length sheet.text + 168) (λ h. length-ended sheet) (λ h. omega arith)

-- ---- the beginning

-- a controller that was made, with a text at the front of the buffer
begins : (setup : Setup) (store out : List ℕ) (made : Made) (text : List ℕ) {left : Put} → made ≡ make_outcome setup store
    → text ≡ unless (found_in setup.bank) (refusal_in out) [] → left ≡ put_text out 0 text
    → ◌≡◌ {A = After} (record { state = made.state; store = made.store; line = []; out = left.bytes; end = left.end }) (start_of setup store out)
unfolding start_of
begins setup store out made text {left} h g f =
    let end = ap (λ (x : Put). x.end) f ∙ zero-add (length text) in
    (λ i. record { state = made.state; store = made.store; line = []; out = (f i).bytes; end = end i })
    ∙ (λ i. record { state = (h i).state; store = (h i).store; line = []; out = sets out 0 (g i); end = length (g i) })

-- what the check of the bank finds decides the text, which stands at the front of the buffer, and whether the bank is accepted
pub begun : (setup : Setup) (store out : List ℕ) (made : Made) (checked : Checked) {result : Checked} {left : Put} → made ≡ make_outcome setup store
    → bank_numbers result ≡ bank_numbers (found_in setup.bank) → result ≡ checked → left ≡ put_text out 0 (unless checked (refusal_in out) [])
    → Begun setup store out (record { state = made.state; store = made.store; line = []; out = left.bytes; end = left.end }) (is_accepted checked)
begun setup store out made checked {result} h tells is f =
    let same : found_in setup.bank ≡ checked = sym (numbers-tell result (found_in setup.bank) tells) ∙ is in
    record {
      is = begins setup store out made (unless checked (refusal_in out) []) h (ap (λ (x : Checked). unless x (refusal_in out) []) (sym same)) f;
      found = ap is_accepted (sym same);
    }
