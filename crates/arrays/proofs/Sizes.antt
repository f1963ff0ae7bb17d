-- How many bytes the parts of a bank take, and how one part is written behind the other.
-- Assumes nothing.
use mathlib.Core.Path.{◌≡◌, refl, sym, ap, ◌∙◌}
use mathlib.Core.List.{List, [], ◌∷◌, ◌++◌}
use Prim.Native.Nat.{ℕ, zero, suc, ◌+◌, ◌*◌, ◌≤◌, ◌<◌}
use native.Mathlib.Omega.{arith}
use lib.ListN.{length, get_or, take, drop, length-append, length-drop}
use lib.Seq.{sets, length-take-le}
use Rattle.field.specs.Tab.{tab}
use Rattle.field.specs.Row.{row, total}
use Rattle.field.proofs.Laws.{sets-append}
use Rattle.field.proofs.Rows.{length-row}
use Rattle.bank.specs.View.{Pattern}
use Rattle.arrays.specs.Read.{all_steps}
use Rattle.setting.specs.declared.Settings.{Settings}
use Rattle.bank.specs.declared.Step.{Step}
use Rattle.arrays.specs.declared.Patterns.{Patterns}
use Rattle.arrays.specs.Encode.{paired, setting_widths, setting_numbers, step_widths, step_numbers, steps_bytes, bodies_bytes, size_of, pairs_bytes, encode}
use Rattle.arrays.specs.Write.{taken_of}
use Rattle.arrays.proofs.Views.{rest, rest_more}
use Rattle.arrays.proofs.Taken.{drop-more, length_taken, count_at, steps_at, pattern_in, Fit, sum_to, sum_more, next-in}

-- ---- pairs of settings

pub length-paired : (m : ℕ) (xs ys : List ℕ) → length xs ≡ m → length ys ≡ m → length (paired xs ys) ≡ 2 * m
unfolding paired
length-paired m [] ys h same = omega arith
length-paired m (x ∷ xs) [] h same = absurd (omega arith)
length-paired zero (x ∷ xs) (y ∷ ys) h same = absurd (omega arith)
length-paired (suc m) (x ∷ xs) (y ∷ ys) h same = omega (arith, length-paired m xs ys (omega arith) (omega arith))

-- a list of four is its four entries
pub four : (xs : List ℕ) → length xs ≡ 4 → xs ≡ get_or xs 0 0 ∷ get_or xs 1 0 ∷ get_or xs 2 0 ∷ get_or xs 3 0 ∷ []
four [] same = absurd (omega arith)
four (a ∷ []) same = absurd (omega arith)
four (a ∷ other ∷ []) same = absurd (omega arith)
four (a ∷ other ∷ c ∷ []) same = absurd (omega arith)
four (a ∷ other ∷ c ∷ d ∷ []) same = refl
four (a ∷ other ∷ c ∷ d ∷ x ∷ xs) same = absurd (omega arith)

pub paired-four : (xs ys : List ℕ) → length xs ≡ 4 → length ys ≡ 4
    → paired xs ys
    ≡ get_or xs 0 0 ∷ get_or ys 0 0 ∷ get_or xs 1 0 ∷ get_or ys 1 0 ∷ get_or xs 2 0 ∷ get_or ys 2 0 ∷ get_or xs 3 0 ∷ get_or ys 3 0 ∷ []
unfolding paired
paired-four xs ys h same = λ i. paired (four xs h i) (four ys same i)

-- ---- settings

-- the arrays of settings have four places
pub record Fours (settings : Settings) : Type 0 where
  pub zones : length settings.zones ≡ 4
  pub waits : length settings.waits ≡ 4
  pub on : length settings.on ≡ 4
  pub off : length settings.off ≡ 4

pub length-numbers : (settings : Settings) → Fours settings → length (setting_numbers settings) ≡ 24
length-numbers settings f =
    let waiting = length-paired 4 settings.zones settings.waits f.zones f.waits in
    let signals = length-paired 4 settings.on settings.off f.on f.off in
    omega (arith, length-append (paired settings.zones settings.waits) (paired settings.on settings.off))

pub length-settings : (settings : Settings) → Fours settings → length (row setting_widths (setting_numbers settings)) ≡ 45
unfolding total
length-settings settings f = length-row setting_widths (setting_numbers settings) (sym (length-numbers settings f))

-- ---- steps, bodies and pairs

pub length-step : (step : Step) → length (row step_widths (step_numbers step)) ≡ 9
unfolding total
length-step step = length-row step_widths (step_numbers step) refl

pub length_two : (v width a other : ℕ) → length (row (v ∷ width ∷ []) (a ∷ other ∷ [])) ≡ v + width
unfolding total
length_two v width a other = length-row (v ∷ width ∷ []) (a ∷ other ∷ []) refl ∙ omega arith

pub length-steps : (steps : List Step) → length (steps_bytes steps) ≡ 9 * length steps
unfolding steps_bytes
length-steps [] = refl
length-steps (step ∷ steps) = length-append (row step_widths (step_numbers step)) (steps_bytes steps) ∙ omega (arith, length-step step, length-steps steps)

pub length-pattern : (x : Pattern) → length (row (1 ∷ 1 ∷ []) (x.runs ∷ x.count ∷ []) ++ steps_bytes x.steps) ≡ size_of x
length-pattern x =
    length-append (row (1 ∷ 1 ∷ []) (x.runs ∷ x.count ∷ [])) (steps_bytes x.steps)
    ∙ omega (arith, length_two 1 1 x.runs x.count, length-steps x.steps)

pub length-body : (x : Pattern) (rest : List ℕ) → length (row (1 ∷ 1 ∷ []) (x.runs ∷ x.count ∷ []) ++ steps_bytes x.steps ++ rest) ≡ size_of x + length rest
length-body x rest =
    length-append (row (1 ∷ 1 ∷ []) (x.runs ∷ x.count ∷ []) ++ steps_bytes x.steps) rest ∙ ap (λ (first : ℕ). first + length rest) (length-pattern x)

pub length-bodies : (xs : List Pattern) → length (bodies_bytes xs) ≡ 2 * length xs + 9 * length (all_steps xs)
unfolding bodies_bytes all_steps
length-bodies [] = refl
length-bodies (x ∷ xs) = length-body x (bodies_bytes xs) ∙ omega (arith, length-bodies xs, length-append x.steps (all_steps xs))

pub length_pairs : (xs : List Pattern) (due : ℕ) → length (pairs_bytes due xs) ≡ 4 * length xs
unfolding pairs_bytes
length_pairs [] due = refl
length_pairs (x ∷ xs) due =
    length-append (row (2 ∷ 2 ∷ []) (due ∷ size_of x ∷ [])) (pairs_bytes (due + size_of x) xs)
    ∙ omega (arith, length_two 2 2 due (size_of x), length_pairs xs (due + size_of x))

-- settings and pairs, and behind them the bodies
pub length_front : (settings : Settings) (xs : List Pattern) (due : ℕ) → Fours settings → length (row setting_widths (setting_numbers settings) ++ pairs_bytes due xs) ≡ 45 + 4 * length xs
length_front settings xs due f =
    length-append (row setting_widths (setting_numbers settings)) (pairs_bytes due xs) ∙ omega (arith, length-settings settings f, length_pairs xs due)

pub length-bank : (settings : Settings) (xs : List Pattern) → Fours settings → length (encode settings xs) ≡ 45 + 6 * length xs + 9 * length (all_steps xs)
unfolding encode
length-bank settings xs f =
    let due = 45 + 4 * length xs in
    length-append (row setting_widths (setting_numbers settings) ++ pairs_bytes due xs) (bodies_bytes xs)
    ∙ omega (arith, length_front settings xs due f, length-bodies xs)

-- ---- what is taken

pub length-written : (settings : Settings) (ps : Patterns) → Fours settings
    → length (encode settings (taken_of settings ps)) ≡ 45 + 6 * settings.patterns + 9 * length (all_steps (taken_of settings ps))
length-written settings ps f = omega (arith, length-bank settings (taken_of settings ps) f, length_taken settings ps)

pub length_part : (steps : List Step) (base count : ℕ) → base + count ≤ length steps → length (take count (drop base steps)) ≡ count
length_part steps base count h = length-take-le count (drop base steps) (simp length-drop (omega arith))

module _ (ps : Patterns) (n : ℕ) (fit : Fit n ps) (all : length ps.steps ≡ 99) where
  -- every pattern has as many steps as its count says
  pub full : (p : ℕ) → p < n → length (steps_at ps p) ≡ count_at ps p
  full p h = length_part ps.steps (sum_to ps.counts p) (count_at ps p) (omega (arith, next-in n ps fit p h))

  steps-from : (p m : ℕ) → p + m ≡ n → sum_to ps.counts p + length (all_steps (tab (pattern_in ps) 1 p m)) ≡ sum_to ps.counts n
  unfolding all_steps tab
  steps-from p zero same = let f : p ≡ n = omega arith in rw f (omega arith)
  steps-from p (suc m) same =
      let size = length-append (steps_at ps p) (all_steps (tab (pattern_in ps) 1 (p + 1) m)) in
      omega (arith, steps-from (p + 1) m (omega arith), size, full p (omega arith), sum_more ps.counts p)

  pub length-all : length (all_steps (tab (pattern_in ps) 1 0 n)) ≡ sum_to ps.counts n
  unfolding sum_to
  length-all = omega (arith, steps-from 0 n (omega arith))

-- ---- the loops that write: the rest, stored behind the first part

pub sets_then : (out xs rest : List ℕ) (at j : ℕ) {left : List ℕ} → left ≡ sets out at xs → at + length xs ≡ j → sets out at (xs ++ rest) ≡ sets left j rest
sets_then out xs rest at j same f = sym (sets-append xs rest out at) ∙ (λ i. sets (sym same i) (f i) rest)

pub steps-turn : (steps : List Step) (k : ℕ) (d : Step) → k < length steps → (out : List ℕ) (at j : ℕ) {left : List ℕ}
    → left ≡ sets out at (row step_widths (step_numbers (get_or steps k d))) → at + 9 ≡ j
    → sets out at (steps_bytes (drop k steps)) ≡ sets left j (steps_bytes (drop (k + 1) steps))
unfolding steps_bytes
steps-turn steps k d h out at j same f =
    let x = get_or steps k d in
    let next = steps_bytes (drop (k + 1) steps) in
    ap (λ (ss : List Step). sets out at (steps_bytes ss)) (drop-more steps k d h)
    ∙ sets_then out (row step_widths (step_numbers x)) next at j same (omega (arith, length-step x))

-- one pattern, whose steps are there
module _ (ps : Patterns) (n p : ℕ) (h : p < n) (l : sum_to ps.counts p + count_at ps p ≤ length ps.steps) where
  abbrev next : List Pattern
  next = rest (pattern_in ps) n (p + 1)

  size : size_of (pattern_in ps p) ≡ 2 + 9 * count_at ps p
  size = ap (λ (count : ℕ). 2 + 9 * count) (length_part ps.steps (sum_to ps.counts p) (count_at ps p) l)

  pub pairs-turn : (out : List ℕ) (due at j : ℕ) {left : List ℕ} → left ≡ sets out at (row (2 ∷ 2 ∷ []) (due ∷ (2 + 9 * count_at ps p) ∷ [])) → at + 4 ≡ j
      → sets out at (pairs_bytes due (rest (pattern_in ps) n p)) ≡ sets left j (pairs_bytes (due + (2 + 9 * count_at ps p)) (rest (pattern_in ps) n (p + 1)))
  unfolding pairs_bytes
  pairs-turn out due at j same f =
      let len = 2 + 9 * count_at ps p in
      ap (λ (xs : List Pattern). sets out at (pairs_bytes due xs)) (rest_more (pattern_in ps) n p h)
      ∙ (λ i. sets out at (row (2 ∷ 2 ∷ []) (due ∷ size i ∷ []) ++ pairs_bytes (due + size i) next))
      ∙ sets_then out (row (2 ∷ 2 ∷ []) (due ∷ len ∷ [])) (pairs_bytes (due + len) next) at j same (omega (arith, length_two 2 2 due len))

  pub bodies-size : length (bodies_bytes (rest (pattern_in ps) n p)) ≡ 2 + 9 * count_at ps p + length (bodies_bytes (rest (pattern_in ps) n (p + 1)))
  unfolding bodies_bytes
  bodies-size =
      ap (λ (xs : List Pattern). length (bodies_bytes xs)) (rest_more (pattern_in ps) n p h)
      ∙ length-body (pattern_in ps p) (bodies_bytes next) ∙ ap (λ (first : ℕ). first + length (bodies_bytes next)) size

  pub bodies-turn : (out : List ℕ) (at base : ℕ) {left : List ℕ} → base ≡ sum_to ps.counts p
      → left ≡ sets out at (row (1 ∷ 1 ∷ []) (get_or ps.runs p 0 ∷ count_at ps p ∷ []) ++ steps_bytes (take (count_at ps p) (drop base ps.steps)))
      → sets out at (bodies_bytes (rest (pattern_in ps) n p)) ≡ sets left (at + (2 + 9 * count_at ps p)) (bodies_bytes (rest (pattern_in ps) n (p + 1)))
  unfolding bodies_bytes
  bodies-turn out at base begins same =
      let head = row (1 ∷ 1 ∷ []) (get_or ps.runs p 0 ∷ count_at ps p ∷ []) in
      let long : length (head ++ steps_bytes (steps_at ps p)) ≡ 2 + 9 * count_at ps p = length-pattern (pattern_in ps p) ∙ size in
      let put = same ∙ ap (λ (from : ℕ). sets out at (head ++ steps_bytes (take (count_at ps p) (drop from ps.steps)))) begins in
      ap (λ (xs : List Pattern). sets out at (bodies_bytes xs)) (rest_more (pattern_in ps) n p h)
      ∙ sets_then out (head ++ steps_bytes (steps_at ps p)) (bodies_bytes next) at (at + (2 + 9 * count_at ps p)) put (omega (arith, long))

-- the whole bank of n patterns: settings, pairs, bodies
pub bank-parts : (settings : Settings) (xs : List Pattern) (n : ℕ) (out : List ℕ) → Fours settings → length xs ≡ n
    → sets out 0 (encode settings xs) ≡ sets (sets (sets out 0 (row setting_widths (setting_numbers settings))) 45 (pairs_bytes (45 + 4 * n) xs)) (45 + 4 * n) (bodies_bytes xs)
unfolding encode
bank-parts settings xs n out f same =
    let due = 45 + 4 * n in
    let head = row setting_widths (setting_numbers settings) in
    ap (λ (m : ℕ). sets out 0 (head ++ pairs_bytes (45 + 4 * m) xs ++ bodies_bytes xs)) same
    ∙ sets_then out (head ++ pairs_bytes due xs) (bodies_bytes xs) 0 due refl (omega (arith, length_front settings xs due f))
    ∙ ap (λ (x : List ℕ). sets x due (bodies_bytes xs)) (sets_then out head (pairs_bytes due xs) 0 45 refl (omega (arith, length-settings settings f)))
