-- Laws that several proofs of the crate cite.
-- Assumes nothing.
use mathlib.Core.Path.{◌≡◌, refl, sym, ap, ◌∙◌}
use mathlib.Core.Bool.{Bool, true, false, cond, not, true≢false, false≢true}
use lib.IntN.{ℤ}
use mir.Syntax.{w16}
use mir.Val.{SFits, to_z, of_z}
use lib.Signed.{mag}
use Prim.Native.Nat.{ℕ, suc, ◌+◌, ◌<◌, ◌≤◌}
use lib.Dec.{leb, eqb}
use native.Mathlib.Numerals.{add-one}
use lib.ListN.{length, get_or, drop, drop_of_length-le}
use lib.Seq.{drop-cons}
use mir.Facts.{to_z-of_z}
use Rattle.limits.specs.Range.{between, within}
pub use Rattle.limits.proofs.Laws.{on, off, both-and, both_left, both_right}
use Rattle.setting.specs.Found.{is_accepted, unless, test, then, numbers_of}
use Rattle.setting.specs.Setting.{first_of, head_found, halves_found, settings_found}
use Rattle.setting.specs.declared.Settings.{Settings}
use Rattle.setting.specs.declared.BankRefusal.{BankRefusal}
use Rattle.setting.specs.declared.BankRefusal.TheVariants.{Short, Setting, Pair, Body}
use mathlib.Core.Logic.{◌⊎◌, inl, inr}
use mathlib.Core.List.{List, [], ◌∷◌}
use native.Mathlib.Omega.{arith}
use borrow.Author.Tests.{not-true, not-false, leb-true, le-leb}
use Rattle.std.specs.Prelude.{Result, Ok, Err}
use Rattle.std.specs.Result.{IsErrAnd}
use Rattle.std.proofs.lemmas.Result.{err_from_is_err_and}
use Rattle.setting.specs.Found.{Checked}
use Rattle.setting.specs.Found.{Accepted}

-- `if !f(..)`: what the call ensures of its result, and what the test says of it
pub refused : {result t : Bool} → result ≡ t → not result ≡ true → t ≡ false
refused {result} same h = sym same ∙ not-true result h

pub passed : {result t : Bool} → result ≡ t → not result ≡ false → t ≡ true
passed {result} same h = sym same ∙ not-false result h

-- a signed local is its bits, and what a call is handed is read from them
pub bits : {z : ℤ} → mag z < 32768 → to_z w16 (of_z w16 z) ≡ z
bits l = to_z-of_z {w = w16} (record { sfits = l })

pub within-bits : {low x high : ℤ} → SFits w16 low → SFits w16 x → SFits w16 high
    → within (to_z w16 (of_z w16 low)) (to_z w16 (of_z w16 x)) (to_z w16 (of_z w16 high)) ≡ within low x high
within-bits {low} {x} {high} l m h = λ i. within (to_z-of_z l i) (to_z-of_z m i) (to_z-of_z h i)

-- a chain of tests, one test at a time: it holds and the chain goes on, or it ends the chain
pub right : {a : Bool} (refusal : Checked) {rest : Checked} → a ≡ true → test a refusal rest ≡ rest
unfolding test
right refusal same = rw same

pub wrong : {a : Bool} {refusal : Checked} (rest : Checked) → a ≡ false → test a refusal rest ≡ refusal
unfolding test
wrong rest same = rw same

-- what is not accepted is a refusal
pub is-accepted : (found : Checked) → is_accepted found ≡ true → found ≡ Accepted
is-accepted (Ok done) same = refl
is-accepted (Err refusal) same = absurd (false≢true same)

pub not-accepted : (found : Checked) → is_accepted found ≡ false → found ≡ Accepted → ⊥
not-accepted found same h = true≢false (sym (ap is_accepted h) ∙ same)

pub unless-accepted : {A : Type 0} {found : Checked} (wrong : BankRefusal → A) (rest : A) → found ≡ Accepted → unless found wrong rest ≡ rest
unless-accepted wrong rest same = ap (λ (x : Checked). unless x wrong rest) same

pub unless-refused : {A : Type 0} {found : Checked} {refusal : BankRefusal} (wrong : BankRefusal → A) (rest : A) → found ≡ Err refusal
    → unless found wrong rest ≡ wrong refusal
unless-refused wrong rest same = ap (λ (x : Checked). unless x wrong rest) same

-- to show something of what is made of a check, show it where nothing is wrong and for each refusal
pub unless-cases : {A : Type 0} (P : A → Type 0) (found : Checked) {wrong : BankRefusal → A} {rest : A} → (found ≡ Accepted → P rest)
    → ((refusal : BankRefusal) → found ≡ Err refusal → P (wrong refusal)) → P (unless found wrong rest)
unless-cases P (Ok done) right refused = right refl
unless-cases P (Err refusal) right refused = refused refusal refl

pub next : {found rest : Checked} → found ≡ Accepted → then found rest ≡ rest
unfolding then
next {found} {rest} same = unless-accepted Err rest same

-- what is found first, by another name
pub first-is : {found found' : Checked} (rest : Checked) → found ≡ found' → then found rest ≡ then found' rest
first-is rest same = ap (λ (x : Checked). then x rest) same

pub then-holds : (found rest : Checked) → then found rest ≡ Accepted → (found ≡ Accepted) × (rest ≡ Accepted)
unfolding then
then-holds (Ok done) rest same = (refl, same)
then-holds (Err refusal) rest same = absurd (true≢false (sym (ap is_accepted same)))

-- a callee's answer ends the chain, or lets it go on
pub ends : {found found' : Checked} {refusal : BankRefusal} (rest : Checked) → found ≡ found' → found ≡ Err refusal → then found' rest ≡ Err refusal
unfolding then
ends rest same h = unless-refused Err rest (sym same ∙ h)

pub goes : {found found' rest : Checked} → found ≡ found' → found ≡ Accepted → then found' rest ≡ rest
goes same h = next (sym same ∙ h)

-- what the exit of a `?` returns: the error of the call, in the `Result` of the function
pub exit-returns : {A B E : Type 0} {found : Result A E} {error : E} (result : Result B E) → found ≡ Err error → IsErrAnd result (λ y. y ≡ error) → result ≡ Err error
exit-returns result was left = let p = err_from_is_err_and result left in p.1 ∙ ap Err p.2

-- a chain of settings, one at a time
first-kept : (o : ℕ) (xs : List (ℕ × Bool)) → first_of (Err (Setting o)) xs ≡ Err (Setting o)
unfolding first_of then
first-kept o [] = refl
first-kept o (x ∷ xs) = first-kept o xs

pub first_on : (o : ℕ) (xs : List (ℕ × Bool)) {t : Bool} → t ≡ true → first_of Accepted ((o, t) ∷ xs) ≡ first_of Accepted xs
unfolding first_of then test
first_on o xs same = rw same

pub first_off : (o : ℕ) (xs : List (ℕ × Bool)) {t : Bool} → t ≡ false → first_of Accepted ((o, t) ∷ xs) ≡ Err (Setting o)
unfolding first_of then test
first_off o xs same = rw same (first-kept o xs)

-- the rows from one on: one that is right goes on, one that is wrong is what is found, and after the last nothing is wrong
pub rows-on : (rows : List (ℕ × Bool)) (i : ℕ) → i < length rows → (get_or rows i (0, false)).1 ≡ true → first_of Accepted (drop i rows) ≡ first_of Accepted (drop (i + 1) rows)
rows-on rows i h same = rw (drop-cons rows i (0, false) h, add-one) (first_on _ (drop (suc i) rows) same)

pub rows-off : (rows : List (ℕ × Bool)) (i : ℕ) → i < length rows → (get_or rows i (0, false)).1 ≡ false
    → first_of Accepted (drop i rows) ≡ Err (Setting (get_or rows i (0, false)).0)
rows-off rows i h same = rw (drop-cons rows i (0, false) h) (first_off _ (drop (suc i) rows) same)

pub rows-end : (rows : List (ℕ × Bool)) (i : ℕ) → length rows ≤ i → first_of Accepted (drop i rows) ≡ Accepted
unfolding first_of
rows-end rows i h = ap (first_of Accepted) (drop_of_length-le rows h)

-- pairs of settings, one at a time
pub halves-more : (top top' at : ℕ) {l l' xs ys : List ℕ} {x y : ℕ} → l ≡ x ∷ xs → l' ≡ y ∷ ys
    → halves_found top top' at l l' ≡ test (leb x top) (Err (Setting at)) (test (leb y top') (Err (Setting (at + 2))) (halves_found top top' (at + 4) xs ys))
unfolding halves_found
halves-more top top' at same same' = λ i. halves_found top top' at (same i) (same' i)

pub halves-end : (top top' at : ℕ) (xs ys : List ℕ) → (xs ≡ []) ⊎ (ys ≡ []) → halves_found top top' at xs ys ≡ Accepted
unfolding halves_found
halves-end top top' at [] ys h = refl
halves-end top top' at (x ∷ xs) [] h = refl
halves-end top top' at (x ∷ xs) (y ∷ ys) (inl same) = cc
halves-end top top' at (x ∷ xs) (y ∷ ys) (inr same) = cc

pub to : (x top : ℕ) {t : Bool} → leb x top ≡ t → between 0 x top ≡ t
unfolding between
to x top same = on (le-leb 0 x (omega arith)) ∙ same

pub stop : (p k : ℕ) (rest : Checked) → then (Err (Body p k)) rest ≡ Err (Body p k)
unfolding then
stop p k rest = refl

-- where nothing wrong is found in the end, nothing was found before
pub first-left : (found : Checked) (xs : List (ℕ × Bool)) → first_of found xs ≡ Accepted → found ≡ Accepted
unfolding first_of
first-left found [] same = same
first-left found (x ∷ xs) same = (then-holds found _ (first-left (then found (test x.1 (Err (Setting x.0)) Accepted)) xs same)).0

test-right : (t : Bool) (o : ℕ) → then Accepted (test t (Err (Setting o)) Accepted) ≡ Accepted → t ≡ true
unfolding then test
test-right true o same = refl
test-right false o same = let z : ◌≡◌ {A = ℕ} 0 1 = cc in absurd (omega arith)

pub first-right : (x : ℕ × Bool) (xs : List (ℕ × Bool)) → first_of Accepted (x ∷ xs) ≡ Accepted → x.1 ≡ true
unfolding first_of
first-right x xs same = test-right x.1 x.0 (first-left _ xs same)

-- of right settings, the number of patterns is 1 to 15
pub head-count : (settings : Settings) → head_found settings ≡ Accepted → (1 ≤ settings.patterns) × (settings.patterns ≤ 15)
unfolding head_found between
head-count settings same =
    let n = settings.patterns in
    let t = first-right (0, between 1 n 15) _ same in
    (leb-true 1 n (both_left _ (leb n 15) t), leb-true n 15 (both_right (leb 1 n) _ t))

pub settings-count : (settings : Settings) → settings_found settings ≡ Accepted → (1 ≤ settings.patterns) × (settings.patterns ≤ 15)
unfolding settings_found
settings-count settings same = head-count settings (then-holds (head_found settings) _ same).0

-- the document's numbers tell the cases apart
told : List ℕ → Checked
told xs =
    cond (eqb (get_or xs 0 0) 11) (Err Short)
    (cond (eqb (get_or xs 0 0) 12) (Err (Setting (get_or xs 1 0)))
    (cond (eqb (get_or xs 0 0) 13) (Err (Pair (get_or xs 1 0)))
    (cond (eqb (get_or xs 0 0) 14) (Err (Body (get_or xs 1 0) (get_or xs 2 0))) Accepted)))

told-numbers : (found : Checked) → told (numbers_of found) ≡ found
unfolding numbers_of told
told-numbers (Ok done) = refl
told-numbers (Err Short) = refl
told-numbers (Err (Setting o)) = refl
told-numbers (Err (Pair i)) = refl
told-numbers (Err (Body p k)) = refl

pub numbers-tell : (found found' : Checked) → numbers_of found ≡ numbers_of found' → found ≡ found'
numbers-tell found found' same = sym (told-numbers found) ∙ ap told same ∙ told-numbers found'
