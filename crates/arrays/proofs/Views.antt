-- A view that is walked through one place after the other, and what holds of every entry of a list.
-- Assumes nothing.
use mathlib.Core.Path.{◌≡◌, refl, sym, ap}
use mathlib.Core.List.{List, [], ◌∷◌}
use Prim.Native.Nat.{ℕ, zero, suc, ◌+◌, ◌*◌, ◌-◌, ◌≤◌, ◌<◌}
use native.Mathlib.Nat.{sub-zero, mul-suc}
use native.Mathlib.Numerals.{add-one}
use native.Mathlib.Omega.{arith}
use lib.ListN.{take, drop}
use Rattle.field.specs.Tab.{tab}
use Rattle.field.proofs.Tab.{tab-end}

-- ---- what is left of so many entries at a place

unfoldable pub rest : {A : Type 0} → (ℕ → A) → ℕ → ℕ → List A
rest f count place = tab f 1 place (count - place)

pub rest-start : {A : Type 0} (f : ℕ → A) (count : ℕ) → tab f 1 0 count ≡ rest f count 0
unfolding rest
rest-start f count = ap (tab f 1 0) (sym (sub-zero count))

pub rest_more : {A : Type 0} (f : ℕ → A) (count place : ℕ) → place < count → rest f count place ≡ f place ∷ rest f count (place + 1)
unfolding rest tab
rest_more f count place h = let same : count - place ≡ suc (count - (place + 1)) = omega arith in rw same

pub rest_end : {A : Type 0} (f : ℕ → A) (count place : ℕ) → count ≤ place → rest f count place ≡ []
unfolding rest
rest_end f count place h = tab-end f 1 place count place h

-- the next of places that stand a width apart
pub next_place : (at width index : ℕ) → at + width * index + width ≡ at + width * (index + 1)
next_place at width index = rw add-one (omega (arith, mul-suc width index))

-- places counted from 1
pub tab-from : {A : Type 0} (f : ℕ → A) (place m : ℕ) → tab f 1 (place + 1) m ≡ tab (λ i. f (i + 1)) 1 place m
unfolding tab
tab-from f place zero = refl
tab-from f place (suc m) = ap (λ (xs : List _). f (place + 1) ∷ xs) (tab-from f (place + 1) m)

-- ---- what holds of every entry

abbrev pub All : {A : Type 0} → (A → Type 0) → List A → Type 0
All P [] = Unit {0}
All P (x ∷ xs) = P x × All P xs

pub all_map : {A : Type 0} (P Q : A → Type 0) → ((x : A) → P x → Q x) → (xs : List A) → All P xs → All Q xs
all_map P Q f [] h = tt
all_map P Q f (x ∷ xs) h = (f x h.0, all_map P Q f xs h.1)

pub all_drop : {A : Type 0} (P : A → Type 0) (index : ℕ) (xs : List A) → All P xs → All P (drop index xs)
all_drop P zero xs h = h
all_drop P (suc index) [] h = h
all_drop P (suc index) (x ∷ xs) h = all_drop P index xs h.1

pub all_take : {A : Type 0} (P : A → Type 0) (index : ℕ) (xs : List A) → All P xs → All P (take index xs)
all_take P zero xs h = tt
all_take P (suc index) [] h = h
all_take P (suc index) (x ∷ xs) h = (h.0, all_take P index xs h.1)

pub all-tab : {A : Type 0} (P : A → Type 0) (f : ℕ → A) (place m : ℕ) → ((i : ℕ) → place ≤ i → i < place + m → P (f i)) → All P (tab f 1 place m)
unfolding tab
all-tab P f place zero h = tt
all-tab P f place (suc m) h = (h place (omega arith) (omega arith), all-tab P f (place + 1) m (λ i l upper. h i (omega arith) (omega arith)))
