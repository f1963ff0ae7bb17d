-- Tests joined: what the code's `&` and `|` say is what the definitions' `both` and `either` say. Assumes nothing.
use Prim.Native.Nat.{ℕ, ◌≤◌, ◌<◌}
use mathlib.Core.Path.{◌≡◌, refl, sym, ◌∙◌}
use mathlib.Core.Bool.{Bool, true, false, false≢true, cond, ◌||◌}
use mathlib.Core.Logic.{◌⊎◌, inl, inr}
use borrow.Author.Tests.{le-leb, lt-leb, leb-true, leb-false}
use lib.Dec.{leb}
pub use Rattle.setting.proofs.Laws.{both-and, both_left, both_right}
use Rattle.position.specs.Tests.{both, either}

pub either-or : (first second : Bool) → either first second ≡ (first || second)
unfolding either
either-or true second = refl
either-or false second = refl

pub both_true : (first second : Bool) → first ≡ true → second ≡ true → both first second ≡ true
unfolding both
both_true true second holds also = also
both_true false second holds also = holds

pub both-on : (test : Bool) → both test true ≡ test
unfolding both
both-on true = refl
both-on false = refl

-- where the first holds, both fail by the second
pub both_false : (first second : Bool) → first ≡ true → both first second ≡ false → second ≡ false
unfolding both
both_false true second holds also = also
both_false false second holds also = absurd (false≢true holds)

pub either-cases : (first second : Bool) → either first second ≡ true → (first ≡ true) ⊎ (second ≡ true)
unfolding either
either-cases true second holds = inl refl
either-cases false second holds = inr holds

pub either_left : (first second : Bool) → first ≡ true → either first second ≡ true
unfolding either
either_left true second holds = refl
either_left false second holds = absurd (false≢true holds)

pub either-right : (first second : Bool) → second ≡ true → either first second ≡ true
unfolding either
either-right true second holds = refl
either-right false second holds = holds

-- where one of two fails, both do
pub either-false : (first second : Bool) → either first second ≡ false → (first ≡ false) × (second ≡ false)
unfolding either
either-false true second holds = absurd (false≢true (sym holds))
either-false false second holds = (refl, holds)

-- to show something of a choice, show it of both
pub choice : {A : Type 0} (P : A → Type 0) (test : Bool) {first second : A} → (test ≡ true → P first) → (test ≡ false → P second) → P (cond test first second)
choice P true taken left = taken refl
choice P false taken left = left refl

-- a choice of tests holds by the one that is chosen
pub chosen : (test first second : Bool) → test ≡ true → cond test first second ≡ true → first ≡ true
chosen true first second holds also = also
chosen false first second holds also = absurd (false≢true holds)

pub otherwise : (test first second : Bool) → test ≡ false → cond test first second ≡ true → second ≡ true
otherwise true first second holds also = absurd (false≢true (sym holds))
otherwise false first second holds also = also

-- two tests that follow from one another are one
pub same : (first second third fourth : ℕ) → (first ≤ second → third ≤ fourth) → (second < first → fourth < third) → leb first second ≡ leb third fourth
same first second third fourth up down = go (leb first second) refl
  where
    go : (test : Bool) → leb first second ≡ test → leb first second ≡ leb third fourth
    go true known = known ∙ sym (le-leb third fourth (up (leb-true first second known)))
    go false known = known ∙ sym (lt-leb third fourth (down (leb-false first second known)))
