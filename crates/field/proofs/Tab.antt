-- The laws of a view at regular places, and of a loop that fills an array from one. The invariant of such a loop says that the rest of the
-- view, stored from where it is due, gives the whole.
-- Assumes nothing.
use Prim.Native.Nat.{ℕ, zero, suc, ◌+◌, ◌*◌, ◌-◌, ◌≤◌, ◌<◌}
use mathlib.Core.Path.{◌≡◌, refl, sym, ap, ◌∙◌}
use mathlib.Core.List.{List, []}
use native.Mathlib.Nat.{add-zero, mul-zero, mul-suc}
use native.Mathlib.Numerals.{add-one}
use native.Mathlib.Omega.{arith}
use lib.ListN.{length, get_or, set}
use lib.Seq.{sets}
use Rattle.field.specs.Tab.{tab}

pub length-tab : {A : Type 0} (f : ℕ → A) (width at more : ℕ) → length (tab f width at more) ≡ more
unfolding tab
length-tab f width at zero = refl
length-tab f width at (suc more) = ap suc (length-tab f width (at + width) more)

pub get_or-tab : {A : Type 0} (f : ℕ → A) (width at more j : ℕ) (d : A) → j < more → get_or (tab f width at more) j d ≡ f (at + width * j)
unfolding tab
get_or-tab f width at zero j d h = absurd (omega arith)
get_or-tab f width at (suc more) zero d h = ap f (sym (ap (λ (x : ℕ). at + x) (mul-zero width) ∙ add-zero at))
get_or-tab f width at (suc more) (suc j) d h =
    let same : at + width + width * j ≡ at + width * suc j = omega (arith, mul-suc width j) in
    get_or-tab f width (at + width) more j d (omega arith) ∙ ap f same

-- nothing is left at the end
pub tab-end : {A : Type 0} (f : ℕ → A) (width at count i : ℕ) → count ≤ i → tab f width at (count - i) ≡ []
unfolding tab
tab-end f width at count i h = let same : count - i ≡ 0 = omega arith in rw same

-- a turn: one entry is stored at a place, and the rest of the view from one place further
pub turn : {A : Type 0} (f : ℕ → A) (width at count i to : ℕ) (out : List A) → i < count
    → sets (set out to (f at)) (to + 1) (tab f width (at + width) (count - (i + 1))) ≡ sets out to (tab f width at (count - i))
unfolding tab
turn f width at count i to out h = let same : count - i ≡ suc (count - (i + 1)) = omega arith in rw (same, add-one)

-- the same, by the number of turns
pub fill-turn : {A : Type 0} (f : ℕ → A) (width at count i base : ℕ) (out : List A) → i < count
    → sets (set out (base + i) (f (at + width * i))) (base + (i + 1)) (tab f width (at + width * (i + 1)) (count - (i + 1))) ≡ sets out (base + i) (tab f width (at + width * i) (count - i))
fill-turn f width at count i base out h =
    let g : at + width * (i + 1) ≡ at + width * i + width = rw add-one (omega (arith, mul-suc width i)) in
    let next : base + (i + 1) ≡ base + i + 1 = omega arith in
    rw (g, next) (turn f width (at + width * i) count i (base + i) out h)
