-- Temperatures and their distances from −32,768: the order, how far apart two are, and sums are those of natural numbers. Assumes nothing.
use Prim.Native.Nat.{ℕ, zero, suc, ◌+◌, ◌-◌, ◌<◌, ◌≤◌}
use mathlib.Core.Path.{◌≡◌, refl, sym, ap, ◌∙◌}
use mathlib.Core.Bool.{Bool, true, false}
use native.Mathlib.Omega.{arith}
use borrow.Author.Tests.{lt-ltb, le-ltb, ltb-true, ltb-false, le-leb, lt-leb, ne_eqb}
use lib.Dec.{leb, ltb, eqb}
use lib.IntN.{ℤ, pos, negsuc, sub_ℕ, ◌+ℤ◌, ◌-ℤ◌, nat_abs}
use lib.Signed.{le_z}
use mir.Syntax.{w16}
use mir.Val.{SFits}
use Rattle.position.specs.Tests.{apart, zero_z}
use Rattle.position.specs.Program.{toward}
use Rattle.position.specs.Raised.{raised, lowered}
use Rattle.position.proofs.Tests.{same}

-- ---- a difference of naturals

pub sub-ge : (first second : ℕ) → second ≤ first → sub_ℕ first second ≡ pos (first - second)
sub-ge first second holds = rw (le-ltb first second holds)

pub sub-lt : (first second : ℕ) → first < second → sub_ℕ first second ≡ negsuc (second - suc first)
sub-lt first second holds = rw (lt-ltb first second holds)

-- it depends on the difference alone
sub_same : (first second third fourth : ℕ) → first + fourth ≡ third + second → sub_ℕ first second ≡ sub_ℕ third fourth
sub_same first second third fourth holds = go (ltb first second) refl
  where
    go : (test : Bool) → ltb first second ≡ test → sub_ℕ first second ≡ sub_ℕ third fourth
    go true known =
        let low : first < second = ltb-true first second known in
        let equal : second - suc first ≡ fourth - suc third = omega arith in
        sub-lt first second low ∙ ap negsuc equal ∙ sym (sub-lt third fourth (omega arith))
    go false known =
        let low : second ≤ first = ltb-false first second known in
        let equal : first - second ≡ third - fourth = omega arith in
        sub-ge first second low ∙ ap pos equal ∙ sym (sub-ge third fourth (omega arith))

abs-sub : (first second : ℕ) → nat_abs (sub_ℕ first second) ≡ (first - second) + (second - first)
abs-sub first second = go (ltb first second) refl
  where
    go : (test : Bool) → ltb first second ≡ test → nat_abs (sub_ℕ first second) ≡ (first - second) + (second - first)
    go true known = let low : first < second = ltb-true first second known in rw (sub-lt first second low) (omega arith)
    go false known = let low : second ≤ first = ltb-false first second known in rw (sub-ge first second low) (omega arith)

-- ---- raised and lowered

raised-pos : (size : ℕ) → raised (pos size) ≡ size + 32768
unfolding raised
raised-pos size = refl

raised-neg : (size : ℕ) → size < 32768 → raised (negsuc size) ≡ 32767 - size
unfolding raised
raised-neg size holds = rw (sub-ge 32768 (suc size) (omega arith)) (omega arith)

pub raised_lt : (value : ℤ) → SFits w16 value → raised value < 65536
raised_lt (pos size) holds = rw (raised-pos size) (omega arith)
raised_lt (negsuc size) holds = rw (raised-neg size (omega arith)) (omega arith)

lowered_is : (size : ℕ) → lowered size ≡ sub_ℕ size 32768
unfolding lowered
lowered_is size = refl

pub lowered-fits : (size : ℕ) → size < 65536 → SFits w16 (lowered size)
lowered-fits size holds = go (ltb size 32768) refl
  where
    go : (test : Bool) → ltb size 32768 ≡ test → SFits w16 (lowered size)
    go true known = let low : size < 32768 = ltb-true size 32768 known in rw (lowered_is size, sub-lt size 32768 low) (record { sfits = omega arith })
    go false known = let low : 32768 ≤ size = ltb-false size 32768 known in rw (lowered_is size, sub-ge size 32768 low) (record { sfits = omega arith })

pub raised-lowered : (size : ℕ) → raised (lowered size) ≡ size
raised-lowered size = go (ltb size 32768) refl
  where
    go : (test : Bool) → ltb size 32768 ≡ test → raised (lowered size) ≡ size
    go true known =
        let low : size < 32768 = ltb-true size 32768 known in
        rw (lowered_is size, sub-lt size 32768 low, raised-neg (32768 - suc size) (omega arith)) (omega arith)
    go false known =
        let low : 32768 ≤ size = ltb-false size 32768 known in
        rw (lowered_is size, sub-ge size 32768 low, raised-pos (size - 32768)) (omega arith)

-- ---- order, distance, sum and difference

pub order : (one other : ℤ) → SFits w16 one → SFits w16 other → le_z one other ≡ leb (raised one) (raised other)
order (pos more) (pos size) holds also =
    rw (raised-pos more, raised-pos size) (same more size (more + 32768) (size + 32768) (omega arith) (omega arith))
order (pos more) (negsuc size) holds also =
    rw (raised-pos more, raised-neg size (omega arith)) (sym (lt-leb (more + 32768) (32767 - size) (omega arith)))
order (negsuc more) (pos size) holds also =
    rw (raised-neg more (omega arith), raised-pos size) (sym (le-leb (32767 - more) (size + 32768) (omega arith)))
order (negsuc more) (negsuc size) holds also =
    rw (raised-neg more (omega arith), raised-neg size (omega arith)) (same size more (32767 - more) (32767 - size) (omega arith) (omega arith))

pub apart-raised : (one other : ℤ) → SFits w16 one → SFits w16 other → apart one other ≡ (raised one - raised other) + (raised other - raised one)
unfolding apart
apart-raised (pos more) (pos zero) holds also = rw (raised-pos more, raised-pos 0) (omega arith)
apart-raised (pos more) (pos (suc size)) holds also = rw (raised-pos more, raised-pos (suc size)) (abs-sub more (suc size) ∙ omega arith)
apart-raised (pos more) (negsuc size) holds also = rw (raised-pos more, raised-neg size (omega arith)) (omega arith)
apart-raised (negsuc more) (pos zero) holds also = rw (raised-neg more (omega arith), raised-pos 0) (abs-sub 0 (suc more) ∙ omega arith)
apart-raised (negsuc more) (pos (suc size)) holds also = rw (raised-neg more (omega arith), raised-pos (suc size)) (omega arith)
apart-raised (negsuc more) (negsuc size) holds also = rw (raised-neg more (omega arith), raised-neg size (omega arith)) (abs-sub (suc size) (suc more) ∙ omega arith)

pub up : (value : ℤ) (more : ℕ) → SFits w16 value → value +ℤ pos more ≡ lowered (raised value + more)
up (pos size) more holds =
    let known : size + more ≡ size + 32768 + more - 32768 = omega arith in
    rw (raised-pos size, lowered_is (size + 32768 + more), sub-ge (size + 32768 + more) 32768 (omega arith)) (ap pos known)
up (negsuc size) more holds =
    rw (raised-neg size (omega arith), lowered_is (32767 - size + more)) (sub_same more (suc size) (32767 - size + more) 32768 (omega arith))

pub down : (value : ℤ) (more : ℕ) → SFits w16 value → more ≤ raised value → value -ℤ pos more ≡ lowered (raised value - more)
down (pos size) zero holds low =
    let known : size + 0 ≡ size + 32768 - 0 - 32768 = omega arith in
    rw (raised-pos size, lowered_is (size + 32768 - 0), sub-ge (size + 32768 - 0) 32768 (omega arith)) (ap pos known)
down (pos size) (suc more) holds low =
    let also : suc more ≤ size + 32768 = rw (raised-pos size) at low in
    rw (raised-pos size, lowered_is (size + 32768 - suc more)) (sub_same size (suc more) (size + 32768 - suc more) 32768 (omega arith))
down (negsuc size) zero holds low =
    rw (raised-neg size (omega arith), lowered_is (32767 - size - 0)) (sub_same 0 (suc size) (32767 - size - 0) 32768 (omega arith))
down (negsuc size) (suc more) holds low =
    let also : suc more ≤ 32767 - size = rw (raised-neg size (omega arith)) at low in
    let known : suc (size + more) ≡ 32768 - suc (32767 - size - suc more) = omega arith in
    rw (raised-neg size (omega arith), lowered_is (32767 - size - suc more), sub-lt (32767 - size - suc more) 32768 (omega arith)) (ap negsuc known)

pub lowered-raised : (value : ℤ) → SFits w16 value → lowered (raised value) ≡ value
lowered-raised (pos size) holds =
    let known : size + 32768 - 32768 ≡ size = omega arith in
    rw (raised-pos size, lowered_is (size + 32768), sub-ge (size + 32768) 32768 (omega arith)) (ap pos known)
lowered-raised (negsuc size) holds =
    let known : 32768 - suc (32767 - size) ≡ size = omega arith in
    rw (raised-neg size (omega arith), lowered_is (32767 - size), sub-lt (32767 - size) 32768 (omega arith)) (ap negsuc known)

-- ---- a move toward a target

pub toward-up : (b target : ℤ) (amount : ℕ) → SFits w16 b → SFits w16 target → raised b ≤ raised target → toward b target amount ≡ lowered (raised b + amount)
unfolding toward
toward-up b target amount based aimed low = rw (order b target based aimed, le-leb (raised b) (raised target) low) (up b amount based)

pub toward-down : (b target : ℤ) (amount : ℕ) → SFits w16 b → SFits w16 target → raised target < raised b → amount ≤ raised b → toward b target amount ≡ lowered (raised b - amount)
unfolding toward
toward-down b target amount based aimed low enough = rw (order b target based aimed, lt-leb (raised b) (raised target) low) (down b amount based enough)

-- 0 is 32,768 above
pub zero-raised : (value : ℤ) → SFits w16 value → zero_z value ≡ eqb (raised value) 32768
unfolding zero_z
zero-raised (pos zero) based = rw (raised-pos 0)
zero-raised (pos (suc size)) based =
    rw (raised-pos (suc size)) (ne_eqb (suc size) 0 (omega arith) ∙ sym (ne_eqb (suc size + 32768) 32768 (omega arith)))
zero-raised (negsuc size) based =
    rw (raised-neg size (omega arith)) (ne_eqb (suc size) 0 (omega arith) ∙ sym (ne_eqb (32767 - size) 32768 (omega arith)))
