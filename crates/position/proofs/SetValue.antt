-- The set value between base and target, on distances from −32,768. Assumes nothing.
use Prim.Native.Nat.{ℕ, ◌+◌, ◌-◌, ◌*◌, ◌/◌, ◌≤◌, ◌<◌, min}
use mathlib.Core.Path.{◌≡◌, refl, sym, ap, ◌∙◌}
use mathlib.Core.Bool.{Bool, true, false, false≢true}
use native.Mathlib.Omega.{arith}
use native.Mathlib.Nat.{mul-le-mul_left, mul_comm, div-le_of_le-mul, mul-div_cancel}
use borrow.Author.Tests.{le-leb, leb-true, leb-false, eqb-false}
use lib.Dec.{leb, eqb}
use lib.IntN.{ℤ, pos, negsuc}
use lib.Signed.{le_z}
use mir.Syntax.{w16}
use mir.Val.{SFits}
use Rattle.position.specs.declared.Here.{Here}
use Rattle.position.specs.Tests.{temperature, within, apart, either}
use Rattle.position.specs.Program.{toward, ramp_of}
use Rattle.position.specs.Raised.{raised, lowered}
use Rattle.position.proofs.Raised.{order, raised_lt, lowered-fits, raised-lowered, lowered-raised, apart-raised, toward-up, toward-down}
use Rattle.position.proofs.Tests.{both_left, both_right, both_true, either-false, choice}

-- a temperature in the range has 16 bits
pub fits : (value : ℤ) → temperature value ≡ true → SFits w16 value
unfolding temperature within
fits (pos size) holds = let low : size ≤ 29999 = leb-true size 29999 (both_right _ _ holds) in record { sfits = omega arith }
fits (negsuc size) holds = let low : size ≤ 19998 = leb-true size 19998 (both_left _ _ holds) in record { sfits = omega arith }

-- the order of temperatures
pub le_refl : (first : ℤ) → le_z first first ≡ true
le_refl (pos first) = le-leb first first (omega arith)
le_refl (negsuc first) = le-leb first first (omega arith)

pub le_trans : (first second third : ℤ) → le_z first second ≡ true → le_z second third ≡ true → le_z first third ≡ true
le_trans (pos first) (pos second) (pos third) holds also = le-leb first third (omega (arith, leb-true first second holds, leb-true second third also))
le_trans (pos first) (pos second) (negsuc third) holds also = also
le_trans (pos first) (negsuc second) third holds also = absurd (false≢true holds)
le_trans (negsuc first) second (pos third) holds also = refl
le_trans (negsuc first) (pos second) (negsuc third) holds also = absurd (false≢true also)
le_trans (negsuc first) (negsuc second) (negsuc third) holds also = le-leb third first (omega (arith, leb-true second first holds, leb-true third second also))

-- of two temperatures one is at or below the other
pub above : (first second : ℤ) → le_z first second ≡ false → le_z second first ≡ true
above (pos first) (pos second) holds = le-leb second first (omega (arith, leb-false first second holds))
above (pos first) (negsuc second) holds = refl
above (negsuc first) (pos second) holds = absurd (false≢true (sym holds))
above (negsuc first) (negsuc second) holds = le-leb first second (omega (arith, leb-false second first holds))

-- what lies within two temperatures of the range is in the range
pub within-range : (first value second : ℤ) → temperature first ≡ true → temperature second ≡ true → within first value second ≡ true → temperature value ≡ true
unfolding temperature within
within-range first value second holds also low =
    both_true _ _ (le_trans (negsuc 19998) first value (both_left _ _ holds) (both_left _ _ low))
    (le_trans value second (pos 29999) (both_right _ _ low) (both_right _ _ also))

-- some of the parts of a distance are no more than the distance
pub part-le : (distance some parts : ℕ) → some ≤ parts → distance * some / parts ≤ distance
part-le distance some parts holds = div-le_of_le-mul parts (rw (mul_comm parts distance) (mul-le-mul_left distance holds))

-- ---- moved toward a target by no more than what is between

module _ (b target : ℤ) (amount : ℕ) (based : SFits w16 b) (aimed : SFits w16 target) where
  pub toward-within : amount ≤ apart target b → le_z b target ≡ true → within b (toward b target amount) target ≡ true
  unfolding within
  toward-within few upward =
      let low : raised b ≤ raised target = leb-true _ _ (sym (order b target based aimed) ∙ upward) in
      let between = apart-raised target b aimed based in
      let end : raised b + amount ≤ raised target = omega arith in
      let fitting : SFits w16 (lowered (raised b + amount)) = lowered-fits (raised b + amount) (omega (arith, raised_lt target aimed)) in
      rw (toward-up b target amount based aimed low, order b (lowered (raised b + amount)) based fitting, order (lowered (raised b + amount)) target fitting aimed, raised-lowered (raised b + amount))
      (both_true _ _ (le-leb (raised b) (raised b + amount) (omega arith)) (le-leb (raised b + amount) (raised target) end))

  pub toward-within-down : amount ≤ apart target b → le_z b target ≡ false → within target (toward b target amount) b ≡ true
  unfolding within
  toward-within-down few downward =
      let low : raised target < raised b = leb-false _ _ (sym (order b target based aimed) ∙ downward) in
      let between = apart-raised target b aimed based in
      let end : raised target ≤ raised b - amount = omega arith in
      let fitting : SFits w16 (lowered (raised b - amount)) = lowered-fits (raised b - amount) (omega (arith, raised_lt b based)) in
      rw (
        toward-down b target amount based aimed low (omega arith),
        order target (lowered (raised b - amount)) aimed fitting,
        order (lowered (raised b - amount)) b fitting based,
        raised-lowered (raised b - amount),
      )
      (both_true _ _ (le-leb (raised target) (raised b - amount) end) (le-leb (raised b - amount) (raised b) (omega arith)))

-- moved by all that is between it is the target
pub toward-all : (b target : ℤ) → SFits w16 b → SFits w16 target → toward b target (apart target b) ≡ target
toward-all b target based aimed = go (leb (raised b) (raised target)) refl
  where
    between : apart target b ≡ (raised target - raised b) + (raised b - raised target)
    between = apart-raised target b aimed based

    go : (test : Bool) → leb (raised b) (raised target) ≡ test → toward b target (apart target b) ≡ target
    go true known =
        let low : raised b ≤ raised target = leb-true _ _ known in
        let end : raised b + apart target b ≡ raised target = omega (arith, between) in
        toward-up b target (apart target b) based aimed low ∙ ap lowered end ∙ lowered-raised target aimed
    go false known =
        let low : raised target < raised b = leb-false _ _ known in
        let end : raised b - apart target b ≡ raised target = omega (arith, between) in
        toward-down b target (apart target b) based aimed low (omega (arith, between)) ∙ ap lowered end ∙ lowered-raised target aimed

-- ---- the ramp of a step

module _ (here : Here) (b : ℤ) (e : ℕ) where
  pub ramp-at-once : either (eqb here.time 0) here.endless ≡ true → ramp_of here b e ≡ here.target
  unfolding ramp_of
  ramp-at-once holds = rw holds

  module _ (based : temperature b ≡ true) (aimed : temperature here.target ≡ true) where
    part : apart here.target b * min e here.time / here.time ≤ apart here.target b
    part = part-le (apart here.target b) (min e here.time) here.time (omega arith)

    pub ramp-within : le_z b here.target ≡ true → within b (ramp_of here b e) here.target ≡ true
    unfolding ramp_of within
    ramp-within holds =
        choice (λ (value : ℤ). within b value here.target ≡ true) (either (eqb here.time 0) here.endless)
        (λ _. both_true _ _ holds (le_refl here.target))
        (λ _. toward-within b here.target _ (fits b based) (fits here.target aimed) part holds)

    pub ramp-within-down : le_z b here.target ≡ false → within here.target (ramp_of here b e) b ≡ true
    unfolding ramp_of within
    ramp-within-down holds =
        choice (λ (value : ℤ). within here.target value b ≡ true) (either (eqb here.time 0) here.endless)
        (λ _. both_true _ _ (le_refl here.target) (above b here.target holds))
        (λ _. toward-within-down b here.target _ (fits b based) (fits here.target aimed) part holds)

    pub ramp-range : temperature (ramp_of here b e) ≡ true
    ramp-range = go (le_z b here.target) refl
      where
        go : (test : Bool) → le_z b here.target ≡ test → temperature (ramp_of here b e) ≡ true
        go true holds = within-range b (ramp_of here b e) here.target based aimed (ramp-within holds)
        go false holds = within-range here.target (ramp_of here b e) b aimed based (ramp-within-down holds)

    pub ramp-at-end : here.time ≤ e → ramp_of here b e ≡ here.target
    unfolding ramp_of
    ramp-at-end holds =
        choice (λ (value : ℤ). value ≡ here.target) (either (eqb here.time 0) here.endless) (λ _. refl)
        (λ test.
        let some-time : here.time ≡ 0 → ⊥ = eqb-false here.time 0 (either-false _ _ test).0 in
        let whole-time : min e here.time ≡ here.time = omega arith in
        let low : 0 < here.time = omega arith in
        rw (whole-time, mul-div_cancel (apart here.target b) {n = here.time} low) (toward-all b here.target (fits b based) (fits here.target aimed)))
