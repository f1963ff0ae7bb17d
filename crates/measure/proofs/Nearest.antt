-- The whole number of a value in range: how near it is, its range, and how code finds it: twice the value is a float exactly, its whole
-- part is twice the value rounded down, and that, with one added and halved, is the value with a half rounded up.
-- Assumes nothing.
use Rattle.std.proofs.Common.{◌≡◌, ℕ, zero, suc, ◌+◌, ◌-◌, ◌*◌, ◌/◌, ◌%◌, ◌^◌, ◌<◌, ◌≤◌, min, Bool, true, false, cond, ◌&&◌, T, eqb, ltb, leb, ℤ, pos, negsuc, neg_ℤ, sym, refl, ap, ◌∙◌, true≢false, suc-le-suc, le_trans, le_of_eq, le_refl, lt_of_lt_of_le, lt_of_le_of_lt, add-zero, mul-le-mul_right, mul_assoc, suc-mul, mul_comm, div-lt_iff_lt-mul, add-mul, lt_of_mul-lt-mul_right, mul-lt-mul_of_pos_right, mul-pos, one-mul, lt_of_not-le, mul-one, mul_right_comm, not-le_of_lt, div-mul-le_self, le_of_mul-le-mul_right, mul_left_comm, arith, lit<, lit≤, eqb→eq, ltb→lt, lt→ltb, leb→le, pow-add, ltb-false, ltb-true, lt-ltb}
use native.Mathlib.Nat.{div-div-eq-div-mul, add-div_right, div-eq_of_lt, mul-add-div_right}
use lib.Pow.{pow-lt}
use lib.Ieee.{Float, nan, inf, fin, binary64, up, down, round, neg, mul, lt, fits, to_unsigned}
use lib.Ieee.Digits.{back}
use lib.Ieee.Fits.{down_pos, and_l, and_r}
use lib.Ieee.Exact.{HasValue, round_exact}
use lib.Ieee.Nearest.{div_same}
use lib.Ieee.Positive.{num, den}
use Rattle.measure.specs.Filter.{half_up, signed, rounded, nearest, within}
use Rattle.measure.proofs.Range.{Within, InRange, inside, within-true, negative, size}
use Rattle.measure.specs.Bound.{end}

-- ---- how near: 2 * (whole * d) is at most d above 2 * a and less than d below it, so a half goes up
pub half_up-near : (a d : ℕ) → 0 < d → (2 * (half_up a d * d) ≤ 2 * a + d) × (2 * a < 2 * (half_up a d * d) + d)
half_up-near a d positive =
    let whole = half_up a d in
    let c : whole * (2 * d) ≡ 2 * (whole * d) = mul_left_comm whole 2 d in
    let l : whole * (2 * d) ≤ _ = div-mul-le_self _ (2 * d) in
    let upper : _ < suc whole * (2 * d) = (div-lt_iff_lt-mul (mul-pos (lit< tt) positive)).0 (le_refl (suc whole)) in
    let next : suc whole * (2 * d) ≡ whole * (2 * d) + 2 * d = suc-mul whole (2 * d) in
    (omega arith, omega arith)

-- ---- its range: no further out than the end
pub half_up-range : (a d c : ℕ) → 0 < d → a ≤ c * d → half_up a d ≤ c
half_up-range a d c positive h =
    let whole = half_up a d in
    let count : 2 * (whole * d) ≤ 2 * a + d = (half_up-near a d positive).0 in
    let grown : 2 * whole * d ≤ (2 * c + 1) * d = grow (whole * d) (c * d) (2 * whole * d) ((2 * c + 1) * d) d a (mul_assoc 2 whole d) (wide c d) count h in
    odd-le whole c (le_of_mul-le-mul_right grown positive)
  where
    wide : (c d : ℕ) → (2 * c + 1) * d ≡ 2 * (c * d) + d
    wide c d = simp (add-mul, one-mul, mul_assoc)

    grow : (x y l right d a : ℕ) → l ≡ 2 * x → right ≡ 2 * y + d → 2 * x ≤ 2 * a + d → a ≤ y → l ≤ right
    grow x y l right d a first f g h = omega arith

    odd-le : (whole c : ℕ) → 2 * whole ≤ 2 * c + 1 → whole ≤ c
    odd-le whole c h = omega arith

pub signed_range : (sign : Bool) (whole : ℕ) → whole ≤ end sign → InRange (signed sign whole)
signed_range false whole h = h
signed_range true zero h = lit≤ tt
signed_range true (suc whole) h = h

-- ---- a whole number is its own nearest
pub half_up-whole : (a d count : ℕ) → 0 < d → a ≡ count * d → half_up a d ≡ count
half_up-whole a d count positive h =
    ap (λ (x : ℕ). (2 * x + d) / (2 * d)) h
    ∙ ap (λ (x : ℕ). (x + d) / (2 * d)) (mul_left_comm 2 count d)
    ∙ mul-add-div_right (mul-pos (lit< tt) positive) count d
    ∙ ap (λ (x : ℕ). count + x) (div-eq_of_lt (less d positive))
    ∙ add-zero count
  where
    less : (d : ℕ) → 0 < d → d < 2 * d
    less d h = omega arith

pub rounded-exact : (x : Float) (z : ℤ) → HasValue x (negative z) (size z) 1 → rounded x ≡ z
rounded-exact nan z h = absurd h
rounded-exact (inf sign) z h = absurd h
rounded-exact (fin sign m exponent) z h =
    ap (λ (t : Bool). signed t (half_up (m * up exponent) (down exponent))) h.0
    ∙ ap (signed (negative z)) (half_up-whole (m * up exponent) (down exponent) (size z) (down_pos exponent) (sym (mul-one (m * up exponent)) ∙ h.1)) ∙ back z
  where
    back : (z : ℤ) → signed (negative z) (size z) ≡ z
    back (pos count) = refl
    back (negsuc count) = refl

-- ---- what is rounded is in range
rounded-range : (y : Float) → Within y → InRange (rounded y)
rounded-range nan h = absurd h
rounded-range (inf sign) h = absurd h
rounded-range (fin sign m exponent) h = signed_range sign (half_up (m * up exponent) (down exponent)) (half_up-range (m * up exponent) (down exponent) (end sign) (down_pos exponent) h)

pub nearest-range : (y : Float) → InRange (nearest y)
unfolding nearest
nearest-range y = go (within y) (λ h. rounded-range y (inside y h))
  where
    go : (other : Bool) → (other ≡ true → InRange (rounded y)) → InRange (cond other (rounded y) (pos 0))
    go true h = h refl
    go false h = lit≤ tt

-- ---- what fitting an `f64` says
pub fits-parts : (sign : Bool) (m : ℕ) (exponent : ℤ) → T (fits binary64 (fin sign m exponent)) → (m < 2 ^ 53) × (down exponent ≤ 2 ^ 1074)
unfolding fits
fits-parts sign zero (pos power) h = (lit< tt, lit≤ tt)
fits-parts sign zero (negsuc power) h = (lit< tt, le_trans (le_of_eq (sym (one-mul (2 ^ suc power)) ∙ eqb→eq (1 * 2 ^ suc power) 1 h)) (lit≤ tt))
fits-parts sign (suc m) exponent h =
    let a : Bool = eqb (suc m % 2) 1 in
    let other : Bool = ltb (suc m) (2 ^ 53) in
    let c : Bool = leb (down exponent) (2 ^ 1074) in
    let d : Bool = ltb (suc m * up exponent) (2 ^ 1024 * down exponent) in
    let abc : T (a && other && c) = and_l (a && other && c) d h in
    (ltb→lt (suc m) (2 ^ 53) (and_r a other (and_l (a && other) c abc)), leb→le (down exponent) (2 ^ 1074) (and_r (a && other) c abc))

-- ---- 2 ^ exponent, in units of 2 ^ -1075, is a power of two
room : (power : ℕ) → 2 ^ suc power ≤ 2 ^ 1074 → suc power ≤ 1074
room power h = lt_of_not-le (λ (g : 1074 ≤ power). not-le_of_lt (pow-lt (suc-le-suc g)) h)

more : (power : ℕ) → suc power ≤ 1074 → suc power ≤ 1075
more power h = omega arith

shift : (exponent : ℤ) → down exponent ≤ 2 ^ 1074 → (j : ℕ) × (2 ^ j * down exponent ≡ up exponent * 2 ^ 1075)
shift (pos power) h = (power + 1075, mul-one (2 ^ (power + 1075)) ∙ pow-add 2 power 1075)
shift (negsuc power) h = (
  1075 - suc power,
  sym (pow-add 2 (1075 - suc power) (suc power)) ∙ ap (λ (x : ℕ). 2 ^ x) (back 1075 (suc power) (more power (room power h))) ∙ sym (one-mul (2 ^ 1075)),
)

-- ---- twice a value in range is exact
module _ (m : ℕ) (exponent : ℤ) (small : m < 2 ^ 53) (fine : down exponent ≤ 2 ^ 1074) (h : m * up exponent ≤ 29999 * down exponent) where
  doubled : HasValue (round binary64 false (m * up exponent * 2) (down exponent * 1)) false (m * up exponent * 2) (down exponent * 1)
  doubled =
      let j = (shift exponent fine).0 in
      let q : m * 2 ^ j * down exponent ≡ m * up exponent * 2 ^ 1075 =
      mul_assoc m (2 ^ j) (down exponent) ∙ ap (λ (x : ℕ). m * x) (shift exponent fine).1 ∙ sym (mul_assoc m (up exponent) (2 ^ 1075)) in
      let other : m * 2 ^ j ≤ 29999 * 2 ^ 1075 =
      le_of_mul-le-mul_right (le_trans (le_of_eq q) (le_trans (mul-le-mul_right (2 ^ 1075) h) (le_of_eq (mul_right_comm 29999 (down exponent) (2 ^ 1075))))) (down_pos exponent) in
      round_exact binary64 false (m * up exponent * 2) (down exponent * 1) m j (mul-pos (down_pos exponent) (lit< tt)) small (lt_of_le_of_lt other (lit< tt))
      (mul_assoc (m * up exponent) 2 (2 ^ 1074) ∙ sym q ∙ ap (λ (x : ℕ). m * 2 ^ j * x) (sym (mul-one (down exponent))))

-- ---- the whole part of a float that is a / c, from 0 up and below 2 ^ 64
capped : (count : ℕ) → count < 18446744073709551616 → min count 18446744073709551615 ≡ count
capped count h = omega arith

one_down : (d x : ℕ) → 0 < d → 0 < 1 * d + x
one_down d x h = omega arith

module _ (a c : ℕ) (pc : 0 < c) (h : a < 2 ^ 64 * c) where
  cut_below : (m : ℕ) (exponent : ℤ) → m * up exponent * c ≡ a * down exponent → m * up exponent * 1 < 2 ^ 64 * down exponent
  cut_below m exponent v =
      lt_of_le_of_lt (le_of_eq (mul-one (m * up exponent)))
      (lt_of_mul-lt-mul_right c
      (lt_of_le_of_lt (le_of_eq v) (lt_of_lt_of_le (mul-lt-mul_of_pos_right h (down_pos exponent)) (le_of_eq (mul_right_comm (2 ^ 64) c (down exponent))))))

  -- what `truncating_f64_to_u64` asks
  cut_range : (x : Float) → HasValue x false a c → T (lt (fin true 1 (pos 0)) x) × T (lt x (fin false 1 (pos 64)))
  unfolding lt
  cut_range nan v = absurd v
  cut_range (inf sign) v = absurd v
  cut_range (fin true m exponent) v = absurd (true≢false v.0)
  cut_range (fin false m exponent) v = (
    lt→ltb 0 (1 * down exponent + m * up exponent * 1) (one_down (down exponent) (m * up exponent * 1) (down_pos exponent)),
    lt→ltb (m * up exponent * 1) (2 ^ 64 * down exponent) (cut_below m exponent v.1),
  )

  cut-value : (x : Float) → HasValue x false a c → to_unsigned 64 x ≡ a / c
  unfolding to_unsigned
  cut-value nan v = absurd v
  cut-value (inf sign) v = absurd v
  cut-value (fin true m exponent) v = absurd (true≢false v.0)
  cut-value (fin false m exponent) v =
      ap (λ (x : ℕ). min x (2 ^ 64 - 1)) (div_same (m * up exponent) (down exponent) a c (down_pos exponent) pc v.1)
      ∙ capped (a / c) ((div-lt_iff_lt-mul pc).1 h)

-- ---- from twice the value, rounded down
halved : (a d : ℕ) → 0 < d → (a * 2 / (d * 1) + 1) / 2 ≡ half_up a d
halved a d positive =
    ap (λ (x : ℕ). (a * 2 / x + 1) / 2) (mul-one d)
    ∙ ap (λ (x : ℕ). x / 2) (sym (add-div_right (a * 2) positive))
    ∙ div-div-eq-div-mul (a * 2 + d) d 2
    ∙ ap (λ (x : ℕ). (x + d) / (d * 2)) (mul_comm a 2)
    ∙ ap (λ (x : ℕ). (2 * a + d) / x) (mul_comm d 2)

-- ---- what the code has: x is twice the size of a value in range
pub record Near (a d : ℕ) (x : Float) : Type 0 where
  pub range : T (lt (fin true 1 (pos 0)) x) × T (lt x (fin false 1 (pos 64)))
  pub short : to_unsigned 64 x ≤ 59998
  pub whole : (to_unsigned 64 x + 1) / 2 ≡ half_up a d

twice-le : (a d top : ℕ) → a ≤ top → top ≡ 29999 * d → a * 2 ≤ 59998 * (d * 1)
twice-le a d top h same = omega arith

near : (m : ℕ) (exponent : ℤ) → T (fits binary64 (fin false m exponent)) → Within (fin false m exponent)
    → Near (m * up exponent) (down exponent) (round binary64 false (m * up exponent * 2) (down exponent * 1))
near m exponent f h =
    let parts = fits-parts false m exponent f in
    let x = round binary64 false (m * up exponent * 2) (down exponent * 1) in
    let pd : 0 < down exponent * 1 = mul-pos (down_pos exponent) (lit< tt) in
    let t : m * up exponent * 2 ≤ 59998 * (down exponent * 1) = twice-le (m * up exponent) (down exponent) (29999 * down exponent) h refl in
    let l : m * up exponent * 2 < 2 ^ 64 * (down exponent * 1) = lt_of_le_of_lt t (mul-lt-mul_of_pos_right (lit< tt) pd) in
    let v = doubled m exponent parts.0 parts.1 h in
    let count : to_unsigned 64 x ≡ m * up exponent * 2 / (down exponent * 1) = cut-value (m * up exponent * 2) (down exponent * 1) pd l x v in
    record {
      range = cut_range (m * up exponent * 2) (down exponent * 1) pd l x v;
      short = le_trans (le_of_eq count) (div-le (m * up exponent * 2) (down exponent * 1) 59998 pd t);
      whole = ap (λ (doubled : ℕ). (doubled + 1) / 2) count ∙ halved (m * up exponent) (down exponent) (down_pos exponent);
    }
  where
    div-le : (a d c : ℕ) → 0 < d → a ≤ c * d → a / d ≤ c
    div-le a d c positive h = le_of_mul-le-mul_right (le_trans (div-mul-le_self a d) h) positive

-- ---- by the sign that the code's tests find: a y above 0
abbrev pub nought : Float
nought = fin false 0 (pos 0)

pub above : (y : Float) → T (fits binary64 y) → Within y → lt nought y ≡ true → Near (num y) (den y) (mul binary64 y (fin false 1 (pos 1))) × (rounded y ≡ pos (half_up (num y) (den y)))
unfolding mul lt
above nan f h positive = absurd h
above (inf sign) f h positive = absurd h
above (fin true m exponent) f h positive = absurd (true≢false (sym positive))
above (fin false m exponent) f h positive = (near m exponent f h, refl)

-- a y below 0: -y is above 0 and in range, and y rounds to the negative of what -y rounds to
pub record Below (y : Float) : Type 0 where
  pub ok : within (neg y) ≡ true
  pub over : lt nought (neg y) ≡ true
  pub whole : ℕ
  pub short : whole < 32768
  pub size : rounded (neg y) ≡ pos whole
  pub is : rounded y ≡ neg_ℤ (pos whole)

pub below : (y : Float) → Within y → lt y nought ≡ true → Below y
unfolding lt neg
below nan h positive = absurd h
below (inf sign) h positive = absurd h
below (fin false m exponent) h positive = absurd (none (down exponent) (m * up exponent * 1) (ltb-true (m * up exponent * 1) (0 * down exponent) positive))
  where
    none : (d x : ℕ) → x < 0 * d → ⊥
    none d x h = omega arith
below (fin true m exponent) h positive = record {
  ok = within-true (fin false m exponent) (le_trans h (mul-le-mul_right (down exponent) (lit≤ tt)));
  over = lt-ltb (0 * down exponent) (m * up exponent * 1) (some (down exponent) (m * up exponent * 1) (ltb-true 0 (m * up exponent * 1 + 0 * down exponent) positive));
  whole = half_up (m * up exponent) (down exponent);
  short = lt_of_le_of_lt (half_up-range (m * up exponent) (down exponent) 19999 (down_pos exponent) h) (lit< tt);
  size = refl;
  is = refl;
}
  where
    some : (d x : ℕ) → 0 < x + 0 * d → 0 * d < x
    some d x h = omega arith

-- neither: y is 0 or -0
half_up-zero : (a d : ℕ) → 0 < d → a * 1 ≤ 0 * d → half_up a d ≡ 0
half_up-zero a d positive h = div-eq_of_lt (omega arith)

pub at-nought : (y : Float) → Within y → lt nought y ≡ false → lt y nought ≡ false → rounded y ≡ pos 0
unfolding lt
at-nought nan h positive q = absurd h
at-nought (inf sign) h positive q = absurd h
at-nought (fin true m exponent) h positive q =
    ap (λ (count : ℕ). neg_ℤ (pos count))
    (half_up-zero (m * up exponent) (down exponent) (down_pos exponent) (none (m * up exponent * 1) (down exponent) (ltb-false 0 (m * up exponent * 1 + 0 * down exponent) q)))
  where
    none : (x d : ℕ) → x + 0 * d ≤ 0 → x ≤ 0 * d
    none x d h = omega arith
at-nought (fin false m exponent) h positive q = ap pos (half_up-zero (m * up exponent) (down exponent) (down_pos exponent) (ltb-false (0 * down exponent) (m * up exponent * 1) positive))
