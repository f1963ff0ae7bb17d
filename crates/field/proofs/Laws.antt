-- The laws of fields, over any width in bytes.
-- Assumes nothing.
use mathlib.Core.Path.{◌≡◌, refl, sym, ap, ◌∙◌, subst}
use mathlib.Core.Bool.{Bool, true, false, cond, false≢true}
use mathlib.Core.Logic.{◌⊎◌, inl, inr}
use mathlib.Core.List.{List, [], ◌∷◌, ◌++◌}
use Prim.Native.Nat.{ℕ, zero, suc, ◌+◌, ◌*◌, ◌-◌, ◌/◌, ◌%◌, ◌^◌, ◌≤◌, ◌<◌}
use native.Mathlib.Nat.{suc-add, pow-suc, pow-succ', pow-zero, add-zero, zero-add, one-mul, mul_comm, mul_assoc, div-lt_iff_lt-mul}
use native.Mathlib.Numerals.{add-one}
use native.Mathlib.Omega.{arith}
use borrow.Author.Tests.{le-leb, lt-leb, leb-false}
use lib.Dec.{T, leb, lit<}
use lib.IntN.{ℤ, pos, negsuc, nat_abs}
use lib.Signed.{le_z, non_neg}
use lib.ListN.{length, take, drop, get_or, set, length-set}
use lib.Seq.{sets, length-sets, take-suc-set, append_snoc, drop-cons, drop-nil, take-nil, take_at, get_or-set_same, get_or-set_other, ext_get_or}
use mir.Syntax.{Width, w8, w16, w32, w64, w128}
use mir.Val.{bits, hbits, Fits, SFits, to_z, of_z}
use mir.Facts.{to_z-of_z, of_z-to_z, Fits-of_z}
use Rattle.std.proofs.lemmas.Grind.{common_steps}
use Rattle.std.specs.Int.{byte_worth, sum_through, from_le_bytes}
use Rattle.field.specs.Field.{num, field, digits, stored, bytes, signed_field}

-- ---- reading

-- every element of a list of bytes is below 256, those past the end too, which read as 0
abbrev pub Bytes : List ℕ → Type 0
Bytes buffer = (i : ℕ) → get_or buffer i 0 < 256

-- no bytes are 0
pub field-none : (buffer : List ℕ) (i : ℕ) → field 0 buffer i ≡ 0
unfolding field num
field-none buffer i = refl

-- a field is its first byte and 256 times the rest, in the list or past its end
pub field-more : (width : ℕ) (buffer : List ℕ) (i : ℕ) → field (suc width) buffer i ≡ get_or buffer i 0 + 256 * field width buffer (i + 1)
unfolding field num
field-more width [] i = simp (drop-nil, take-nil)
field-more width (x ∷ xs) zero = refl
field-more width (x ∷ xs) (suc i) = rw (suc-add i 1) (field-more width xs i)

-- past the end it is 0
pub field_past : (width : ℕ) (buffer : List ℕ) (i : ℕ) → length buffer ≤ i → field width buffer i ≡ 0
unfolding field num
field_past width [] i h = simp (drop-nil, take-nil)
field_past width (x ∷ xs) zero h = absurd (omega arith)
field_past width (x ∷ xs) (suc i) h = field_past width xs i (omega arith)

-- a field of two parts: the low bytes, and the high bytes times the low part's power
pub field-split : (v width : ℕ) (buffer : List ℕ) (i : ℕ) → field (v + width) buffer i ≡ field v buffer i + 256 ^ v * field width buffer (i + v)
field-split zero width buffer i =
    let same : zero + width ≡ width = omega arith in
    let x = field width buffer i in
    let one : 256 ^ 0 * x ≡ x = ap (λ (number : ℕ). number * x) (pow-zero 256) ∙ one-mul x in
    rw (same, add-zero, one) (omega (arith, field-none buffer i))
field-split (suc v) width buffer i =
    let x = field width buffer (i + 1 + v) in
    let same : i + suc v ≡ i + 1 + v = omega arith in
    let moved : 256 ^ suc v * x ≡ 256 * (256 ^ v * x) = ap (λ (number : ℕ). number * x) (pow-succ' 256 v) ∙ mul_assoc 256 (256 ^ v) x in
    rw (suc-add, same, moved) (omega (arith, field-more (v + width) buffer i, field-more v buffer i, field-split v width buffer (i + 1)))

pub field-one : (buffer : List ℕ) (i : ℕ) → field 1 buffer i ≡ get_or buffer i 0
field-one buffer i = omega (arith, field-more 0 buffer i, field-none buffer (i + 1))

-- two and four bytes
pub field-two : (buffer : List ℕ) (i : ℕ) → field 2 buffer i ≡ get_or buffer i 0 + 256 * get_or buffer (i + 1) 0
field-two buffer i = omega (arith, field-more 1 buffer i, field-one buffer (i + 1))

-- two bytes, wherever they are said to stand, that are a number
pub field-joined : (buffer : List ℕ) (i j at : ℕ) {x : ℕ} → x ≡ get_or buffer i 0 + 256 * get_or buffer j 0 → i ≡ at → j ≡ at + 1 → x ≡ field 2 buffer at
field-joined buffer i j at same f g = same ∙ (λ along. get_or buffer (f along) 0 + 256 * get_or buffer (g along) 0) ∙ sym (field-two buffer at)

pub field-four : (buffer : List ℕ) (i : ℕ) → field 4 buffer i ≡ get_or buffer i 0 + 256 * get_or buffer (i + 1) 0 + 65536 * (get_or buffer (i + 2) 0 + 256 * get_or buffer (i + 3) 0)
field-four buffer i =
    let same : i + 2 + 1 ≡ i + 3 = omega arith in
    let high : field 2 buffer (i + 2) ≡ get_or buffer (i + 2) 0 + 256 * get_or buffer (i + 3) 0 = field-two buffer (i + 2) ∙ rw same in
    omega (arith, field-split 2 2 buffer i, field-two buffer i)

-- eight bytes are four, and four more
pub field-eight : (buffer : List ℕ) (i : ℕ) → field 8 buffer i ≡ field 4 buffer i + 4294967296 * field 4 buffer (i + 4)
field-eight buffer i = field-split 4 4 buffer i

-- a field by its bytes and by its halves, for the search
pub ruleset reads = (field-one, field-two, field-four, field-eight, common_steps)

-- a field is what its bytes are
pub field-same : (width : ℕ) (a buffer : List ℕ) (i j : ℕ) → ((index : ℕ) → index < width → get_or a (i + index) 0 ≡ get_or buffer (j + index) 0) → field width a i ≡ field width buffer j
field-same zero a buffer i j h = field-none a i ∙ sym (field-none buffer j)
field-same (suc width) a buffer i j h =
    let first : get_or a i 0 ≡ get_or buffer j 0 = simp add-zero at (h 0 (omega arith)) in
    let rest : field width a (i + 1) ≡ field width buffer (j + 1) =
    field-same width a buffer (i + 1) (j + 1) (λ index l. rw (← one_more i index, ← one_more j index) (h (suc index) (omega arith))) in
    omega (arith, field-more width a i, field-more width buffer j)
  where
    one_more : (number index : ℕ) → number + suc index ≡ number + 1 + index
    one_more number index = omega arith

-- the number whose bytes, low byte first, stand at an offset is the field there
pub le_bytes-field : (width : Width) (bs buffer : List ℕ) (at : ℕ) → ((index : ℕ) → index < bytes width → get_or bs index 0 ≡ get_or buffer (at + index) 0)
    → from_le_bytes width bs ≡ field (bytes width) buffer at
le_bytes-field width bs buffer at h = whole width ∙ field-same (bytes width) bs buffer 0 at (λ index l. simp zero-add (h index l))
  where
    through : (count : ℕ) → sum_through (λ i. byte_worth i (get_or bs i 0)) count ≡ field (suc count) bs 0
    through zero = sym (field-one bs 0)
    through (suc count) =
        let b = get_or bs (suc count) 0 in
        let p = 256 ^ suc count in
        let more : field (suc (suc count)) bs 0 ≡ field (suc count) bs 0 + p * field 1 bs (0 + suc count) = rw add-one at (field-split (suc count) 1 bs 0) in
        let one : field 1 bs (0 + suc count) ≡ b = rw zero-add (field-one bs (suc count)) in
        let turned : b * p ≡ p * field 1 bs (0 + suc count) = mul_comm b p ∙ ap (λ (x : ℕ). p * x) (sym one) in
        omega (arith, through count)

    whole : (width : Width) → from_le_bytes width bs ≡ field (bytes width) bs 0
    whole w8 = through 0
    whole w16 = through 1
    whole w32 = through 3
    whole w64 = through 7
    whole w128 = through 15

-- the number read is below the width's power
pub field_below : (width : ℕ) (buffer : List ℕ) (i : ℕ) → Bytes buffer → field width buffer i < 256 ^ width
field_below zero buffer i small = omega (arith, field-none buffer i, pow-zero 256)
field_below (suc width) buffer i small =
    omega (arith, field-more width buffer i, small i, field_below width buffer (i + 1) small, pow-succ' 256 width)

-- ---- writing

pub length_digits : (width v : ℕ) → length (digits width v) ≡ width
unfolding digits
length_digits zero v = refl
length_digits (suc width) v = ap suc (length_digits width (v / 256))

-- the bytes of a number that fits stand for it
pub num-digits : (width v : ℕ) → v < 256 ^ width → num (digits width v) ≡ v
unfolding digits num
num-digits zero v l = omega arith
num-digits (suc width) v l =
    let same : num (digits width (v / 256)) ≡ v / 256 = num-digits width (v / 256) ((div-lt_iff_lt-mul (lit< tt)).1 (rw (← pow-suc 256 width) l)) in
    omega arith

-- bytes written from i on leave what stands before them
pub byte-before : (vs buffer : List ℕ) (i j : ℕ) → j < i → get_or (sets buffer i vs) j 0 ≡ get_or buffer j 0
byte-before [] buffer i j h = refl
byte-before (v ∷ vs) buffer i j h =
    byte-before vs (set buffer i v) (suc i) j (omega arith) ∙ get_or-set_other buffer i j v 0 (omega arith)

-- and what stands after them
pub byte-after : (vs buffer : List ℕ) (i j : ℕ) → i + length vs ≤ j → get_or (sets buffer i vs) j 0 ≡ get_or buffer j 0
byte-after [] buffer i j h = refl
byte-after (v ∷ vs) buffer i j h =
    byte-after vs (set buffer i v) (suc i) j (omega arith) ∙ get_or-set_other buffer i j v 0 (omega arith)

-- a write keeps the length
pub length-stored : (width : ℕ) (buffer : List ℕ) (i v : ℕ) → length (stored width buffer i v) ≡ length buffer
unfolding stored
length-stored width buffer i v = go (leb (i + width) (length buffer))
  where
    go : (t : Bool) → length (cond t (sets buffer i (digits width v)) buffer) ≡ length buffer
    go true = length-sets buffer i (digits width v)
    go false = refl

-- a write that fits
pub stored-fits : (width : ℕ) (buffer : List ℕ) (i v : ℕ) → i + width ≤ length buffer → stored width buffer i v ≡ sets buffer i (digits width v)
unfolding stored
stored-fits width buffer i v h = rw (le-leb (i + width) (length buffer) h)

-- and one that does not
pub stored_past : (width : ℕ) (buffer : List ℕ) (i v : ℕ) → length buffer < i + width → stored width buffer i v ≡ buffer
unfolding stored
stored_past width buffer i v h = rw (lt-leb (i + width) (length buffer) h)

-- it leaves every other byte
pub stored_other : (width : ℕ) (buffer : List ℕ) (i v j : ℕ) → (j < i) ⊎ (i + width ≤ j) → get_or (stored width buffer i v) j 0 ≡ get_or buffer j 0
unfolding stored
stored_other width buffer i v j h = go (leb (i + width) (length buffer)) h
  where
    go : (t : Bool) → (j < i) ⊎ (i + width ≤ j) → get_or (cond t (sets buffer i (digits width v)) buffer) j 0 ≡ get_or buffer j 0
    go true (inl l) = byte-before (digits width v) buffer i j l
    go true (inr l) = byte-after (digits width v) buffer i j (omega (arith, length_digits width v))
    go false h = refl

-- what stands at an offset as the bytes of a number reads as the number
pub read_at : (width : ℕ) (buffer : List ℕ) (i v : ℕ) (rest : List ℕ) → v < 256 ^ width → drop i buffer ≡ digits width v ++ rest → field width buffer i ≡ v
unfolding field
read_at width buffer i v rest l same =
    ap (λ (x : List ℕ). num (take width x)) same ∙ ap num (take_at (digits width v) rest width (length_digits width v)) ∙ num-digits width v l

-- what was written is read back
pub read-written : (width : ℕ) (buffer : List ℕ) (i v : ℕ) → i + width ≤ length buffer → v < 256 ^ width → field width (sets buffer i (digits width v)) i ≡ v
unfolding digits
read-written zero buffer i v h l = omega (arith, field-none buffer i)
read-written (suc width) buffer i v h l =
    let d = v % 256 in
    let rest = digits width (v / 256) in
    let first : get_or (sets (set buffer i d) (suc i) rest) i 0 ≡ d =
    byte-before rest (set buffer i d) (suc i) i (omega arith) ∙ get_or-set_same buffer i d 0 (omega arith) in
    let then : field width (sets (set buffer i d) (suc i) rest) (suc i) ≡ v / 256 =
    read-written width (set buffer i d) (suc i) (v / 256) (simp length-set (omega arith))
    ((div-lt_iff_lt-mul (lit< tt)).1 (rw (← pow-suc 256 width) l)) in
    field-more width (sets (set buffer i d) (suc i) rest) i ∙ rw add-one (omega arith)

pub read-stored : (width : ℕ) (buffer : List ℕ) (i v : ℕ) → i + width ≤ length buffer → v < 256 ^ width → field width (stored width buffer i v) i ≡ v
read-stored width buffer i v h l = ap (λ (x : List ℕ). field width x i) (stored-fits width buffer i v h) ∙ read-written width buffer i v h l

-- a field that ends where the written bytes begin, or earlier, is as it was
pub read-before : (width : ℕ) (vs buffer : List ℕ) (i j : ℕ) → j + width ≤ i → field width (sets buffer i vs) j ≡ field width buffer j
read-before zero vs buffer i j h = field-none (sets buffer i vs) j ∙ sym (field-none buffer j)
read-before (suc width) vs buffer i j h =
    omega (arith, field-more width (sets buffer i vs) j, field-more width buffer j, byte-before vs buffer i j (omega arith), read-before width vs buffer i (j + 1) (omega arith))

-- a field that begins where the written bytes end, or later, is as it was
pub read-after : (width : ℕ) (vs buffer : List ℕ) (i j : ℕ) → i + length vs ≤ j → field width (sets buffer i vs) j ≡ field width buffer j
read-after zero vs buffer i j h = field-none (sets buffer i vs) j ∙ sym (field-none buffer j)
read-after (suc width) vs buffer i j h =
    omega (arith, field-more width (sets buffer i vs) j, field-more width buffer j, byte-after vs buffer i j h, read-after width vs buffer i (j + 1) (omega arith))

-- a write of two runs is the write of the second behind the first
pub sets-append : {A : Type 0} (xs ys l : List A) (i : ℕ) → sets (sets l i xs) (i + length xs) ys ≡ sets l i (xs ++ ys)
sets-append [] ys l i = ap (λ (at : ℕ). sets l at ys) (add-zero i)
sets-append (x ∷ xs) ys l i =
    let same : i + suc (length xs) ≡ suc i + length xs = omega arith in
    ap (λ (at : ℕ). sets (sets (set l i x) (suc i) xs) at ys) same ∙ sets-append xs ys (set l i x) (suc i)

-- ---- bytes and their fields

-- a field's bytes, written again, are the bytes it was read from
pub digits-field : (width : ℕ) (buffer : List ℕ) (i : ℕ) → Bytes buffer → i + width ≤ length buffer → digits width (field width buffer i) ≡ take width (drop i buffer)
unfolding digits
digits-field zero buffer i small h = refl
digits-field (suc width) buffer i small h =
    let x = get_or buffer i 0 in
    let y = field width buffer (i + 1) in
    let lx : x < 256 = small i in
    let low : (x + 256 * y) % 256 ≡ x = omega arith in
    let high : (x + 256 * y) / 256 ≡ y = omega arith in
    ap (digits (suc width)) (field-more width buffer i)
    ∙ (λ along. low along ∷ digits width (high along))
    ∙ ap (λ (l : List ℕ). x ∷ l) (digits-field width buffer (i + 1) small (omega arith) ∙ rw add-one)
    ∙ ap (take (suc width)) (sym (drop-cons buffer i 0 (omega arith)))

-- two byte lists of one length with the same fields of a width are the same
pub same-fields : (width : ℕ) (a buffer : List ℕ) → Bytes a → Bytes buffer → length a ≡ length buffer → ((i : ℕ) → field (suc width) a i ≡ field (suc width) buffer i) → a ≡ buffer
same-fields width a buffer sa sb same f = ext_get_or 0 a buffer same (λ i h. first i (f i))
  where
    first : (i : ℕ) → field (suc width) a i ≡ field (suc width) buffer i → get_or a i 0 ≡ get_or buffer i 0
    first i g = omega (arith, field-more width a i, field-more width buffer i, sa i, sb i)

-- ---- signed numbers

-- the power of a width
pub power : (width : Width) → 256 ^ bytes width ≡ 2 ^ bits width
power w8 = refl
power w16 = refl
power w32 = refl
power w64 = refl
power w128 = refl

-- what was written is read back
pub signed-at : (width : Width) (buffer : List ℕ) (i : ℕ) (z : ℤ) (rest : List ℕ) → SFits width z → drop i buffer ≡ digits (bytes width) (of_z width z) ++ rest → signed_field width buffer i ≡ z
unfolding signed_field
signed-at width buffer i z rest h same =
    ap (to_z width) (read_at (bytes width) buffer i (of_z width z) rest (subst (λ (number : ℕ). of_z width z < number) (sym (power width)) (Fits-of_z h).fits) same) ∙ to_z-of_z h

pub signed-stored : (width : Width) (buffer : List ℕ) (i : ℕ) (z : ℤ) → i + bytes width ≤ length buffer → SFits width z → signed_field width (stored (bytes width) buffer i (of_z width z)) i ≡ z
unfolding signed_field
signed-stored width buffer i z l h =
    ap (to_z width) (read-stored (bytes width) buffer i (of_z width z) l (subst (λ (number : ℕ). of_z width z < number) (sym (power width)) (Fits-of_z h).fits)) ∙ to_z-of_z h

-- the bits of a signed field are the field
pub signed-bits : (width : Width) (buffer : List ℕ) (i : ℕ) → Bytes buffer → of_z width (signed_field width buffer i) ≡ field (bytes width) buffer i
unfolding signed_field
signed-bits width buffer i small =
    of_z-to_z {w = width} (record { fits = subst (λ (number : ℕ). field (bytes width) buffer i < number) (power width) (field_below (bytes width) buffer i small) })

-- the largest number of a width, and its halves
abbrev pub ones : Width → ℕ
ones width = 2 ^ bits width - 1

halves : (width : Width) → 2 ^ bits width ≡ 2 * 2 ^ hbits width
halves w8 = refl
halves w16 = refl
halves w32 = refl
halves w64 = refl
halves w128 = refl

-- the bits of a signed number that is not below 0, and of one that is
pub lower : (width : Width) (x : ℤ) → SFits width x → le_z (pos 0) x ≡ true → (T (non_neg x) × Fits width (nat_abs x)) × (nat_abs x ≡ of_z width x)
lower width (pos number) f same = ((tt, Fits-of_z f), refl)
lower width (negsuc number) f same = absurd (false≢true same)

pub upper : (width : Width) (x : ℤ) → SFits width x → le_z (pos 0) x ≡ false → (ones width - of_z width x < 2 ^ hbits width) × (of_z width x ≤ ones width)
upper width (pos number) f same = let l = leb-false 0 number same in absurd (omega arith)
upper width (negsuc number) f same = (omega (arith, f.sfits, halves width), omega arith)

-- ---- the loop

-- a turn of the loop that writes: one byte more, and the bytes of what is left of the number
pub write-turn : (place : List ℕ) (i width x : ℕ) → i < length place → i < width
    → take (i + 1) (set place i (x % 256)) ++ digits (width - (i + 1)) (x / 256) ≡ take i place ++ digits (width - i) x
unfolding digits
write-turn place i width x h l =
    let same : width - i ≡ suc (width - (i + 1)) = omega arith in
    rw (same, add-one, take-suc-set place i (x % 256) h, append_snoc)
