-- The laws of numbers as text.
-- Assumes nothing.
use Prim.Native.Nat.{ℕ, zero, suc, ◌+◌, ◌-◌, ◌*◌, ◌/◌, ◌%◌, ◌^◌, ◌≤◌, ◌<◌}
use mathlib.Core.Path.{◌≡◌, refl, ap, ◌∙◌}
use mathlib.Core.Bool.{Bool, true, false, cond}
use mathlib.Core.List.{List, [], ◌∷◌, ◌++◌, append_assoc}
use native.Mathlib.Omega.{arith}
use borrow.Author.Tests.{lt-ltb, le-ltb, ltb-true, ltb-false, le-leb, lt-leb}
use lib.Dec.{ltb}
use lib.IntN.{ℤ, pos, negsuc}
use lib.ListN.{length, set, get_or, drop, length-append, drop_of_length-le}
use lib.Seq.{sets, sets-eq, drop-cons, drop-drop}
use borrow.Rule.Slice.PartMut.{put_mid}
use Rattle.std.specs.Fmt.{signed_decimal, decimal as std_decimal}
use Rattle.std.proofs.lemmas.Fmt.{AppendsLastDigit, decimal_from_appends, length-decimal-le}
use native.Mathlib.Numerals.{add-one}
use mir.Syntax.{w64}
use mir.Val.{SFits}
use Rattle.field.proofs.Laws.{sets-append}
use Rattle.decimal.specs.Text.{decimal, text, behind, line_of, Put, put, put_text, put_of}

-- ---- a buffer, and where a text in it ends

module _ {out out' : List ℕ} {end end' : ℕ} where
  pub put_is : out ≡ out' → end ≡ end' → put out end ≡ put out' end'
  put_is h g = λ i. put (h i) (g i)

  pub bytes-are : put out end ≡ put out' end' → out ≡ out'
  bytes-are h = ap (λ (left : Put). left.bytes) h

  pub end_is : put out end ≡ put out' end' → end ≡ end'
  end_is h = ap (λ (left : Put). left.end) h

-- ---- digits

-- there are at most as many as asked for
pub length-decimal : (most value : ℕ) → length (decimal most value) ≤ most
unfolding decimal
length-decimal zero value = omega arith
length-decimal (suc most) value = go (ltb value 10) (length-decimal most (value / 10))
  where
    go : (t : Bool) → length (decimal most (value / 10)) ≤ most
        → length (cond t ((48 + value) ∷ []) (decimal most (value / 10) ++ ((48 + value % 10) ∷ []))) ≤ suc most
    go true h = omega arith
    go false h = omega (arith, length-append (decimal most (value / 10)) ((48 + value % 10) ∷ []))

-- they are those that the library `itoa` writes
appended : AppendsLastDigit decimal
unfolding decimal
appended = record {
  one = λ most value h. rw (lt-ltb value 10 h);
  more = λ most value h. rw (le-ltb value 10 h);
}

same-digits : (value : ℕ) → value ≤ 2 ^ 63 → decimal 19 value ≡ std_decimal value
same-digits value h = decimal_from_appends decimal appended 19 value (omega arith) (length-decimal-le 19 value (omega arith) (omega arith) (omega arith))

-- ---- a number, by its sign

pub text-same : (x : ℤ) → SFits w64 x → text x ≡ signed_decimal x
unfolding text
text-same (pos value) f = same-digits value (let l = f.sfits in omega arith)
text-same (negsuc value) f = ap (λ (digits : List ℕ). 45 ∷ digits) (rw (add-one value) (same-digits (suc value) (let l = f.sfits in omega arith)))

pub length-text : (x : ℤ) → length (text x) ≤ 20
unfolding text
length-text (pos value) = omega (arith, length-decimal 19 value)
length-text (negsuc value) = omega (arith, length-decimal 19 (value + 1))

-- ---- a line

-- what stands behind the number at a place
behind-is : (xs : List ℤ) (i : ℕ) → cond (ltb i (length xs)) 32 10 ≡ behind (drop i xs)
behind-is xs i = go (ltb i (length xs)) refl
  where
    go : (t : Bool) → ltb i (length xs) ≡ t → cond t 32 10 ≡ behind (drop i xs)
    go true h = rw (drop-cons xs i (pos 0) (ltb-true i (length xs) h))
    go false h = rw (drop_of_length-le xs (ltb-false i (length xs) h))

-- bytes put in the place of a part of a buffer are written there
mid-sets : (out : List ℕ) (to : ℕ) (bytes : List ℕ) → to + length bytes ≤ length out → put_mid to (to + length bytes - to) out bytes ≡ sets out to bytes
mid-sets out to bytes h =
    let size : to + length bytes - to ≡ length bytes = omega arith in
    rw (size, sets-eq bytes out to h, append_assoc, drop-drop)

-- the rest of a line: its first number, what stands behind that, and what is left
pub line-turn : (out : List ℕ) (to i : ℕ) (xs : List ℤ) {first : List ℕ} {byte : ℕ} → i < length xs → to + length first ≤ length out
    → first ≡ text (get_or xs i (pos 0)) → byte ≡ cond (ltb (i + 1) (length xs)) 32 10
    → put_text (set (put_mid to (to + length first - to) out first) (to + length first) byte) (to + length first + 1) (line_of (drop (i + 1) xs))
    ≡ put_text out to (line_of (drop i xs))
unfolding line_of
line-turn out to i xs {first} {byte} h room g f =
    let rest = drop (suc i) xs in
    let line : line_of (drop i xs) ≡ first ++ (behind rest ∷ line_of rest) = rw (drop-cons xs i (pos 0) h, g) in
    let byte-is : byte ≡ behind rest = f ∙ ap (λ (n : ℕ). cond (ltb n (length xs)) 32 10) (add-one i) ∙ behind-is xs (suc i) in
    rw (mid-sets out to first room, byte-is, line, add-one i, add-one (to + length first))
    (put_is (sets-append first (behind rest ∷ line_of rest) out to) (omega (arith, length-append first (behind rest ∷ line_of rest))))

-- a line that has room, and one that has none
pub put-fits : (out : List ℕ) (at : ℕ) (xs : List ℤ) → at + 21 * length xs ≤ length out → put_of out at xs ≡ put_text out at (line_of xs)
unfolding put_of
put-fits out at xs h = rw (le-leb (at + 21 * length xs) (length out) h)

pub put-past : (out : List ℕ) (at : ℕ) (xs : List ℤ) → length out < at + 21 * length xs → put_of out at xs ≡ put out at
unfolding put_of
put-past out at xs h = rw (lt-leb (at + 21 * length xs) (length out) h)
