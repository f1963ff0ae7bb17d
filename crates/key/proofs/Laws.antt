-- The laws of a line's numbers and values.
-- Assumes nothing.
use mathlib.Core.Path.{◌≡◌, refl, sym}
use mathlib.Core.Bool.{Bool, true, false, cond}
use mathlib.Core.List.{List}
use Prim.Native.Nat.{ℕ, zero, suc, ◌+◌, ◌*◌, ◌-◌, ◌^◌, ◌≤◌, ◌<◌}
use native.Mathlib.Numerals.{add-one}
use native.Mathlib.Nat.{pow-succ', pow-le-pow_right}
use native.Mathlib.Omega.{arith}
use borrow.Author.Tests.{le-leb, leb-true}
use lib.Dec.{leb}
use mir.Syntax.{w32}
use mir.Val.{SFits, to_z, of_z}
use mir.Facts.{to_z-of_z}
use lib.IntN.{ℤ, pos, negsuc, nat_abs, neg_ℤ, ◌-ℤ◌, +ℤ_idl}
use lib.ListN.{length, take, drop, get_or, length-drop}
use lib.Seq.{drop-cons, take_all}
use Rattle.limits.specs.Range.{both, between}
use Rattle.measure.specs.declared.Reading.{Reading}
use Rattle.plain.specs.declared.Event.{Event}
use Rattle.key.specs.Line.{are_digits, read_on, unsigned, number_of, is_only, value_of, reading_of, tick, return, tick_of, return_of}
use Rattle.std.specs.Prelude.{Option}
use Rattle.std.specs.Prelude.{None, Some}

-- ---- digits

-- a turn of the loop that reads digits
pub digits-turn : (cs : List ℕ) (i : ℕ) → i < length cs → are_digits (drop i cs) ≡ both (between 48 (get_or cs i 0) 57) (are_digits (drop (i + 1) cs))
unfolding are_digits
digits-turn cs i h = rw (drop-cons cs i 0 h, add-one i)

pub read-turn : (cs : List ℕ) (i value : ℕ) → i < length cs → read_on value (drop i cs) ≡ read_on (10 * value + (get_or cs i 0 - 48)) (drop (i + 1) cs)
unfolding read_on
read-turn cs i value h = rw (drop-cons cs i 0 h, add-one i)

-- a byte that is a digit, or is none
pub digit : (c : ℕ) (rest : Bool) → 48 ≤ c → c ≤ 57 → both (between 48 c 57) rest ≡ rest
unfolding both between
digit c rest l h = rw (le-leb 48 c l, le-leb c 57 h)

pub none : (c : ℕ) (rest : Bool) → (48 ≤ c → c ≤ 57 → ⊥) → both (between 48 c 57) rest ≡ false
unfolding both between
none c rest h = go (leb 48 c) (leb c 57) refl refl
  where
    go : (low high : Bool) → leb 48 c ≡ low → leb c 57 ≡ high → both (both low high) rest ≡ false
    go false high l m = refl
    go true false l m = refl
    go true true l m = absurd (h (leb-true 48 c l) (leb-true c 57 m))

-- the bound that goes with it
pub more : (i value digit : ℕ) → value < 10 ^ i → digit < 10 → 10 * value + digit < 10 ^ (i + 1)
more i value digit h l = rw (add-one i) (omega (arith, pow-succ' 10 i))

pub small : (i value : ℕ) → value < 10 ^ i → i ≤ 5 → value < 100000
small i value h l = omega (arith, pow-le-pow_right {n = 10} (omega arith) l)

-- ---- the number of digits

pub out_of_size : (cs : List ℕ) → (1 ≤ length cs → length cs ≤ 5 → ⊥) → unsigned cs ≡ None
unfolding unsigned both between
out_of_size cs h = go (leb 1 (length cs)) (leb (length cs) 5) refl refl
  where
    go : (low high : Bool) → leb 1 (length cs) ≡ low → leb (length cs) 5 ≡ high
        → cond (both (both low high) (are_digits cs)) (Some (pos (read_on 0 cs))) None ≡ None
    go false high l m = refl
    go true false l m = refl
    go true true l m = absurd (h (leb-true 1 (length cs) l) (leb-true (length cs) 5 m))

pub no_digit : (cs : List ℕ) → 1 ≤ length cs → length cs ≤ 5 → are_digits cs ≡ false → unsigned cs ≡ None
unfolding unsigned both between
no_digit cs l h g = rw (le-leb 1 (length cs) l, le-leb (length cs) 5 h, g)

pub right : (cs : List ℕ) → 1 ≤ length cs → length cs ≤ 5 → are_digits cs ≡ true → unsigned cs ≡ Some (pos (read_on 0 cs))
unfolding unsigned both between
right cs l h g = rw (le-leb 1 (length cs) l, le-leb (length cs) 5 h, g)

-- digits are a natural number, whose negation fits 32 bits where it does
natural : (cs : List ℕ) {v : ℤ} → unsigned cs ≡ Some v → v ≡ pos (nat_abs v)
unfolding unsigned
natural cs {v} h = go (both (between 1 (length cs) 5) (are_digits cs)) (read_on 0 cs) h
  where
    go : (t : Bool) (n : ℕ) → cond t (Some (pos n)) None ≡ Some v → v ≡ pos (nat_abs v)
    go true n e = let same : pos n ≡ v = cc in rw (← same) refl
    go false n e = cc

minus-fits : (v : ℤ) → v ≡ pos (nat_abs v) → SFits w32 v → SFits w32 (pos 0 -ℤ v)
minus-fits (pos zero) is fits = fits
minus-fits (pos (suc n)) is fits = let small = fits.sfits in rw (+ℤ_idl (neg_ℤ (pos (suc n)))) (record { sfits = omega arith })
minus-fits (negsuc n) is fits = cc

pub negation_fits : (cs : List ℕ) (v : ℤ) → Some v ≡ unsigned cs → SFits w32 v → SFits w32 (pos 0 -ℤ to_z w32 (of_z w32 v))
negation_fits cs v is fits = rw (to_z-of_z fits) (minus-fits v (natural cs (sym is)) fits)

pub negation_is : (cs : List ℕ) (v : ℤ) → Some v ≡ unsigned cs → SFits w32 v
    → to_z w32 (of_z w32 (pos 0 -ℤ to_z w32 (of_z w32 v))) ≡ neg_ℤ v
negation_is cs v is fits = rw (to_z-of_z (negation_fits cs v is fits), to_z-of_z fits, +ℤ_idl (neg_ℤ v))

-- the part of a line from a place on
pub part : (at : ℕ) (cs : List ℕ) → take (length cs - at) (drop at cs) ≡ drop at cs
part at cs = take_all (length cs - at) (drop at cs) (omega (arith, length-drop at cs))

-- ---- values

-- a tick and a return are of the same reading
abbrev pub ticked : Option Reading → Option Event
ticked None = None
ticked (Some reading) = Some (Event.Tick reading)

abbrev pub returned : Option Reading → Option Event
returned None = None
returned (Some reading) = Some (Event.Return reading)

pub tick_is : (cs : List ℕ) → tick_of cs ≡ ticked (reading_of cs)
unfolding tick_of reading_of value_of tick
tick_is cs = go (is_only 72 cs) (is_only 76 cs) (number_of cs)
  where
    go : (over under : Bool) (n : Option ℤ)
        → cond over (Some (Event.Tick Reading.Over)) (cond under (Some (Event.Tick Reading.Under)) (tick n))
        ≡ ticked (cond over (Some Reading.Over) (cond under (Some Reading.Under) (value_of n)))
    go true under n = refl
    go false true n = refl
    go false false None = refl
    go false false (Some v) = refl

pub return_is : (cs : List ℕ) → return_of cs ≡ returned (reading_of cs)
unfolding return_of reading_of value_of return
return_is cs = go (is_only 72 cs) (is_only 76 cs) (number_of cs)
  where
    go : (over under : Bool) (n : Option ℤ)
        → cond over (Some (Event.Return Reading.Over)) (cond under (Some (Event.Return Reading.Under)) (return n))
        ≡ returned (cond over (Some Reading.Over) (cond under (Some Reading.Under) (value_of n)))
    go true under n = refl
    go false true n = refl
    go false false None = refl
    go false false (Some v) = refl
