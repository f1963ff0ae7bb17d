-- Two tests, one after the other.
-- Assumes nothing.
use mathlib.Core.Path.{◌≡◌, refl}
use mathlib.Core.Bool.{Bool, true, false, false≢true, ◌&&◌}
use Rattle.limits.specs.Range.{both}

-- the first holds and the second decides, or it ends the chain
pub on : {a other : Bool} → a ≡ true → both a other ≡ other
unfolding both
on same = rw same

pub off : {a : Bool} (other : Bool) → a ≡ false → both a other ≡ false
unfolding both
off other same = rw same

-- the code's `&` is the definitions' `both`
pub both-and : (a other : Bool) → both a other ≡ (a && other)
unfolding both
both-and true other = refl
both-and false other = refl

-- both tests of a pair that holds hold
pub both_left : (a other : Bool) → both a other ≡ true → a ≡ true
unfolding both
both_left true other same = refl
both_left false other same = absurd (false≢true same)

pub both_right : (a other : Bool) → both a other ≡ true → other ≡ true
unfolding both
both_right true other same = same
both_right false other same = absurd (false≢true same)
