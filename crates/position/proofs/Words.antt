-- The definitions in the document's own words, and laws that shut out wrong controllers by what happens to a position. Assumes nothing.
use Prim.Native.Nat.{ℕ, ◌+◌, ◌*◌, ◌/◌, ◌≤◌, ◌<◌, min}
use mathlib.Core.Path.{◌≡◌, refl}
use mathlib.Core.Bool.{true, false}
use native.Mathlib.Omega.{arith}
use borrow.Author.Tests.{lt-ltb, le-ltb}
use lib.Dec.{eqb}
use lib.IntN.{ℤ}
use Rattle.position.specs.declared.Position.{Position}
use Rattle.position.specs.declared.Here.{Here}
use Rattle.position.specs.Tests.{either, apart}
use Rattle.position.specs.Program.{timed, placed, toward, ramp_of, set_value_of, second_position, next_position}
use Rattle.position.specs.declared.Command.{Command}
use Rattle.position.specs.Command.{is_start, feed_position}

module _ (here : Here) where
  -- where e ≤ T: b moved toward the target by |target − b| × e / T, rounded down
  pub ramp-is : (b : ℤ) (e : ℕ) → either (eqb here.time 0) here.endless ≡ false → e ≤ here.time
      → ramp_of here b e ≡ toward b here.target (apart here.target b * e / here.time)
  unfolding ramp_of
  ramp-is b e holds low = let high : min e here.time ≡ e = omega arith in rw (holds, high)

  module _ (position : Position) where
    -- where the time is over and w < W, w gains 1
    pub second_is : here.endless ≡ false → here.time ≤ position.elapsed → position.waited < here.wait → here.wait ≤ 359940
        → second_position here position ≡ timed position position.elapsed (position.waited + 1)
    unfolding second_position
    second_is holds low high small =
        let held : min (position.waited + 1) 4294967295 ≡ position.waited + 1 = omega arith in
        rw (holds, le-ltb _ _ low, held)

    -- a fed step's base is the set value, and not its target
    pub feed-base : here.endless ≡ false → position.step < here.count
        → feed_position here position ≡ placed position (position.step + 1) position.pass (set_value_of here position)
    unfolding feed_position next_position
    feed-base holds low = rw (holds, lt-ltb _ _ low)

    -- at the last step a pass below the limit is followed by the next one, from step 1 on: no pass is run again
    pub pass-gains : here.count ≤ position.step → position.pass < here.limit
        → next_position here position ≡ placed position 1 (position.pass + 1) (set_value_of here position)
    unfolding next_position
    pass-gains low high = rw (le-ltb _ _ low, lt-ltb _ _ high)

-- of the commands only start is one: a reset clears no credits, and plus, a feed and a select neither
pub start-alone : (q : ℤ)
    → (is_start Command.Start ≡ true) × (is_start (Command.Select q) ≡ false) × (is_start Command.Pause ≡ false) × (is_start Command.Reset ≡ false)
    × (is_start Command.Feed ≡ false) × (is_start Command.Back ≡ false) × (is_start Command.Plus ≡ false) × (is_start Command.Minus ≡ false)
unfolding is_start
start-alone q = (refl, refl, refl, refl, refl, refl, refl, refl)
