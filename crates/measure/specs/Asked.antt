-- What the functions of `measure` ask.
-- Assumes nothing.
use Rattle.std.specs.Prelude.{◌≡◌, true, false, pos, Float}
use Rattle.std.specs.Float.{fin}
use Rattle.std.specs.Float.Ieee.{lt}
use Rattle.measure.specs.Filter.{within}

-- a number above 0 that lies within the range
pub record AboveNought (x : Float) : Type 0 where
  pub in-range : within x ≡ true
  pub above : lt (fin false 0 (pos 0)) x ≡ true
