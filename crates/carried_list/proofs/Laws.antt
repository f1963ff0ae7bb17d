-- What a list of events leaves where a buffer has not its length, or a setting is out of range.
-- Assumes nothing.
use Prim.Native.Nat.{ℕ}
use mathlib.Core.Path.{◌≡◌, refl}
use mathlib.Core.Bool.{Bool, true, false, false≢true}
use mathlib.Core.List.{List}
use Rattle.position.specs.Tests.{both}
use Rattle.position.proofs.Tests.{both_true, both_false}
use Rattle.alarm.specs.Alarm.{all_in_range}
use Rattle.plain.specs.declared.Config.{Config}
use Rattle.plain.specs.Record.{sized}
use Rattle.calls.specs.Carried.{roomy}
use Rattle.calls.specs.Calls.{fitting}

-- where the buffers have their lengths, only a setting can be wrong
pub wrong-setting : (config : Config) (store state : List ℕ) → fitting config store state ≡ false → roomy state ≡ true → sized store ≡ true
    → all_in_range config.alarms ≡ false
unfolding fitting
wrong-setting config store state misfit room whole = both_false _ _ (both_true _ _ room whole) misfit

-- all three
pub fits-all : (config : Config) (store state : List ℕ) → fitting config store state ≡ true
    → (roomy state ≡ true) × (sized store ≡ true) × (all_in_range config.alarms ≡ true)
unfolding fitting both
fits-all config store state = go (roomy state) (sized store) (all_in_range config.alarms)
  where
    go : (room whole right : Bool) → both (both room whole) right ≡ true → (room ≡ true) × (whole ≡ true) × (right ≡ true)
    go true true right holds = (refl, refl, holds)
    go true false right holds = absurd (false≢true holds)
    go false whole right holds = absurd (false≢true holds)
