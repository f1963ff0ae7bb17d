-- Events that do nothing, lists without them, and machines that end alike.
-- Assumes nothing.
use Rattle.std.specs.Prelude.{◌≡◌, Bool, false, cond, List, [], ◌∷◌}
use Rattle.outage.specs.Outage.{Listed, other, cut, back, Machine, Held}

-- a list without what a test holds of
unfoldable pub except : {A : Type 0} → (A → Bool) → List A → List A
except test [] = []
except test (item ∷ rest) = cond (test item) (except test rest) (item ∷ except test rest)

-- which events and which returns do nothing; whether one does not depend on the state
pub record Locking (M : Machine) : Type 0 where
  pub locked : M.E → Bool
  pub vain : M.Q → Bool

-- two machines alike in power, state and record; their last answers may differ
pub record Alike (M : Machine) (this that : Held M) : Type 0 where
  pub power : this.power ≡ that.power
  pub rec : this.rec ≡ that.rec

module _ (M : Machine) (locking : Locking M) where
  -- an event that does nothing; a cut is none
  unfoldable pub inert : Listed M.E M.Q → Bool
  inert (other event) = locking.locked event
  inert cut = false
  inert (back given) = locking.vain given
