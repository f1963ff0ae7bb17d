-- The events counted at a place since the last accepted start in what remains.
-- Assumes nothing.
use Rattle.std.specs.Prelude.{Bool, true, false, cond, ℕ, ◌+◌}
use Rattle.outage.specs.Outage.{RemainingOf, Machine, none, ◌▹◌, plain, back_on, back-off, replay}

-- which events of a machine are counted at a place, of any kind K of places, and which are accepted starts
pub record Counting (M : Machine) (K : Type 0) : Type 0 where
  pub counts : M.S → M.E → K → Bool
  pub starts : M.S → M.E → Bool

-- 1 where a test holds
abbrev pub one : Bool → ℕ
one true = 1
one false = 0

module _ (M : Machine) {K : Type 0} (C : Counting M K) where
  -- whether what remains has an accepted start
  unfoldable pub has-start : RemainingOf M → Bool
  has-start none = false
  has-start (past ▹ plain event) = cond (C.starts (replay M past).0 event) true (has-start past)
  has-start (past ▹ back_on given) = has-start past
  has-start (past ▹ back-off given) = has-start past

  -- how many events of what remains are counted at a place since the last accepted start
  unfoldable pub since : RemainingOf M → K → ℕ
  since none place = 0
  since (past ▹ plain event) place = cond (C.starts (replay M past).0 event) 0 (since past place + one (C.counts (replay M past).0 event place))
  since (past ▹ back_on given) place = since past place
  since (past ▹ back-off given) place = since past place

  -- the same, and 0 where there is no accepted start
  unfoldable pub due : RemainingOf M → K → ℕ
  due past place = cond (has-start past) (since past place) 0
