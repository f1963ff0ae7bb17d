-- Credits of a machine with a record: each place's credit is the number of events counted there since the last start in what remains,
-- held at a most.
-- Assumes nothing.
use mathlib.Core.Path.{◌≡◌, refl, ap, ◌∙◌}
use mathlib.Core.Bool.{Bool, true, false, cond, true≢false}
use Prim.Native.Nat.{ℕ, ◌+◌, min}
use native.Mathlib.Omega.{arith}
use Rattle.outage.specs.Outage.{RemainingOf, Machine, none, ◌▹◌, plain, back_on, back-off, replay}
use Rattle.outage.specs.Credit.{Counting, one, has-start, since, due}

-- the laws of credits: only a start clears them, a counted event adds one, and a state that was never started counts nothing. They are
-- asked of states of a shape that every event keeps
pub record Credited (M : Machine) {K : Type 0} (C : Counting M K) : Type 1 where
  pub most : ℕ
  pub credit : M.S → K → ℕ
  pub Shape : M.S → Type 0
  pub shape-fresh : Shape M.fresh
  pub shape-run : (state : M.S) (event : M.E) → Shape state → Shape (M.run state event).0
  pub shape-return : (state : M.S) (given : M.Q) → Shape state → Shape (M.return state given).0
  -- nothing has been started
  pub Idle : M.S → Type 0
  pub fresh-idle : Idle M.fresh
  pub fresh-credit : (place : K) → credit M.fresh place ≡ 0
  pub idle-run : (state : M.S) (event : M.E) → C.starts state event ≡ false → Idle state → Idle (M.run state event).0
  pub idle-return : (state : M.S) (given : M.Q) → Idle state → Idle (M.return state given).0
  pub idle-counts : (state : M.S) (event : M.E) (place : K) → Idle state → C.counts state event place ≡ false
  pub started : (state : M.S) (event : M.E) (place : K) → Shape state → C.starts state event ≡ true → credit (M.run state event).0 place ≡ 0
  pub ran : (state : M.S) (event : M.E) (place : K) → Shape state → C.starts state event ≡ false
      → credit (M.run state event).0 place ≡ min (credit state place + one (C.counts state event place)) most
  pub returned : (state : M.S) (given : M.Q) (place : K) → credit (M.return state given).0 place ≡ credit state place

module _ (M : Machine) {K : Type 0} (C : Counting M K) (D : Credited M C) where
  shaped : (past : RemainingOf M) → D.Shape (replay M past).0
  unfolding replay
  shaped none = D.shape-fresh
  shaped (past ▹ plain event) = D.shape-run (replay M past).0 event (shaped past)
  shaped (past ▹ back_on given) = shaped past
  shaped (past ▹ back-off given) = D.shape-return (replay M past).0 given (shaped past)

  held : (number bound more : ℕ) → min (min number bound + more) bound ≡ min (number + more) bound
  held number bound more = omega arith

  no-credit : (bound : ℕ) → 0 ≡ min 0 bound
  no-credit bound = omega arith

  -- without a start nothing was counted
  idle : (past : RemainingOf M) → has-start M C past ≡ false → D.Idle (replay M past).0
  unfolding has-start replay
  idle none holds = D.fresh-idle
  idle (past ▹ plain event) holds = go (C.starts (replay M past).0 event) refl holds (idle past)
    where
      go : (test : Bool) → C.starts (replay M past).0 event ≡ test → cond test true (has-start M C past) ≡ false
          → (has-start M C past ≡ false → D.Idle (replay M past).0) → D.Idle (M.run (replay M past).0 event).0
      go true begun holds before = absurd (true≢false holds)
      go false begun holds before = D.idle-run (replay M past).0 event begun (before holds)
  idle (past ▹ back_on given) holds = idle past holds
  idle (past ▹ back-off given) holds = D.idle-return (replay M past).0 given (idle past holds)

  counted : (past : RemainingOf M) (place : K) → D.credit (replay M past).0 place ≡ min (since M C past place) D.most
  unfolding since replay
  counted none place = D.fresh-credit place ∙ no-credit D.most
  counted (past ▹ plain event) place = go (C.starts (replay M past).0 event) refl (shaped past) (counted past place)
    where
      go : (test : Bool) → C.starts (replay M past).0 event ≡ test → D.Shape (replay M past).0 → D.credit (replay M past).0 place ≡ min (since M C past place) D.most
          → D.credit (M.run (replay M past).0 event).0 place ≡ min (cond test 0 (since M C past place + one (C.counts (replay M past).0 event place))) D.most
      go true begun shape holds = D.started (replay M past).0 event place shape begun ∙ no-credit D.most
      go false begun shape holds =
          D.ran (replay M past).0 event place shape begun
          ∙ ap (λ (more : ℕ). min (more + one (C.counts (replay M past).0 event place)) D.most) holds
          ∙ held (since M C past place) D.most (one (C.counts (replay M past).0 event place))
  counted (past ▹ back_on given) place = counted past place
  counted (past ▹ back-off given) place = D.returned (replay M past).0 given place ∙ counted past place

  none-since : (past : RemainingOf M) (place : K) → has-start M C past ≡ false → since M C past place ≡ 0
  unfolding since has-start
  none-since none place holds = refl
  none-since (past ▹ plain event) place holds = go (C.starts (replay M past).0 event) refl holds (none-since past place) (idle past)
    where
      go : (test : Bool) → C.starts (replay M past).0 event ≡ test → cond test true (has-start M C past) ≡ false
          → (has-start M C past ≡ false → since M C past place ≡ 0) → (has-start M C past ≡ false → D.Idle (replay M past).0)
          → cond test 0 (since M C past place + one (C.counts (replay M past).0 event place)) ≡ 0
      go true begun holds before rests = refl
      go false begun holds before rests =
          ap (λ (more : ℕ). more + one (C.counts (replay M past).0 event place)) (before holds)
          ∙ ap (λ (test : Bool). 0 + one test) (D.idle-counts (replay M past).0 event place (rests holds))
  none-since (past ▹ back_on given) place holds = none-since past place holds
  none-since (past ▹ back-off given) place holds = none-since past place holds

  -- Each credit is what is due, held at the most.
  pub credits : (past : RemainingOf M) (place : K) → D.credit (replay M past).0 place ≡ min (due M C past place) D.most
  unfolding due
  credits past place = go (has-start M C past) refl
    where
      go : (test : Bool) → has-start M C past ≡ test → D.credit (replay M past).0 place ≡ min (cond test (since M C past place) 0) D.most
      go true holds = counted past place
      go false holds = counted past place ∙ ap (λ (more : ℕ). min more D.most) (none-since past place holds)
