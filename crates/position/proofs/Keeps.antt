-- What a readable position bounds, and that a tick, a command and a return keep a position readable. Assumes nothing.
use Prim.Native.Nat.{ℕ, ◌+◌, ◌-◌, ◌≤◌, ◌<◌}
use mathlib.Core.Path.{◌≡◌, refl, sym, ap, subst}
use mathlib.Core.Bool.{Bool, true, false, cond}
use mathlib.Core.Logic.{⊎_elim}
use native.Mathlib.Omega.{arith}
use borrow.Author.Tests.{eqb-true, eqb-false, ltb-true, lt-ltb, le-ltb, not-true}
use lib.Dec.{eqb}
use lib.IntN.{ℤ}
use Rattle.setting.specs.declared.Settings.{Settings}
use Rattle.position.specs.declared.Position.{Position}
use Rattle.position.specs.declared.Here.{Here}
use Rattle.position.specs.declared.Command.{Command}
use Rattle.position.specs.Tests.{both, either, within, temperature}
use Rattle.position.specs.Program.{timed, placed, active, set_value_of, second_position, tick_position}
use Rattle.position.specs.Command.{with_mode, takes_of, stop_position, begin_position, start_position, pause_position, feed_position, back_position, plus_moves, plus_position, minus_moves, minus_position}
use Rattle.position.specs.Return.{return_position, times_right, readable_of}
use Rattle.position.proofs.Tests.{choice, chosen, otherwise, both_left, both_right}
use Rattle.position.proofs.Cases.{tick-cases, start-cases, feed-cases, back-cases, pause-cases, return-cases, plus-cases, minus-cases}
use Rattle.position.proofs.Laws.{running-active, active-modes, set-range, second-keeps, plus-keeps, minus-keeps}
use Rattle.position.proofs.Readable as R
use Rattle.position.proofs.Stays as S
use Rattle.std.specs.Prelude.{Option}

-- ---- what a readable position bounds

module _ (settings : Settings) (here : Here) (position : Position) where
  -- outside mode 0 the step is one of the pattern, and the pass is at most the limit
  pub step-bound : (position.mode ≡ 0 → ⊥) → readable_of settings here position ≡ true → (1 ≤ position.step) × (position.step ≤ here.count)
  step-bound mode-known holds = let place = R.placed settings here position mode-known holds in (place.step-low, place.step-high)

  pub pass-bound : (position.mode ≡ 0 → ⊥) → readable_of settings here position ≡ true → (1 ≤ position.pass) × (position.pass ≤ here.limit)
  pass-bound mode-known holds = let place = R.placed settings here position mode-known holds in (place.pass-low, place.pass-high)

  -- in modes 1 and 2 e is at most T
  pub in-time : active position ≡ true → here.endless ≡ false → readable_of settings here position ≡ true → position.elapsed ≤ here.time
  in-time runs known holds = S.most here position known (R.times-right settings here position runs holds)

  -- e ≤ 360,000 and w ≤ 359,940, by the ranges of T and W over an accepted bank
  pub times-bound : here.time ≤ 360000 → here.wait ≤ 359940 → readable_of settings here position ≡ true
      → (position.elapsed ≤ 360000) × (position.waited ≤ 359940)
  times-bound short-time short-wait holds = go (active position) refl
    where
      go : (times : Bool) → active position ≡ times → (position.elapsed ≤ 360000) × (position.waited ≤ 359940)
      go true runs =
          ⊎_elim
          (λ known.
          let bound : cond here.endless 359999 here.time ≤ 360000 =
          choice (λ (found : ℕ). found ≤ 360000) here.endless (λ _. omega arith) (λ _. short-time) in
          (omega (arith, known.in-time), omega (arith, known.no-wait)))
          (λ known. (omega (arith, known.over), omega (arith, known.in-wait)))
          (R.times-cases here position (R.times-right settings here position runs holds))
      go false runs = let found = R.cleared-is position (R.idle-cleared settings here position runs holds) in (omega (arith, found.0), omega (arith, found.1))

-- what a readable position's fields hold at most, over an accepted bank
pub record Bounded (position : Position) : Type 0 where
  pub mode : position.mode ≤ 3
  pub pattern : position.pattern ≤ 15
  pub step : position.step ≤ 99
  pub pass : position.pass ≤ 9999
  pub elapsed : position.elapsed ≤ 360000
  pub waited : position.waited ≤ 359940
  pub base : temperature position.base ≡ true

-- what an accepted bank says at any position
pub record Fair (settings : Settings) (here : Here) : Type 0 where
  pub patterns : settings.patterns ≤ 15
  pub count : here.count ≤ 99
  pub limit : here.limit ≤ 9999
  pub time : here.time ≤ 360000
  pub wait : here.wait ≤ 359940

pub bounded : (settings : Settings) (here : Here) (position : Position) → Fair settings here → readable_of settings here position ≡ true → Bounded position
unfolding temperature within both
bounded settings here position fair holds = go (eqb position.mode 0) refl
  where
    pattern-range : (1 ≤ position.pattern) × (position.pattern ≤ settings.patterns)
    pattern-range = R.readable-pattern settings here position holds

    times : (position.elapsed ≤ 360000) × (position.waited ≤ 359940)
    times = times-bound settings here position fair.time fair.wait holds

    go : (test : Bool) → eqb position.mode 0 ≡ test → Bounded position
    go true test =
        let stopped = R.stopped-is settings here position (eqb-true position.mode 0 test) holds in
        record {
          mode = R.readable-mode settings here position holds;
          pattern = omega (arith, pattern-range, fair.patterns);
          step = omega (arith, ap (λ (at : Position). at.step) stopped);
          pass = omega (arith, ap (λ (at : Position). at.pass) stopped);
          elapsed = times.0;
          waited = times.1;
          base = subst (λ (at : Position). temperature at.base ≡ true) (sym stopped) refl;
        }
    go false test =
        let mode-known = eqb-false position.mode 0 test in
        let place = R.placed settings here position mode-known holds in
        record {
          mode = R.readable-mode settings here position holds;
          pattern = omega (arith, pattern-range, fair.patterns);
          step = omega (arith, place.step-high, fair.count);
          pass = omega (arith, place.pass-high, fair.limit);
          elapsed = times.0;
          waited = times.1;
          base = R.base-range settings here position mode-known holds;
        }

-- ---- a readable position stays readable

-- pause, feed, back, plus and minus are taken in modes 1 and 2
pub record Taken (position : Position) : Type 0 where
  pub pause : takes_of Command.Pause position.mode ≡ active position
  pub feed : takes_of Command.Feed position.mode ≡ active position
  pub back : takes_of Command.Back position.mode ≡ active position
  pub plus : takes_of Command.Plus position.mode ≡ active position
  pub minus : takes_of Command.Minus position.mode ≡ active position

pub taken-active : (position : Position) → Taken position
unfolding takes_of active
taken-active position = record { pause = refl; feed = refl; back = refl; plus = refl; minus = refl }

-- what is said there of the position `other` that a move makes of `position`: of the same pattern, and the same where step and pass are the same
pub record Along (here there : Here) (position other : Position) : Type 0 where
  pub count : there.count ≡ here.count
  pub limit : there.limit ≡ here.limit
  pub same : other.step ≡ position.step → other.pass ≡ position.pass → there ≡ here

module _ (settings : Settings) (here there : Here) (position : Position) (holds : readable_of settings here position ≡ true) where
  -- readable after a move
  abbrev Stays : Position → Type 0
  Stays other = Along here there position other → readable_of settings there other ≡ true

  -- a position with the same step and pass, readable here, is readable there
  stay : (other : Position) → other.step ≡ position.step → other.pass ≡ position.pass → readable_of settings here other ≡ true → Stays other
  stay other step pass readable along = subst (λ (at : Here). readable_of settings at other ≡ true) (sym (along.same step pass)) readable

  pub tick-stays : (whole : Option ℤ) → temperature here.target ≡ true → Stays (tick_position here whole position)
  unfolding active
  tick-stays whole aimed =
      let after = second_position here position in
      let kept = second-keeps here position in
      tick-cases Stays here position whole
      (λ _. stay position refl refl holds)
      (λ running _ along.
      let runs = running-active position running in
      let not_stopped = (active-modes position runs).0 in
      S.next-readable settings here there after along.count along.limit (subst (λ (moved : Position). active moved ≡ true) (sym kept) runs)
      (subst (λ (moved : Position). R.Placed settings here moved.pattern moved.step moved.pass) (sym kept) (R.placed settings here position not_stopped holds))
      (subst (λ (moved : Position). temperature moved.base ≡ true) (sym kept) (R.base-range settings here position not_stopped holds)) aimed)
      (λ running not_left.
      let runs = running-active position running in
      stay after (ap (λ (moved : Position). moved.step) kept) (ap (λ (moved : Position). moved.pass) kept)
      (S.kept-readable settings here position runs holds after kept
      (S.second-times here whole position (R.times-right settings here position runs holds) not_left)))

  pub return-stays : (whole : Option ℤ) → Stays (return_position settings here whole position)
  unfolding active either
  return-stays whole =
      let pattern = R.readable-pattern settings here position holds in
      return-cases Stays here position settings whole
      (stay position refl refl holds)
      (λ _ _. S.stopped settings there position.pattern pattern.0 pattern.1)
      (λ runs. stay (with_mode position 2) refl refl (S.mode-readable settings here position runs holds 2 refl))

  -- a start, at whichever step it begins, or at its end; `first` is said of the same pattern
  pub start-stays : (first : Here) (b : ℤ) → first.count ≡ there.count → 1 ≤ there.count → 1 ≤ there.limit → temperature b ≡ true
      → readable_of settings there (start_position settings first position b) ≡ true
  unfolding active either
  start-stays first b same some-step some-pass based =
      start-cases (λ (other : Position). readable_of settings there other ≡ true) first position settings b
      (S.fresh settings there (begin_position position 1 b) refl refl refl (begun 1 (omega arith) some-step) based)
      (λ more. S.fresh settings there (begin_position position 2 b) refl refl refl (begun 2 (omega arith) (omega arith)) based)
      (S.ended settings there (begin_position position 1 b) (begun 1 (omega arith) some-step))
    where
      begun : (k : ℕ) → 1 ≤ k → k ≤ there.count → R.Placed settings there position.pattern k 1
      begun k low high =
          let pattern = R.readable-pattern settings here position holds in
          record {
            pattern-low = pattern.0;
            pattern-high = pattern.1;
            step-low = low;
            step-high = high;
            pass-low = omega arith;
            pass-high = some-pass;
          }

  -- the commands that modes 1 and 2 take
  module _ (runs : active position ≡ true) where
    pub pause-stays : Stays (pause_position position)
    unfolding active either
    pause-stays =
        pause-cases Stays here position
        (stay (with_mode position 2) refl refl (S.mode-readable settings here position runs holds 2 refl))
        (stay (with_mode position 1) refl refl (S.mode-readable settings here position runs holds 1 refl))

    pub feed-stays : temperature here.target ≡ true → Stays (feed_position here position)
    feed-stays aimed along =
        let not_stopped = (active-modes position runs).0 in
        let here-placed = R.placed settings here position not_stopped holds in
        feed-cases (λ (moved : Position). readable_of settings there moved ≡ true) here position
        (S.ended settings there position
        (S.elsewhere here-placed position.step position.pass
        here-placed.step-low (omega (arith, along.count, here-placed.step-high))
        here-placed.pass-low (omega (arith, along.limit, here-placed.pass-high))))
        (S.next-readable settings here there position along.count along.limit runs here-placed (R.base-range settings here position not_stopped holds) aimed)

    pub back-stays : temperature here.target ≡ true → Stays (back_position here position)
    unfolding active
    back-stays aimed =
        let not_stopped = (active-modes position runs).0 in
        let here-placed = R.placed settings here position not_stopped holds in
        let based = R.base-range settings here position not_stopped holds in
        back-cases Stays here position
        (λ higher along. S.fresh settings there (placed position (position.step - 1) position.pass (set_value_of here position)) runs refl refl
        (S.elsewhere here-placed (position.step - 1) position.pass (omega arith) (omega (arith, along.count, here-placed.step-high)) here-placed.pass-low
        (omega (arith, along.limit, here-placed.pass-high)))
        (set-range here position aimed based))
        (stay (timed position 0 0) refl refl (S.fresh settings here (timed position 0 0) runs refl refl here-placed based))

    -- a move that keeps all but the times, and has them right
    retimed : (other : Position) → other ≡ timed position other.elapsed other.waited → times_right here other ≡ true → Stays other
    retimed other kept times =
        stay other (ap (λ (moved : Position). moved.step) kept) (ap (λ (moved : Position). moved.pass) kept)
        (S.kept-readable settings here position runs holds other kept times)

    pub plus-stays : plus_moves here position ≡ true → Stays (plus_position here position)
    unfolding plus_moves
    plus-stays moves =
        let ends = not-true here.endless (both_left _ _ moves) in
        let times = R.times-right settings here position runs holds in
        retimed (plus_position here position) (plus-keeps here position)
        (plus-cases (λ (moved : Position). times_right here moved ≡ true) here position
        (λ in-time.
        let room : position.elapsed + 60 < here.time = ltb-true _ _ (chosen _ _ _ (lt-ltb _ _ in-time) (both_right _ _ moves)) in
        S.early here (timed position (position.elapsed + 60) position.waited) ends (S.unwaited here position ends times in-time) (omega arith))
        (λ over.
        let room : position.waited + 60 < here.wait = ltb-true _ _ (otherwise _ _ _ (le-ltb _ _ over) (both_right _ _ moves)) in
        R.times-late here (timed position position.elapsed (position.waited + 60))
        (record { ends = ends; over = omega (arith, S.most here position ends times); waits = omega arith; in-wait = room })))

    pub minus-stays : minus_moves here position ≡ true → Stays (minus_position here position)
    unfolding minus_moves
    minus-stays moves =
        let ends = not-true here.endless (both_left _ _ moves) in
        let times = R.times-right settings here position runs holds in
        retimed (minus_position here position) (minus-keeps here position)
        (minus-cases (λ (moved : Position). times_right here moved ≡ true) here position
        (λ in-time. S.early here (timed position (position.elapsed - 60) position.waited) ends (S.unwaited here position ends times in-time) (omega arith))
        (λ over long. S.less-waited here position ends times over long)
        (λ over short. S.early here (timed position (here.time - 60) 0) ends refl (omega arith)))

-- to stopped, at any pattern of the bank
pub stop-stays : (settings : Settings) (there : Here) (p : ℕ) → 1 ≤ p → p ≤ settings.patterns → readable_of settings there (stop_position p) ≡ true
stop-stays = S.stopped
