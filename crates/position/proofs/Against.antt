-- Laws that shut out wrong controllers by what happens to a position. Each says in its comment which one. They rest on the definitions alone.
-- The set value and next have theirs in `Words` too, and what happens to credits and the record has its own in `plain`.
-- Assumes nothing.
use Prim.Native.Nat.{ℕ, ◌+◌, ◌-◌, ◌/◌, ◌≤◌, ◌<◌}
use mathlib.Core.Path.{◌≡◌, refl}
use mathlib.Core.Bool.{Bool, true, false, not}
use mathlib.Core.List.{List, [], ◌∷◌, map}
use native.Mathlib.Omega.{arith}
use borrow.Author.Tests.{eq-eqb, ne_eqb, lt-ltb, le-ltb, le-leb, lt-leb}
use lib.Dec.{eqb, leb, ltb}
use lib.IntN.{ℤ, pos}
use lib.Signed.{le_z}
use Rattle.setting.specs.declared.Settings.{Settings}
use Rattle.bank.specs.declared.Place.{Place}
use Rattle.position.specs.declared.Position.{Position}
use Rattle.position.specs.declared.Here.{Here}
use Rattle.position.specs.declared.Command.{Command}
use Rattle.position.specs.Tests.{both, either, apart, numbered}
use Rattle.position.specs.Program.{timed, placed, limit_of, here_by, here_of, active, toward, ramp_of, set_value_of, near_of, past_of, in_zone_of, second_position, leaves_of, end_position, next_position, tick_position, signal_of}
use Rattle.position.specs.Command.{with_mode, takes_of, stop_position, start_base, value_of, pause_position, feed_position, back_position, plus_moves, plus_position, minus_moves, minus_position}
use Rattle.position.specs.Return.{goes_on, return_position, times_right}
use Rattle.position.proofs.Tests.{both_true, either-right}
use Rattle.std.specs.Prelude.{Option, None, Some}

-- both fail by the second
never : (test other : Bool) → other ≡ false → both test other ≡ false
unfolding both
never true other holds = holds
never false other holds = refl

-- ---- what a bank says

-- not one pass where runs is 0: then there are 9,999
pub no-runs : limit_of 0 ≡ 9999
unfolding limit_of
no-runs = refl

-- 6,000 minutes are endless, and 5,999 are not
pub endless-is : (settings : Settings) (place : Place) → place.step.minutes ≡ 6000 → (here_of settings place).endless ≡ true
unfolding here_of here_by
endless-is settings place holds = eq-eqb _ _ holds

pub not-endless : (settings : Settings) (place : Place) → place.step.minutes ≤ 5999 → (here_of settings place).endless ≡ false
unfolding here_of here_by
not-endless settings place holds = ne_eqb place.step.minutes 6000 (λ same. omega arith)

-- ---- the set value

-- it moves toward the target, up and down, and not away from it
pub moves-up : toward (pos 200) (pos 600) 3 ≡ pos 203
unfolding toward
moves-up = refl

pub moves-down : toward (pos 600) (pos 200) 6 ≡ pos 594
unfolding toward
moves-down = refl

module _ (here : Here) (position : Position) where
  -- a pause does not let it fall to 0: it shows what it showed running
  pub paused-shows : set_value_of here (with_mode position 2) ≡ set_value_of here (with_mode position 1)
  unfolding set_value_of active either
  paused-shows = refl

  -- a stopped or ended run shows 0, and no target
  pub idle-shows : (set_value_of here (with_mode position 0) ≡ pos 0) × (set_value_of here (with_mode position 3) ≡ pos 0)
  unfolding set_value_of active either
  idle-shows = (refl, refl)

  -- an endless step does not ramp
  pub endless-shows : here.endless ≡ true → 0 < here.time → (b : ℤ) (e : ℕ) → ramp_of here b e ≡ here.target
  unfolding ramp_of either
  endless-shows holds before b e = rw (holds, ne_eqb here.time 0 (λ same. omega arith))

-- ---- waiting

module _ (here : Here) (b : ℤ) where
  -- the band is not turned round: what is within the zone is in it, its ends too, and what is outside is not
  pub zone-holds : (value : ℤ) → 0 < here.zone → apart value here.target ≤ here.zone → in_zone_of here b (Some value) ≡ true
  unfolding in_zone_of near_of
  zone-holds value some near = rw (ne_eqb here.zone 0 (λ same. omega arith)) (le-leb _ _ near)

  pub zone-ends : (value : ℤ) → 0 < here.zone → here.zone < apart value here.target → in_zone_of here b (Some value) ≡ false
  unfolding in_zone_of near_of
  zone-ends value some far = rw (ne_eqb here.zone 0 (λ same. omega arith)) (lt-leb _ _ far)

  -- zone 0 is judged from b: above counts if b ≤ target, below otherwise
  pub past-above : (value : ℤ) → here.zone ≡ 0 → le_z b here.target ≡ true → in_zone_of here b (Some value) ≡ le_z here.target value
  unfolding in_zone_of past_of
  past-above value none up = rw (eq-eqb here.zone 0 none, up)

  pub past-below : (value : ℤ) → here.zone ≡ 0 → le_z b here.target ≡ false → in_zone_of here b (Some value) ≡ le_z value here.target
  unfolding in_zone_of past_of
  past-below value none down = rw (eq-eqb here.zone 0 none, down)

module _ (here : Here) (position : Position) where
  -- the time of an endless step does not run past 359,999
  pub endless-held : here.endless ≡ true → (second_position here position).elapsed ≤ 359999
  unfolding second_position
  endless-held holds = rw holds (omega arith)

  -- the step's time passes before its wait
  pub time-first : here.endless ≡ false → position.elapsed < here.time
      → second_position here position ≡ timed position (position.elapsed + 1) position.waited
  unfolding second_position
  time-first holds before = rw (holds, lt-ltb _ _ before)

  module _ (whole : Option ℤ) where
    -- a step is not left before its time is over
    pub not-early : position.elapsed < here.time → leaves_of here whole position ≡ false
    unfolding leaves_of both
    not-early before = rw (ne_eqb position.elapsed here.time (λ same. omega arith)) (never (not here.endless) _ refl)

    module _ (ends : here.endless ≡ false) (over : position.elapsed ≡ here.time) where
      -- without a wait number it is left then, so that 0 minutes take one tick
      pub no-wait : here.number ≡ 0 → leaves_of here whole position ≡ true
      unfolding leaves_of both either
      no-wait none = rw (ends, eq-eqb position.elapsed here.time over, eq-eqb here.number 0 none)

      -- a wait has an end: whatever is measured, the step is left at w ≥ W
      pub wait-ends : here.wait ≤ position.waited → leaves_of here whole position ≡ true
      unfolding leaves_of both
      wait-ends enough =
          rw (eq-eqb position.elapsed here.time over, ends) (either-right _ _ (either-right _ _ (le-leb _ _ enough)))

      -- and it is not cut short: out of zone and with w < W the step goes on
      pub wait-lasts : 0 < here.number → in_zone_of here position.base whole ≡ false → position.waited < here.wait
          → leaves_of here whole position ≡ false
      unfolding leaves_of both either
      wait-lasts some outside few =
          rw (outside, ends, eq-eqb position.elapsed here.time over, ne_eqb here.number 0 (λ same. omega arith)) (lt-leb _ _ few)

  -- ---- next and a tick

  -- the last pass ends the run
  pub last-pass : here.count ≤ position.step → here.limit ≤ position.pass → next_position here position ≡ end_position position
  unfolding next_position
  last-pass before high = rw (le-ltb _ _ before, le-ltb _ _ high)

  -- no time passes in a paused run
  pub paused-rests : (whole : Option ℤ) → position.mode ≡ 2 → tick_position here whole position ≡ position
  unfolding tick_position active either
  paused-rests whole holds = rw holds

-- ---- signals

module _ (settings : Settings) (position : Position) (run : active position ≡ true) where
  -- by minutes and not by seconds: on from the on minute, off at the off minute
  pub signal-on : (j : ℕ) → numbered settings.on j ≤ position.elapsed / 60 → position.elapsed / 60 < numbered settings.off j
      → signal_of settings position j ≡ true
  unfolding signal_of both
  signal-on j begun few = rw run (either-right _ _ (both_true _ _ (le-leb _ _ begun) (lt-ltb _ _ few)))

  pub signal-off : (j : ℕ) → j ≤ 4 → numbered settings.off j ≤ position.elapsed / 60 → signal_of settings position j ≡ false
  unfolding signal_of both either
  signal-off j low past = rw (run, ne_eqb j 5 (λ same. omega arith)) (never (leb (numbered settings.on j) (position.elapsed / 60)) _ (le-ltb _ _ past))

  -- 5 is on, whatever the minute
  pub signal-five : signal_of settings position 5 ≡ true
  unfolding signal_of both either
  signal-five = rw run

-- ---- commands

-- the modes 0 to 3 in which a command is taken
abbrev modes : Command → List Bool
modes command = map (takes_of command) (0 ∷ 1 ∷ 2 ∷ 3 ∷ [])

-- no running step is selected away or started again, and no stopped one is reset, paused, fed, set back, or given time
pub taken : (q : ℤ)
    → (modes (Command.Select q) ≡ true ∷ false ∷ false ∷ true ∷ []) × (modes Command.Start ≡ true ∷ false ∷ false ∷ true ∷ [])
    × (modes Command.Pause ≡ false ∷ true ∷ true ∷ false ∷ []) × (modes Command.Reset ≡ false ∷ true ∷ true ∷ true ∷ [])
    × (modes Command.Feed ≡ false ∷ true ∷ true ∷ false ∷ []) × (modes Command.Back ≡ false ∷ true ∷ true ∷ false ∷ [])
    × (modes Command.Plus ≡ false ∷ true ∷ true ∷ false ∷ []) × (modes Command.Minus ≡ false ∷ true ∷ true ∷ false ∷ [])
unfolding takes_of either
taken q = (refl, refl, refl, refl, refl, refl, refl, refl)

-- the start choice is not turned round: 0 from the measured whole value, 1 from the start value
pub from-measured : (settings : Settings) (value : ℤ) → settings.start ≡ 0 → start_base settings (Some value) ≡ value
unfolding start_base value_of
from-measured settings value holds = rw (eq-eqb settings.start 0 holds)

pub from-start-value : (settings : Settings) (whole : Option ℤ) → settings.start ≡ 1 → start_base settings whole ≡ settings.initial
unfolding start_base
from-start-value settings whole holds = rw (ne_eqb settings.start 0 (λ same. omega arith))

-- a pause does not end the pass: it goes on where it stood
pub pause-swaps : (position : Position)
    → (pause_position (with_mode position 1) ≡ with_mode position 2) × (pause_position (with_mode position 2) ≡ with_mode position 1)
unfolding pause_position
pause-swaps position = (refl, refl)

module _ (here : Here) (position : Position) where
  -- a fed endless step ends the run, and is followed by no other
  pub feed-ends : here.endless ≡ true → feed_position here position ≡ end_position position
  unfolding feed_position
  feed-ends holds = rw holds

  -- back keeps the pass, and b becomes the set value and not a target
  pub back-base : 1 < position.step → back_position here position ≡ placed position (position.step - 1) position.pass (set_value_of here position)
  unfolding back_position
  back-base before = rw (lt-ltb _ _ before)

  -- and at step 1 it keeps b
  pub back-first : position.step ≡ 1 → back_position here position ≡ timed position 0 0
  unfolding back_position
  back-first holds = rw (le-ltb 1 position.step (omega arith))

  -- plus and minus never move an endless step
  pub endless-stuck : here.endless ≡ true → (plus_moves here position ≡ false) × (minus_moves here position ≡ false)
  unfolding plus_moves minus_moves both
  endless-stuck holds = (rw holds, rw holds)

  module _ (ends : here.endless ≡ false) where
    -- plus does not reach the end of a step: e + 60 must be below T
    pub plus-short : position.elapsed < here.time → here.time ≤ position.elapsed + 60 → plus_moves here position ≡ false
    unfolding plus_moves both
    plus-short before high = rw (ends, lt-ltb _ _ before) (le-ltb _ _ high)

    -- nor the end of a wait
    pub plus-waits : here.time ≤ position.elapsed → here.wait ≤ position.waited + 60 → plus_moves here position ≡ false
    unfolding plus_moves both
    plus-waits before high = rw (ends, le-ltb _ _ before) (le-ltb _ _ high)

    -- minus does not go below 0
    pub minus-short : position.elapsed < here.time → position.elapsed < 60 → minus_moves here position ≡ false
    unfolding minus_moves both
    minus-short before high = rw (ends, lt-ltb _ _ before) (lt-leb 60 _ high)

  -- plus is a minute, and so is minus
  pub plus-minute : position.elapsed < here.time → plus_position here position ≡ timed position (position.elapsed + 60) position.waited
  unfolding plus_position
  plus-minute before = rw (lt-ltb _ _ before)

  -- minus at the end of a step that has waited less than a minute goes back into its time, and the wait is gone
  pub minus-back : here.time ≤ position.elapsed → position.waited < 60 → minus_position here position ≡ timed position (here.time - 60) 0
  unfolding minus_position
  minus-back before high = rw (le-ltb _ _ before, lt-leb 60 _ high)

-- ---- return

module _ (settings : Settings) (here : Here) (position : Position) (whole : Option ℤ) where
  -- no return starts a run that was stopped or ended
  pub idle-stays : active position ≡ false → return_position settings here whole position ≡ position
  unfolding return_position
  idle-stays holds = rw holds

  -- choice 0 stops
  pub return-stops : active position ≡ true → settings.outage ≡ 0 → return_position settings here whole position ≡ stop_position position.pattern
  unfolding return_position
  return-stops holds choice = rw (holds, choice)

  -- choice 1 holds: nothing goes on by itself
  pub return-holds : position.mode ≡ 1 → settings.outage ≡ 1 → return_position settings here whole position ≡ with_mode position 2
  unfolding return_position active both either
  return-holds holds choice = rw (holds, choice)

  -- choice 2 goes on running within the width
  pub return-goes-on : position.mode ≡ 1 → settings.outage ≡ 2 → goes_on settings here whole position ≡ true
      → return_position settings here whole position ≡ position
  unfolding return_position active both either
  return-goes-on holds choice near = rw (near, holds, choice)

  -- and leaves a paused run paused
  pub return-stays-paused : position.mode ≡ 2 → settings.outage ≡ 2 → return_position settings here whole position ≡ with_mode position 2
  unfolding return_position active both either
  return-stays-paused holds choice = rw (holds, choice)

module _ (settings : Settings) (here : Here) (position : Position) where
  -- the width has both its ends, and over, under and no reading are outside it
  pub width-holds : (value : ℤ) → apart value (set_value_of here position) ≤ settings.width → goes_on settings here (Some value) position ≡ true
  unfolding goes_on near_of
  width-holds value near = either-right _ _ (le-leb _ _ near)

  pub width-ends : (value : ℤ) → 0 < settings.width → settings.width < apart value (set_value_of here position)
      → goes_on settings here (Some value) position ≡ false
  unfolding goes_on near_of either
  width-ends value some far = rw (ne_eqb settings.width 0 (λ same. omega arith)) (lt-leb _ _ far)

  pub over-waits : 0 < settings.width → goes_on settings here None position ≡ false
  unfolding goes_on near_of either
  over-waits some = rw (ne_eqb settings.width 0 (λ same. omega arith))

-- ---- readable

-- a wait that is over is not readable; a pass above the limit and a step past the last are not by `Readable.placed`
pub wait-over : (here : Here) (position : Position) → 0 < position.waited → here.wait ≤ position.waited → times_right here position ≡ false
unfolding times_right both either
wait-over here position some enough =
    rw (ne_eqb position.waited 0 (λ same. omega arith))
    (never (not here.endless) _ (never (eqb position.elapsed here.time) _ (never (ltb 0 position.waited) _ (le-ltb _ _ enough))))
