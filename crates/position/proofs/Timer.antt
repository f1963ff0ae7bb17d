-- The timer before the first ramp: where it is, what it shows, and when it is left; where a run begins; and that all else is as without it.
-- Assumes nothing.
use Prim.Native.Nat.{ℕ, ◌+◌, ◌*◌, ◌≤◌, ◌<◌}
use mathlib.Core.Path.{◌≡◌, refl, sym, ap, ◌∙◌}
use mathlib.Core.Bool.{Bool, true, false, cond}
use mathlib.Core.List.{List}
use mathlib.Core.Logic.{⊎_elim}
use native.Mathlib.Omega.{arith}
use borrow.Author.Tests.{eq-eqb, eqb-true, ne_eqb, lt-ltb, le-ltb}
use lib.Dec.{eqb}
use lib.IntN.{ℤ, nat_abs, ◌+ℤ◌, ◌-ℤ◌, +ℤ_invr, -ℤ-+ℤ_cancel, +ℤ_idl}
use Rattle.setting.specs.declared.Settings.{Settings}
use Rattle.bank.specs.declared.Place.{Place}
use Rattle.bank.specs.View.{place_of}
use Rattle.position.specs.declared.Position.{Position}
use Rattle.position.specs.declared.Here.{Here}
use Rattle.position.specs.Tests.{either, all, zero_z, same_z, numbered}
use Rattle.position.specs.Program.{placed, here_by, here_of, is_timer, here_at, said_at, active, set_value_of, leaves_of, end_position, next_position}
use Rattle.position.specs.Command.{begin_position, start_position, plus_moves}
use Rattle.position.specs.Return.{readable_of}
use Rattle.position.proofs.Tests.{both_left, both_right, both_true}
use Rattle.position.proofs.Laws.{set-timer}
use Rattle.position.proofs.Readable as R
use Rattle.position.proofs.Against.{no-wait, plus-waits}
use Rattle.std.specs.Prelude.{Option}

-- ---- two temperatures are the same

pub same_self : (value : ℤ) → same_z value value ≡ true
unfolding same_z zero_z
same_self value = ap (λ (difference : ℤ). eqb (nat_abs difference) 0) (+ℤ_invr value)

pub same-is : (value other : ℤ) → same_z value other ≡ true → value ≡ other
unfolding same_z
same-is value other holds =
    sym (-ℤ-+ℤ_cancel value other) ∙ ap (λ (difference : ℤ). difference +ℤ other) (R.zero_is (value -ℤ other) holds) ∙ +ℤ_idl other

-- ---- where the timer is

-- under start choice 0, at step 1 in pass 1, with the target SLL, and nowhere else
pub record Timed (settings : Settings) (place : Place) (k r : ℕ) : Type 0 where
  pub choice : settings.start ≡ 0
  pub step : k ≡ 1
  pub pass : r ≡ 1
  pub target : place.step.target ≡ settings.low

module _ (settings : Settings) (place : Place) (k r : ℕ) where
  pub timer-is : (here_at settings place k r).timer ≡ true → Timed settings place k r
  unfolding here_at here_by is_timer all
  timer-is holds =
      let second = both_right _ _ holds in
      let third = both_right _ _ second in
      record {
        choice = eqb-true _ _ (both_left _ _ holds);
        step = eqb-true _ _ (both_left _ _ second);
        pass = eqb-true _ _ (both_left _ _ third);
        target = same-is _ _ (both_left _ _ (both_right _ _ third));
      }

  pub is-timer : Timed settings place k r → (here_at settings place k r).timer ≡ true
  unfolding here_at here_by is_timer all
  is-timer timed =
      both_true _ _ (eq-eqb _ _ timed.choice)
      (both_true _ _ (eq-eqb _ _ timed.step)
      (both_true _ _ (eq-eqb _ _ timed.pass)
      (both_true _ _ (ap (λ (target : ℤ). same_z target settings.low) timed.target ∙ same_self settings.low) refl)))

  -- what is not the timer is said as of a plain step, as it was before there was a timer
  pub plain-said : ((here_at settings place k r).timer ≡ true → ⊥) → here_at settings place k r ≡ here_of settings place
  unfolding here_at here_of here_by
  plain-said other = go (is_timer settings place.step.target k r) other
    where
      go : (timer : Bool) → (timer ≡ true → ⊥) → here_by settings place timer (cond timer 0 place.step.wait) ≡ here_by settings place false place.step.wait
      go true never = absurd (never refl)
      go false never = refl

  -- so from pass 2 on, at any other step, with any other target, and under another start choice than 0, which is 1
  pub later-pass : 1 < r → here_at settings place k r ≡ here_of settings place
  later-pass holds = plain-said (λ timer. omega (arith, (timer-is timer).pass))

  pub later-step : 1 < k → here_at settings place k r ≡ here_of settings place
  later-step holds = plain-said (λ timer. omega (arith, (timer-is timer).step))

  pub other-target : (place.step.target ≡ settings.low → ⊥) → here_at settings place k r ≡ here_of settings place
  other-target holds = plain-said (λ timer. holds (timer-is timer).target)

  pub start-value : (settings.start ≡ 0 → ⊥) → here_at settings place k r ≡ here_of settings place
  start-value holds = plain-said (λ timer. holds (timer-is timer).choice)

  -- in the timer the wait number is read as 0, so there is no zone and W is 0
  pub timer-waits : (here_at settings place k r).timer ≡ true
      → ((here_at settings place k r).number ≡ 0) × ((here_at settings place k r).zone ≡ 0) × ((here_at settings place k r).wait ≡ 0)
  unfolding here_at here_by numbered
  timer-waits timer = (
    ap (λ (test : Bool). cond test 0 place.step.wait) timer,
    ap (λ (test : Bool). numbered settings.zones (cond test 0 place.step.wait)) timer,
    ap (λ (test : Bool). 60 * numbered settings.waits (cond test 0 place.step.wait)) timer,
  )

-- of a position: by the pass that it is in
module _ (bank : List ℕ) (settings : Settings) (position : Position) where
  -- as of a plain step
  abbrev PlainSaid : Type 0
  PlainSaid = said_at bank settings position ≡ here_of settings (place_of bank position.pattern position.step)

  pub later-said : 1 < position.pass → PlainSaid
  later-said holds = later-pass settings (place_of bank position.pattern position.step) position.step position.pass holds

  pub start-value-said : (settings.start ≡ 0 → ⊥) → PlainSaid
  start-value-said holds = start-value settings (place_of bank position.pattern position.step) position.step position.pass holds

-- a plain step is no timer: its set value is the ramp's (`set-plain`)
pub plain_step : (settings : Settings) (place : Place) → (here_of settings place).timer ≡ false
unfolding here_of here_by
plain_step settings place = refl

-- ---- in the timer

module _ (settings : Settings) (place : Place) (position : Position)
    (timer : (here_at settings place position.step position.pass).timer ≡ true) where
  -- what is said there
  abbrev here : Here
  here = here_at settings place position.step position.pass

  -- the set value is b at every e, at 0 minutes and endless too
  pub timer-shows : active position ≡ true → set_value_of here position ≡ position.base
  timer-shows runs = set-timer here position runs timer

  -- it is left at the end of its time, whatever is measured: no zone is waited for
  pub timer-leaves : (whole : Option ℤ) → here.endless ≡ false → position.elapsed ≡ here.time → leaves_of here whole position ≡ true
  timer-leaves whole ends over = no-wait here position whole ends over (timer-waits settings place position.step position.pass timer).0

  -- step 2 begins from b
  pub timer-next : active position ≡ true → 1 < here.count → next_position here position ≡ placed position 2 1 position.base
  unfolding next_position
  timer-next runs more =
      let timed = timer-is settings place position.step position.pass timer in
      let second : position.step + 1 ≡ 2 = omega (arith, timed.step) in
      rw (lt-ltb position.step here.count (omega (arith, timed.step)), timer-shows runs) (λ i. placed position (second i) (timed.pass i) position.base)

  -- no readable position of it has waited, and plus cannot move at its end
  pub timer-readable : active position ≡ true → readable_of settings here position ≡ true → position.waited ≡ 0
  timer-readable runs holds =
      let no_room = (timer-waits settings place position.step position.pass timer).2 in
      ⊎_elim (λ early. early.no-wait) (λ late. absurd (omega (arith, no_room, late.in-wait)))
      (R.times-cases here position (R.times-right settings here position runs holds))

  pub timer-plus : here.endless ≡ false → here.time ≤ position.elapsed → plus_moves here position ≡ false
  timer-plus ends over =
      let no_room = (timer-waits settings place position.step position.pass timer).2 in
      plus-waits here position ends over (omega arith)

-- ---- where a run begins

module _ (settings : Settings) (first : Here) (position : Position) (b : ℤ) where
  -- under start choice 1 at step 1, with one step too, as before there was a timer
  pub begins-first : (settings.start ≡ 0 → ⊥) → start_position settings first position b ≡ begin_position position 1 b
  unfolding start_position either
  begins-first holds = rw (ne_eqb settings.start 0 holds)

  module _ (measured : settings.start ≡ 0) where
    -- under start choice 0 in the timer, if step 1 is one
    pub begins-timer : first.timer ≡ true → start_position settings first position b ≡ begin_position position 1 b
    unfolding start_position either
    begins-timer timer = rw (measured, timer)

    -- else at step 2
    pub begins-second : first.timer ≡ false → 1 < first.count → start_position settings first position b ≡ begin_position position 2 b
    unfolding start_position either
    begins-second plain more = rw (measured, plain, lt-ltb 1 first.count more)

    -- and a one-step pattern is at its end, with k = r = 1
    pub begins-ended : first.timer ≡ false → first.count ≤ 1 → start_position settings first position b ≡ end_position (begin_position position 1 b)
    unfolding start_position either
    begins-ended plain few = rw (measured, plain, le-ltb 1 first.count few)
