-- What readable says of a position, taken apart and put together. Assumes nothing.
use Prim.Native.Nat.{ℕ, suc, ◌≤◌, ◌<◌}
use mathlib.Core.Path.{◌≡◌, refl, ap}
use mathlib.Core.Bool.{Bool, true, false, cond, not}
use mathlib.Core.Logic.{◌⊎◌, inl, inr, ⊎_elim}
use native.Mathlib.Omega.{arith}
use borrow.Author.Tests.{le-leb, leb-true, lt-ltb, ltb-true, eq-eqb, eqb-true, eqb-false, ne_eqb, not-true}
use lib.Dec.{eqb}
use lib.IntN.{ℤ, pos, negsuc}
use Rattle.setting.specs.declared.Settings.{Settings}
use Rattle.position.specs.declared.Position.{Position}
use Rattle.position.specs.declared.Here.{Here}
use Rattle.position.specs.Tests.{both, temperature, zero_z}
use Rattle.position.specs.Program.{active}
use Rattle.position.specs.Command.{stop_position}
use Rattle.position.specs.Return.{times_right, cleared_of, readable_of}
use Rattle.position.proofs.Laws.{active-modes}
use Rattle.position.proofs.Tests.{both_left, both_right, both_true, either-cases, either_left, either-right, either-false, choice, chosen, otherwise}

-- ---- the times of a step

-- w = 0, or the step's time is over and it waits
pub record Early (here : Here) (e w : ℕ) : Type 0 where
  pub no-wait : w ≡ 0
  pub in-time : e ≤ cond here.endless 359999 here.time

pub record Late (here : Here) (e w : ℕ) : Type 0 where
  pub ends : here.endless ≡ false
  pub over : e ≡ here.time
  pub waits : 0 < w
  pub in-wait : w < here.wait

module _ (here : Here) (position : Position) where
  pub times-cases : times_right here position ≡ true
      → Early here position.elapsed position.waited ⊎ Late here position.elapsed position.waited
  unfolding times_right
  times-cases holds =
      ⊎_elim
      (λ known. inl (record { no-wait = eqb-true _ _ (both_left _ _ known); in-time = leb-true _ _ (both_right _ _ known) }))
      (λ known.
      let first = both_right _ _ known in
      let second = both_right _ _ first in
      inr
      (record {
        ends = not-true here.endless (both_left _ _ known);
        over = eqb-true _ _ (both_left _ _ first);
        waits = ltb-true _ _ (both_left _ _ second);
        in-wait = ltb-true _ _ (both_right _ _ second);
      }))
      (either-cases _ _ holds)

  pub times-early : Early here position.elapsed position.waited → times_right here position ≡ true
  unfolding times_right
  times-early holds = either_left _ _ (both_true _ _ (eq-eqb _ _ holds.no-wait) (le-leb _ _ holds.in-time))

  pub times-late : Late here position.elapsed position.waited → times_right here position ≡ true
  unfolding times_right
  times-late holds =
      either-right _ _
      (both_true _ _ (ap not holds.ends)
      (both_true _ _ (eq-eqb _ _ holds.over) (both_true _ _ (lt-ltb _ _ holds.waits) (lt-ltb _ _ holds.in-wait))))

  -- at e = w = 0 they are right, whatever the step is
  pub times_zero : position.elapsed ≡ 0 → position.waited ≡ 0 → times_right here position ≡ true
  times_zero holds place =
      times-early
      (record { no-wait = place; in-time = choice (λ (first : ℕ). position.elapsed ≤ first) here.endless (λ _. omega arith) (λ _. omega arith) })

-- ---- the place: pattern p, step k and pass r

pub record Placed (settings : Settings) (here : Here) (p k r : ℕ) : Type 0 where
  pub pattern-low : 1 ≤ p
  pub pattern-high : p ≤ settings.patterns
  pub step-low : 1 ≤ k
  pub step-high : k ≤ here.count
  pub pass-low : 1 ≤ r
  pub pass-high : r ≤ here.limit

-- ---- readable, by the mode

-- e = w = b = 0
pub zero_is : (zero : ℤ) → zero_z zero ≡ true → zero ≡ pos 0
unfolding zero_z
zero_is (pos mode-known) holds = ap pos (eqb-true mode-known 0 holds)
zero_is (negsuc mode-known) holds = let first : suc mode-known ≡ 0 = eqb-true (suc mode-known) 0 holds in absurd (omega arith)

pub cleared-is : (position : Position) → cleared_of position ≡ true
    → (position.elapsed ≡ 0) × (position.waited ≡ 0) × (position.base ≡ pos 0)
unfolding cleared_of
cleared-is position first =
    let second = both_right _ _ first in
    (eqb-true _ _ (both_left _ _ first), eqb-true _ _ (both_left _ _ second), zero_is position.base (both_right _ _ second))

module _ (settings : Settings) (here : Here) (position : Position) where
  pub readable-mode : readable_of settings here position ≡ true → position.mode ≤ 3
  unfolding readable_of
  readable-mode holds = leb-true _ _ (both_left _ _ holds)

  pub readable-pattern : readable_of settings here position ≡ true → (1 ≤ position.pattern) × (position.pattern ≤ settings.patterns)
  unfolding readable_of
  readable-pattern holds = let first = both_left _ _ (both_right _ _ holds) in (leb-true _ _ (both_left _ _ first), leb-true _ _ (both_right _ _ first))

  -- in a mode from 1 to 3 the place, the base and the times are right
  pub placed : (position.mode ≡ 0 → ⊥) → readable_of settings here position ≡ true
      → Placed settings here position.pattern position.step position.pass
  unfolding readable_of
  placed mode-known holds =
      let pattern-known = readable-pattern holds in
      let known = otherwise (eqb position.mode 0) _ _ (ne_eqb position.mode 0 mode-known) (both_right _ _ (both_right _ _ holds)) in
      let first = both_left _ _ known in
      let second = both_left _ _ (both_right _ _ known) in
      record {
        pattern-low = pattern-known.0;
        pattern-high = pattern-known.1;
        step-low = leb-true _ _ (both_left _ _ first);
        step-high = leb-true _ _ (both_right _ _ first);
        pass-low = leb-true _ _ (both_left _ _ second);
        pass-high = leb-true _ _ (both_right _ _ second);
      }

  last-tests : (position.mode ≡ 0 → ⊥) → readable_of settings here position ≡ true
      → both (temperature position.base) (cond (eqb position.mode 3) (cleared_of position) (times_right here position)) ≡ true
  unfolding readable_of
  last-tests mode-known holds =
      both_right _ _ (both_right _ _ (otherwise (eqb position.mode 0) _ _ (ne_eqb position.mode 0 mode-known) (both_right _ _ (both_right _ _ holds))))

  pub base-range : (position.mode ≡ 0 → ⊥) → readable_of settings here position ≡ true → temperature position.base ≡ true
  base-range mode-known holds = both_left _ _ (last-tests mode-known holds)

  pub times-right : active position ≡ true → readable_of settings here position ≡ true → times_right here position ≡ true
  times-right known holds =
      otherwise (eqb position.mode 3) _ _ (ne_eqb position.mode 3 (active-modes position known).1) (both_right _ _ (last-tests (active-modes position known).0 holds))

  -- a readable position of mode 0 is as "to stopped" says
  pub stopped-is : position.mode ≡ 0 → readable_of settings here position ≡ true → position ≡ stop_position position.pattern
  unfolding readable_of
  stopped-is mode-known holds =
      let known = chosen (eqb position.mode 0) _ _ (eq-eqb position.mode 0 mode-known) (both_right _ _ (both_right _ _ holds)) in
      let rest = both_right _ _ known in
      let step : position.step ≡ 1 = eqb-true _ _ (both_left _ _ known) in
      let pass : position.pass ≡ 1 = eqb-true _ _ (both_left _ _ rest) in
      let zero = cleared-is position (both_right _ _ rest) in
      λ i. record {
        mode = mode-known i;
        pattern = position.pattern;
        step = step i;
        pass = pass i;
        elapsed = zero.0 i;
        waited = zero.1 i;
        base = zero.2 i;
      }

  -- outside modes 1 and 2 a readable position has e = w = b = 0
  pub idle-cleared : active position ≡ false → readable_of settings here position ≡ true → cleared_of position ≡ true
  unfolding readable_of active
  idle-cleared idle holds = go (eqb position.mode 0) refl
    where
      first : (eqb position.mode 1 ≡ false) × (eqb position.mode 2 ≡ false)
      first = either-false _ _ idle

      go : (test : Bool) → eqb position.mode 0 ≡ test → cleared_of position ≡ true
      go true second = both_right _ _ (both_right _ _ (chosen (eqb position.mode 0) _ _ second (both_right _ _ (both_right _ _ holds))))
      go false second =
          let mode-known : position.mode ≡ 0 → ⊥ = eqb-false position.mode 0 second in
          let zero : position.mode ≡ 3 =
          omega (arith, readable-mode holds, eqb-false position.mode 1 first.0, eqb-false position.mode 2 first.1) in
          chosen (eqb position.mode 3) _ _ (eq-eqb position.mode 3 zero) (both_right _ _ (last-tests mode-known holds))

  -- what is right in place, base and times is readable
  pub readable-at : position.mode ≤ 3 → (position.mode ≡ 0 → ⊥) → Placed settings here position.pattern position.step position.pass
      → temperature position.base ≡ true
      → cond (eqb position.mode 3) (cleared_of position) (times_right here position) ≡ true → readable_of settings here position ≡ true
  unfolding readable_of
  readable-at mode-known not_stopped place based timed =
      both_true _ _ (le-leb _ _ mode-known)
      (both_true _ _ (both_true _ _ (le-leb _ _ place.pattern-low) (le-leb _ _ place.pattern-high))
      (rw (ne_eqb position.mode 0 not_stopped)
      (both_true _ _ (both_true _ _ (le-leb _ _ place.step-low) (le-leb _ _ place.step-high))
      (both_true _ _ (both_true _ _ (le-leb _ _ place.pass-low) (le-leb _ _ place.pass-high)) (both_true _ _ based timed)))))

  pub readable-active : active position ≡ true → Placed settings here position.pattern position.step position.pass
      → temperature position.base ≡ true → times_right here position ≡ true → readable_of settings here position ≡ true
  readable-active known place based timed =
      let mode-known = active-modes position known in
      readable-at mode-known.2 mode-known.0 place based (rw (ne_eqb position.mode 3 mode-known.1) timed)
