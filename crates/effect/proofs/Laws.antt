-- Facts about places, the tests that the code makes, and the alarms.
-- Assumes nothing.
use mathlib.Core.Path.{◌≡◌, refl, sym, ap, ◌∙◌}
use mathlib.Core.Bool.{Bool, true, false, not, ◌&&◌, false≢true}
use mathlib.Core.List.{List, [], ◌∷◌}
use Prim.Native.Nat.{ℕ, zero, suc, ◌≤◌, ◌<◌}
use native.Mathlib.Omega.{arith}
use borrow.Author.Tests.{ltb-true}
use lib.ListN.{length, set}
use Rattle.setting.specs.declared.Settings.{Settings}
use Rattle.setting.proofs.Laws.{both_left, both_right}
use Rattle.position.specs.declared.Position.{Position}
use Rattle.position.specs.declared.Here.{Here}
use Rattle.position.specs.declared.Command.{Command}
use Rattle.position.specs.Tests.{either, all}
use Rattle.position.specs.Program.{first_at, set_value_of}
use Rattle.position.specs.Command.{is_start}
use Rattle.measure.specs.Filter.{whole_of}
use Rattle.measure.specs.declared.Measured.{Measured}
use Rattle.alarm.specs.declared.Alarms.{Alarms}
use Rattle.alarm.specs.Idle.{all_idle}
use Rattle.alarm.proofs.Short.{idle-leaves}
use Rattle.plain.specs.declared.Run.{Run}
use Rattle.plain.specs.declared.Config.{Config}
use Rattle.plain.specs.declared.Event.{Event}
use Rattle.plain.specs.declared.Refusal.{Refusal}
use Rattle.plain.specs.Setup.{Setup, here_in, first_in}
use Rattle.plain.specs.Run.{sound_by, sound_in}
use Rattle.plain.specs.Refusals.{Row, judged, sound_state}
use Rattle.effect.specs.Known.{Known}
use Rattle.effect.specs.Done.{alarms_by, keeps_alarms}

-- ---- places

-- by the settings of the bank it is what is said over a setup
pub said_in : (setup : Setup) (position : Position) {settings : Settings} {here : Here} → Known setup.bank position settings here
    → here ≡ here_in setup position
unfolding here_in
said_in setup position known = known.here-is ∙ rw known.settings-are

pub first-in : (setup : Setup) (position : Position) {settings : Settings} {here : Here} → Known setup.bank position settings here
    → first_at setup.bank settings position ≡ first_in setup position
unfolding first_in
first-in setup position known = rw known.settings-are

-- ---- tests

module _ (setup : Setup) (power : Bool) (run : Run) where
  -- what the code tests, by what `sound` answered
  pub unsound : (x : Bool) → x ≡ sound_in setup run → (power && not x) ≡ true → sound_state setup power run ≡ false
  unfolding sound_state either
  unsound x h g = go power x h g
    where
      go : (power x : Bool) → x ≡ sound_in setup run → (power && not x) ≡ true → either (not power) (sound_in setup run) ≡ false
      go true true h g = absurd (false≢true g)
      go true false h g = sym h
      go false x h g = absurd (false≢true g)

  pub sound-state : (x : Bool) → x ≡ sound_in setup run → (power && not x) ≡ false → sound_state setup power run ≡ true
  unfolding sound_state either
  sound-state x h g = go power x h g
    where
      go : (power x : Bool) → x ≡ sound_in setup run → (power && not x) ≡ false → either (not power) (sound_in setup run) ≡ true
      go true true h g = sym h
      go true false h g = absurd (false≢true (sym g))
      go false x h g = refl

  -- a sound state with power on has u below 60
  pub few : power ≡ true → sound_state setup power run ≡ true → run.unsaved < 60
  unfolding sound_state either sound_by all
  few h g = ltb-true _ 60 (both_left _ _ (both_right _ _ (go power h g)))
    where
      go : (power : Bool) → power ≡ true → either (not power) (sound_in setup run) ≡ true → sound_in setup run ≡ true
      go true h g = g
      go false h g = absurd (false≢true h)

-- alarms that stay
pub kept-alarms : (idle : Bool) (config : Config) (there : Here) (store : List ℕ) (event : Event) (alarms : Alarms) (position : Position)
    (measured : Measured) → idle ≡ all_idle config.alarms alarms → keeps_alarms idle event ≡ true
    → alarms ≡ alarms_by config there store event alarms position measured
kept-alarms true config there store (Event.Tick reading) alarms position measured is keeps =
    idle-leaves config.alarms position.mode (whole_of measured) (set_value_of there position) alarms (sym is)
kept-alarms false config there store (Event.Tick reading) alarms position measured is keeps = absurd (false≢true keeps)
kept-alarms idle config there store (Event.Press command) alarms position measured is keeps = absurd (false≢true keeps)
kept-alarms idle config there store Event.Cut alarms position measured is keeps = absurd (false≢true keeps)
kept-alarms idle config there store (Event.Return reading) alarms position measured is keeps = absurd (false≢true keeps)

-- ---- refusals

-- what is made of what rows give is what rows give of it
pub judged-of : {A B : Type 0} (f : A → B) (rows : List Row) (refuse : Refusal → A) (next : A)
    → f (judged rows refuse next) ≡ judged rows (λ refusal. f (refuse refusal)) (f next)
judged-of f [] refuse next = refl
judged-of f (row ∷ rows) refuse next = go row.1 (judged-of f rows refuse next)
  where
    go : (x : Bool) → f (judged rows refuse next) ≡ judged rows (λ refusal. f (refuse refusal)) (f next)
        → f (judged ((row.0, x) ∷ rows) refuse next) ≡ judged ((row.0, x) ∷ rows) (λ refusal. f (refuse refusal)) (f next)
    go true h = refl
    go false h = h

-- ---- commands

pub no_start : (command : Command) → (command ≡ Command.Start → ⊥) → is_start command ≡ false
unfolding is_start
no_start (Command.Select q) h = refl
no_start Command.Start h = absurd (h refl)
no_start Command.Pause h = refl
no_start Command.Reset h = refl
no_start Command.Feed h = refl
no_start Command.Back h = refl
no_start Command.Plus h = refl
no_start Command.Minus h = refl

-- ---- credits

-- a step with no credit gains none
pub set_past : {A : Type 0} (l : List A) (i : ℕ) (a : A) → length l ≤ i → set l i a ≡ l
set_past [] i a h = refl
set_past (x ∷ xs) zero a h = absurd (omega (arith, h))
set_past (x ∷ xs) (suc i) a h = ap (◌∷◌ x) (set_past xs i a (omega (arith, h)))
