-- Rows of refusals by their cases, and what an event that no row meets passed.
-- Assumes nothing.
use mathlib.Core.Path.{◌≡◌, refl, sym, ap, ◌∙◌}
use mathlib.Core.Bool.{Bool, true, false, not, false≢true}
use mathlib.Core.List.{List, [], ◌∷◌, map}
use borrow.Author.Tests.{eq-eqb, not-false}
use lib.Dec.{eqb}
use Rattle.setting.specs.declared.Settings.{Settings}
use Rattle.measure.specs.Filter.{whole_of, outside_of}
use Rattle.measure.specs.declared.Reading.{Reading}
use Rattle.position.specs.declared.Position.{Position}
use Rattle.position.specs.declared.Here.{Here}
use Rattle.position.specs.declared.Command.{Command}
use Rattle.position.specs.Tests.{both, either, all}
use Rattle.position.specs.Command.{takes_of, selects_of, is_start, lacks_value, stuck_of}
use Rattle.position.proofs.Tests.{both_left, both_right}
use Rattle.plain.specs.declared.Run.{Run}
use Rattle.plain.specs.declared.Event.{Event}
use Rattle.plain.specs.declared.Refusal.{Refusal}
use Rattle.plain.specs.declared.Effect.{Effect}
use Rattle.plain.specs.Setup.{Setup, settings_in, here_in}
use Rattle.plain.specs.Run.{sound_in}
use Rattle.plain.specs.Answer.{number_of}
use Rattle.plain.specs.Refusals.{Row, judged, no_record, sound_state, event_rows}
use Rattle.plain.specs.Event.{refused, tick_effect, press_effect}
use Rattle.plain.specs.Replay.{tick, press, plain_effect}
use Rattle.std.specs.Prelude.{Option}
use lib.IntN.{ℤ}

-- ---- any rows

-- no row is met
abbrev pub Passed : List Row → Type 0
Passed [] = Unit {0}
Passed (row ∷ rows) = (row.1 ≡ false) × Passed rows

module _ {A : Type 0} (P : A → Type 0) (refuse : Refusal → A) (next : A) where
  -- P of what each row that is met gives
  abbrev pub Met : List Row → Type 0
  Met [] = Unit {0}
  Met (row ∷ rows) = (row.1 ≡ true → P (refuse row.0)) × Met rows

  pub judged-cases : (rows : List Row) → Met rows → (Passed rows → P next) → P (judged rows refuse next)
  judged-cases [] met passing = passing tt
  judged-cases (row ∷ rows) met passing = go row.1 met.0 (judged-cases rows met.1) passing
    where
      go : (test : Bool) → (test ≡ true → P (refuse row.0)) → ((Passed rows → P next) → P (judged rows refuse next))
          → ((test ≡ false) × Passed rows → P next) → P (judged ((row.0, test) ∷ rows) refuse next)
      go true denying rest passing = denying refl
      go false denying rest passing = rest (λ passed. passing (refl, passed))

-- ---- a command that no row meets

pub record Takes (settings : Settings) (here : Here) (whole : Option ℤ) (position : Position) (command : Command) : Type 0 where
  pub selects : selects_of settings command ≡ true
  pub takes : takes_of command position.mode ≡ true
  pub some-step : both (is_start command) (eqb here.count 0) ≡ false
  pub some-value : both (is_start command) (lacks_value settings whole) ≡ false
  pub moves : stuck_of here position command ≡ false

abbrev pub TakesIn : Setup → Run → Command → Type 0
TakesIn setup run command =
    Takes (settings_in setup) (here_in setup run.position) (whole_of run.measured) run.position command

-- ---- rows of which none with the number 31 can be met

abbrev others : List Row → List Bool
others rows = map (λ (row : Row). either (not (eqb (number_of row.0) 31)) (not row.1)) rows

neither : (first second : Bool) → first ≡ true → second ≡ true → either (not first) (not second) ≡ false
unfolding either
neither true second holds also = ap not also
neither false second holds also = absurd (false≢true holds)

module _ {A : Type 0} (P : A → Type 0) (refuse : Refusal → A) (next : A) (denied : (refusal : Refusal) → (number_of refusal ≡ 31 → ⊥) → P (refuse refusal)) where
  met-others : (rows : List Row) → all (others rows) ≡ true → Met P refuse next rows
  unfolding all
  met-others [] holds = tt
  met-others (row ∷ rows) holds = (
    λ met. denied row.0 (λ number. false≢true (sym (neither _ _ (eq-eqb (number_of row.0) 31 number) met) ∙ both_left _ _ holds)),
    met-others rows (both_right _ _ holds),
  )

-- ---- an event with power on: refused, not with 31, or done

module _
    (setup : Setup)
    (run : Run)
    (P : Effect → Type 0)
    (denied : (refusal : Refusal) → (number_of refusal ≡ 31 → ⊥) → P (refused true run refusal)) where
  pub by-tick : (reading : Reading) → (sound_in setup run ≡ true → outside_of reading ≡ false → P (tick_effect setup run reading))
      → P (plain_effect setup true run (tick reading))
  unfolding plain_effect sound_state both either all number_of
  by-tick reading done =
      let rows = event_rows setup no_record true run (Event.Tick reading) in
      judged-cases P (refused true run) (tick_effect setup run reading) rows (met-others P (refused true run) (tick_effect setup run reading) denied rows refl)
      (λ passed. done (not-false _ passed.0) passed.1.1.1.1.1.0)

  pub by-press : (command : Command) → (sound_in setup run ≡ true → TakesIn setup run command → P (press_effect setup run command))
      → P (plain_effect setup true run (press command))
  unfolding plain_effect sound_state both either all number_of
  by-press command done =
      let rows = event_rows setup no_record true run (Event.Press command) in
      judged-cases P (refused true run) (press_effect setup run command) rows (met-others P (refused true run) (press_effect setup run command) denied rows refl)
      (λ passed.
      let own = passed.1.1.1.1.1.1 in
      done (not-false _ passed.0)
      (record {
        selects = not-false _ own.0;
        takes = not-false _ own.1.0;
        some-step = own.1.1.0;
        some-value = own.1.1.1.0;
        moves = own.1.1.1.1.0;
      }))
