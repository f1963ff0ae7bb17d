-- What an event of each kind can do to the credits and to the record.
-- Assumes nothing.
use mathlib.Core.Path.{◌≡◌, refl, sym, ◌∙◌}
use mathlib.Core.Bool.{Bool, true, false, false≢true}
use mathlib.Core.List.{List, [], ◌∷◌}
use Prim.Native.Nat.{ℕ}
use borrow.Author.Tests.{not-false}
use lib.Dec.{eqb}
use Rattle.setting.proofs.Laws.{unless-cases}
use Rattle.bank.specs.Check.{found_in}
use Rattle.position.specs.Command.{is_start}
use Rattle.position.proofs.Tests.{choice}
use Rattle.plain.specs.declared.Run.{Run}
use Rattle.plain.specs.declared.Credit.{Credit}
use Rattle.plain.specs.declared.Event.{Event}
use Rattle.plain.specs.declared.Refusal.{Refusal}
use Rattle.plain.specs.declared.Effect.{Effect}
use Rattle.plain.specs.Record.{sized}
use Rattle.plain.specs.Setup.{Setup}
use Rattle.plain.specs.Answer.{is_accepted, Answer}
use Rattle.plain.specs.Run.{credited, tick_credit}
use Rattle.plain.specs.Refusals.{Row, event_rows}
use Rattle.plain.specs.Event.{State, applied, unchanged, refused, cut_effect, accepted_effect, retained_in, known_effect, event_effect, event_outcome}
use Rattle.plain.proofs.Judged.{Met, judged-cases}
use Rattle.std.specs.Prelude.{Err}
use Rattle.plain.specs.declared.AnyRefusal.{AnyRefusal}

-- ---- an event is refused and changes nothing, or is accepted with a record of its size

module _ (setup : Setup) (store : List ℕ) (power : Bool) (run : Run) (event : Event) (P : Effect → Type 0) where
  all-met : ((refusal : Refusal) → P (refused power run refusal)) → (rows : List Row) → Met P (refused power run) (accepted_effect setup store run event) rows
  all-met denied [] = tt
  all-met denied (row ∷ rows) = (λ _. denied row.0, all-met denied rows)

  pub by-event : ((answer : Answer) → P (unchanged power run answer)) → (sized store ≡ true → P (accepted_effect setup store run event))
      → P (event_effect setup store power run event)
  unfolding event_effect known_effect retained_in
  by-event denied done =
      let rows = event_rows setup (retained_in setup store) power run event in
      unless-cases P (found_in setup.bank)
      (λ _. judged-cases P (refused power run) (accepted_effect setup store run event) rows
      (all-met (λ refusal. denied (Err (AnyRefusal.Own refusal))) rows) (λ passed. done (not-false _ passed.1.0)))
      (λ refusal _. denied (Err (AnyRefusal.Bank refusal)))

-- ---- a refusal leaves the state

pub refused-leaves : (setup : Setup) (store : List ℕ) (state : State) (event : Event)
    → is_accepted (event_outcome setup store state event).answer ≡ false → (event_outcome setup store state event).state ≡ state
unfolding event_outcome credited is_accepted cut_effect
refused-leaves setup store state event =
    by-event setup store state.power state.run event
    (λ (effect : Effect). is_accepted effect.answer ≡ false → (applied store state.credits effect).state ≡ state)
    (λ _ _. refl) (λ _ holds. absurd (false≢true (sym holds ∙ accepts event)))
  where
    accepts : (event : Event) → is_accepted (accepted_effect setup store state.run event).answer ≡ true
    accepts (Event.Tick reading) = refl
    accepts (Event.Press command) = refl
    accepts Event.Cut = refl
    accepts (Event.Return reading) = refl

-- ---- credits: a tick can credit a step, a command and a cut can clear, a return can restore

abbrev pub Asks : Event → Credit → Type 0
Asks event Credit.Keep = Unit {0}
Asks (Event.Tick reading) (Credit.Cook k) = Unit {0}
Asks (Event.Press command) (Credit.Cook k) = ⊥
Asks Event.Cut (Credit.Cook k) = ⊥
Asks (Event.Return reading) (Credit.Cook k) = ⊥
Asks (Event.Tick reading) Credit.Clear = ⊥
Asks (Event.Press command) Credit.Clear = Unit {0}
Asks Event.Cut Credit.Clear = Unit {0}
Asks (Event.Return reading) Credit.Clear = ⊥
Asks (Event.Tick reading) Credit.Restore = ⊥
Asks (Event.Press command) Credit.Restore = ⊥
Asks Event.Cut Credit.Restore = ⊥
Asks (Event.Return reading) Credit.Restore = Unit {0}

module _ (setup : Setup) (store : List ℕ) (run : Run) where
  accepted-asks : (event : Event) → Asks event (accepted_effect setup store run event).credit
  unfolding tick_credit cut_effect
  accepted-asks (Event.Tick reading) = choice (Asks (Event.Tick reading)) (eqb run.position.mode 1) (λ _. tt) (λ _. tt)
  accepted-asks (Event.Press command) = choice (Asks (Event.Press command)) (is_start command) (λ _. tt) (λ _. tt)
  accepted-asks Event.Cut = tt
  accepted-asks (Event.Return reading) = tt

  module _ (power : Bool) where
    pub asks : (event : Event) → Asks event (event_effect setup store power run event).credit
    asks event =
        by-event setup store power run event (λ (effect : Effect). Asks event effect.credit) (λ _. tt) (λ _. accepted-asks event)

    -- ---- the record: an event saves only into one of its size, and a cut saves nothing

    pub saves-sized : (event : Event) → (event_effect setup store power run event).saves ≡ true → sized store ≡ true
    saves-sized event =
        by-event setup store power run event (λ (effect : Effect). effect.saves ≡ true → sized store ≡ true) (λ _ holds. absurd (false≢true holds)) (λ whole _. whole)

    pub cut-saves : (event_effect setup store power run Event.Cut).saves ≡ false
    unfolding cut_effect
    cut-saves = by-event setup store power run Event.Cut (λ (effect : Effect). effect.saves ≡ false) (λ _. refl) (λ _. refl)
