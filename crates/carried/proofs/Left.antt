-- What making and an event leave, of the answers that the code finds.
-- Assumes nothing.
use Prim.Native.Nat.{ℕ}
use mathlib.Core.Path.{◌≡◌, refl, sym, ap, ◌∙◌}
use mathlib.Core.Bool.{Bool, true, false, cond}
use mathlib.Core.List.{List}
use lib.Dec.{eqb}
use lib.ListN.{drop}
use Rattle.std.specs.Prelude.{Result, Ok, Err, MatchResult, IsErrAnd}
use Rattle.std.specs.Result.{is_ok, result_and}
use Rattle.std.proofs.lemmas.Result.{err_from_is_err_and}
use Rattle.field.specs.Field.{field}
use Rattle.setting.specs.Found.{Checked, numbers_of}
use Rattle.setting.proofs.Laws.{numbers-tell}
use Rattle.bank.specs.Check.{found_in}
use Rattle.plain.specs.declared.Run.{Run}
use Rattle.plain.specs.declared.Event.{Event}
use Rattle.plain.specs.declared.Refusal.{Refusal}
use Rattle.plain.specs.declared.AnyRefusal.{AnyRefusal}
use Rattle.plain.specs.declared.Effect.{Effect}
use Rattle.plain.specs.Record.{credits_in, sized}
use Rattle.plain.specs.Setup.{Setup}
use Rattle.plain.specs.Answer.{Answer, is_accepted}
use Rattle.plain.specs.Refusals.{checked}
use Rattle.plain.specs.Event.{After, applied, event_effect, make_outcome}
use Rattle.plain.proofs.Effects.{saves-sized}
use Rattle.calls.specs.Carried.{AfterCarried, after_carried, carried_if, state_in, state_bytes, is_state, roomy, carried_out, make_carried, event_carried}
use Rattle.calls.proofs.Written.{is_bank, carried, effect_on, make-left, bank-first, refused-event, accepted-event}
use Rattle.carried.specs.Bytes.{carried_by}

-- ---- bytes that are no state, or have no room for one

-- the bank's refusal, or else what follows
abbrev pub or_else : Checked → Answer → Answer
or_else found rest = checked found (λ answer. answer) rest

-- `mapped` is what the check of the bank finds, its refusal as one of a call
module _ (bank : List ℕ) (found : Checked) (mapped : Result (Unit {0}) AnyRefusal) (same : numbers_of found ≡ numbers_of (found_in bank))
    (cases : MatchResult found (λ x. mapped ≡ Ok x) (λ e. IsErrAnd mapped (λ y. y ≡ AnyRefusal.Bank e))) (rest : Answer) where
  is : found ≡ found_in bank
  is = numbers-tell found (found_in bank) same

  pub bank-ends : {refusal : AnyRefusal} → mapped ≡ Err refusal → Err refusal ≡ or_else (found_in bank) rest
  bank-ends {refusal} h = go found cases ∙ ap (λ (x : Checked). or_else x rest) is
    where
      go : (x : Checked) → MatchResult x (λ y. mapped ≡ Ok y) (λ e. IsErrAnd mapped (λ y. y ≡ AnyRefusal.Bank e)) → Err refusal ≡ or_else x rest
      go (Ok done) e = cc
      go (Err denied) e = let p = err_from_is_err_and mapped e in cc

  pub bank-goes : mapped ≡ Ok tt → rest ≡ or_else (found_in bank) rest
  bank-goes h = go found cases ∙ ap (λ (x : Checked). or_else x rest) is
    where
      go : (x : Checked) → MatchResult x (λ y. mapped ≡ Ok y) (λ e. IsErrAnd mapped (λ y. y ≡ AnyRefusal.Bank e)) → rest ≡ or_else x rest
      go (Ok done) e = refl
      go (Err denied) e = let p = err_from_is_err_and mapped e in cc

  -- and an answer behind the check of the bank
  pub bank-behind : {answer : Answer} → answer ≡ result_and mapped rest → answer ≡ or_else (found_in bank) rest
  bank-behind h = h ∙ go found cases ∙ ap (λ (x : Checked). or_else x rest) is
    where
      go : (x : Checked) → MatchResult x (λ y. mapped ≡ Ok y) (λ e. IsErrAnd mapped (λ y. y ≡ AnyRefusal.Bank e)) → result_and mapped rest ≡ or_else x rest
      go (Ok done) e = rw e
      go (Err denied) e = let p = err_from_is_err_and mapped e in rw (p.1, p.2)

module _ (setup : Setup) (store bytes : List ℕ) where
  abbrev none : Answer
  none = or_else (found_in setup.bank) (Err (AnyRefusal.Own Refusal.Unsound))

  left-alone : (answer : Answer) → answer ≡ none → (right : Bool) → right ≡ false → (next : AfterCarried)
      → after_carried answer store bytes ≡ carried_if right setup store bytes next
  left-alone answer is right wrong next = ap (λ (x : Answer). after_carried x store bytes) is ∙ rw wrong (go (found_in setup.bank))
    where
      go : (x : Checked) → after_carried (or_else x (Err (AnyRefusal.Own Refusal.Unsound))) store bytes
          ≡ checked x (λ answer. after_carried answer store bytes) (after_carried (Err (AnyRefusal.Own Refusal.Unsound)) store bytes)
      go (Ok done) = refl
      go (Err refusal) = refl

  pub make-alone : (answer : Answer) → answer ≡ none → roomy bytes ≡ false → after_carried answer store bytes ≡ make_carried setup store bytes
  unfolding make_carried
  make-alone answer is small = left-alone answer is (roomy bytes) small _

  pub event-alone : (event : Event) (answer : Answer) → answer ≡ none → is_state bytes ≡ false
      → after_carried answer store bytes ≡ event_carried setup store bytes event
  unfolding event_carried
  event-alone event answer is other = left-alone answer is (is_state bytes) other _

-- ---- an answer is accepted if it is `Ok`

accepted-is : (answer : Answer) → is_accepted answer ≡ is_ok answer
unfolding is_accepted
accepted-is (Ok shown) = refl
accepted-is (Err refusal) = refl

-- ---- making, with room: the state is written if making is accepted

module _ (setup : Setup) (store bytes : List ℕ) where
  pub made : (left : After) → left ≡ make_outcome setup store → roomy bytes ≡ true → (written : List ℕ)
      → written ≡ cond (is_ok left.answer) (state_bytes left.state) bytes → after_carried left.answer left.store written ≡ make_carried setup store bytes
  unfolding carried_out
  made left is room written wrote =
      ap (after_carried left.answer left.store) (wrote ∙ ap (λ (x : Bool). cond x (state_bytes left.state) bytes) (sym (accepted-is left.answer)))
      ∙ ap (carried_out bytes) is
      ∙ make-left setup store bytes room

-- ---- an event on bytes that are a state

-- what it does, of the run that they hold
pub acts : (setup : Setup) (store bytes : List ℕ) (event : Event) {power : ℕ} {run : Run} {effect : Effect} → power ≡ field 1 bytes 0
    → run ≡ (state_in bytes).run → effect ≡ event_effect setup store (eqb power 1) run event → effect ≡ effect_on setup store bytes event
unfolding state_in
acts setup store bytes event power run effect = effect ∙ (λ i. event_effect setup store (eqb (power i) 1) (run i) event)

module _ (setup : Setup) (store bytes : List ℕ) (event : Event) (effect : Effect) (is : effect ≡ effect_on setup store bytes event) where
  -- a save is into a record of its size
  pub event-saves : effect.saves ≡ true → sized store ≡ true
  event-saves saves =
      saves-sized setup store (state_in bytes).run (state_in bytes).power event (ap (λ (x : Effect). x.saves) (sym is) ∙ saves)

  module _ (state : is_state bytes ≡ true) where
    abbrev answer_on : Answer
    answer_on = (effect_on setup store bytes event).answer

    answers : effect.answer ≡ answer_on
    answers = ap (λ (x : Effect). x.answer) is

    -- a refusal leaves all
    pub event-refused : is_ok effect.answer ≡ false → after_carried effect.answer store bytes ≡ event_carried setup store bytes event
    event-refused refused =
        ap (λ (x : Effect). after_carried x.answer store bytes) is ∙ go answer_on refl (ap is_ok (sym answers) ∙ refused)
      where
        go : (answer : Answer) → answer_on ≡ answer → is_ok answer_on ≡ false → after_carried answer_on store bytes ≡ event_carried setup store bytes event
        go (Ok shown) told wrong = cc
        go (Err (AnyRefusal.Bank refusal)) told wrong = bank-first setup store bytes event (ap is_bank told)
        go (Err (AnyRefusal.Own refusal)) told wrong =
            refused-event setup store bytes event (ap is_bank told) state (accepted-is answer_on ∙ wrong)

    -- and an accepted event does what it does
    pub event-accepted : is_ok effect.answer ≡ true → carried_by store bytes effect ≡ event_carried setup store bytes event
    event-accepted taken =
        ap (λ (x : Effect). carried (applied store (credits_in (drop 1 bytes)) x)) is
        ∙ accepted-event setup store bytes event (go answer_on (ap is_ok (sym answers) ∙ taken)) state (accepted-is answer_on ∙ ap is_ok (sym answers) ∙ taken)
      where
        go : (answer : Answer) → is_ok answer ≡ true → is_bank answer ≡ false
        go (Ok shown) right = refl
        go (Err (AnyRefusal.Bank refusal)) right = cc
        go (Err (AnyRefusal.Own refusal)) right = refl
