-- What the reply to a list tells: no list, a refused bank, or a run.
-- Assumes nothing.
use Prim.Native.Nat.{ℕ}
use mathlib.Core.Path.{◌≡◌, refl, sym, ap, ◌∙◌}
use mathlib.Core.Bool.{Bool, true, false, cond, not, false≢true}
use mathlib.Core.List.{List, [], ◌∷◌}
use Rattle.setting.specs.Found.{Checked, Accepted}
use Rattle.setting.specs.declared.BankRefusal.{BankRefusal}
use Rattle.bank.specs.Check.{found_in}
use Rattle.position.proofs.Tests.{choice}
use Rattle.alarm.specs.Alarm.{all_in_range}
use Rattle.plain.specs.declared.Event.{Event}
use Rattle.plain.specs.Record.{sized}
use Rattle.plain.specs.Setup.{Setup}
use Rattle.plain.specs.Run.{credited}
use Rattle.plain.specs.Event.{State, After as Left, after as after_call, dark, retained_in, event_effect, event_outcome, make_outcome, events_from, final}
use Rattle.plain.specs.Listed.{events_in, formed}
use Rattle.demand.specs.Run.{AfterRun, after_run, given, run_outcome, answer_in}
use Rattle.calls.specs.Result.{result_of}
use Rattle.calls.specs.Carried.{state_bytes, roomy}
use Rattle.calls.specs.Calls.{after, list_leaves, run_over}
use Rattle.calls.proofs.Meets.{no-list, bank-refused, is-run}
use Rattle.calls.proofs.Written.{is_bank, known-answers}
use Rattle.std.specs.Prelude.{Option, None, Some, Ok, Err}
use Rattle.plain.specs.Answer.{Answer}
use Rattle.plain.specs.declared.AnyRefusal.{AnyRefusal}

-- ---- the last answer

module _ (setup : Setup) (store : List ℕ) where
  -- over a refused bank every answer is its refusal, and nothing changes
  one-refused : {refusal : BankRefusal} → found_in setup.bank ≡ Err refusal → (state : State) (event : Event)
      → event_outcome setup store state event ≡ after_call state store (Err (AnyRefusal.Bank refusal))
  unfolding event_outcome event_effect credited
  one-refused denied state event = rw denied

  all-refused : {refusal : BankRefusal} → found_in setup.bank ≡ Err refusal → (state : State) (events : List Event)
      → events_from setup (after_call state store (Err (AnyRefusal.Bank refusal))) events
      ≡ after_call state store (Err (AnyRefusal.Bank refusal))
  unfolding events_from
  all-refused denied state [] = refl
  all-refused denied state (event ∷ events) =
      ap (λ (left : Left). events_from setup left events) (one-refused denied state event) ∙ all-refused denied state events

  refused-final : {refusal : BankRefusal} → found_in setup.bank ≡ Err refusal → (events : List Event)
      → final setup store events ≡ after_call dark store (Err (AnyRefusal.Bank refusal))
  unfolding final make_outcome
  refused-final {refusal} denied events =
      let made : make_outcome setup store ≡ after_call dark store (Err (AnyRefusal.Bank refusal)) = rw denied in
      ap (λ (left : Left). events_from setup left events) made ∙ all-refused denied dark events

  -- over an accepted one no answer is
  never-bank : found_in setup.bank ≡ Accepted → (left : Left) → is_bank left.answer ≡ false → (events : List Event)
      → is_bank (events_from setup left events).answer ≡ false
  unfolding events_from event_outcome
  never-bank ok left other [] = other
  never-bank ok left other (event ∷ events) =
      never-bank ok (event_outcome setup left.store left.state event)
      (known-answers setup left.store left.state.power left.state.run event ok) events

  made_other : found_in setup.bank ≡ Accepted → is_bank (make_outcome setup store).answer ≡ false
  unfolding make_outcome retained_in
  made_other ok = rw ok (choice Other (not (sized store)) (λ _. refl) (λ _. choice Other (not (all_in_range setup.config.alarms)) (λ _. refl) (λ _. refl)))
    where
      Other : Left → Type 0
      Other left = is_bank left.answer ≡ false

  accepted-final : found_in setup.bank ≡ Accepted → (events : List Event) → is_bank (final setup store events).answer ≡ false
  unfolding final
  accepted-final ok events = never-bank ok (make_outcome setup store) (made_other ok) events

-- ---- the reply

-- whether it gives an answer
abbrev gives : Option Answer → Bool
gives None = false
gives (Some answer) = true

module _ (setup : Setup) (store state events : List ℕ) (left : AfterRun) (is : left ≡ run_outcome setup store events) where
  -- bytes that are no list
  unlisted : formed events ≡ false → left ≡ after_run dark store None
  unfolding run_outcome
  unlisted none = is ∙ rw none

  is-listed : formed events ≡ true → left ≡ given (final setup store (events_in events))
  unfolding run_outcome
  is-listed listed = is ∙ rw listed

  pub reply-none : left.reply ≡ None → after 99 left.store state ≡ run_over store state events setup
  reply-none none = go (formed events) refl
    where
      go : (x : Bool) → formed events ≡ x → after 99 left.store state ≡ run_over store state events setup
      go true listed = absurd (false≢true (ap gives (sym none ∙ ap (λ (x : AfterRun). x.reply) (is-listed listed))))
      go false unlike =
          ap (λ (x : AfterRun). after 99 x.store state) (unlisted unlike) ∙ sym (no-list setup store state events unlike)

  module _ (answer : Answer) (gave : left.reply ≡ Some answer) (result : ℕ) (number : result ≡ result_of answer) where
    listed : formed events ≡ true
    listed = go (formed events) refl
      where
        go : (x : Bool) → formed events ≡ x → x ≡ true
        go true holds = refl
        go false unlike = absurd (false≢true (ap gives (sym (ap (λ (x : AfterRun). x.reply) (unlisted unlike)) ∙ gave)))

    -- its answer is the last one
    last : answer ≡ (final setup store (events_in events)).answer
    unfolding answer_in
    last = sym (ap answer_in gave) ∙ ap (λ (x : AfterRun). answer_in x.reply) (is-listed listed)

    -- a refused bank leaves all
    pub reply-bank : is_bank answer ≡ true → after result left.store state ≡ run_over store state events setup
    unfolding result_of
    reply-bank bank = go (found_in setup.bank) refl
      where
        go : (found : Checked) → found_in setup.bank ≡ found → after result left.store state ≡ run_over store state events setup
        go (Ok done) ok = absurd (false≢true (sym (accepted-final setup store ok (events_in events)) ∙ ap is_bank (sym last) ∙ bank))
        go (Err refusal) denied =
            let ended = refused-final setup store denied (events_in events) in
            (λ i. after ((number ∙ ap result_of (last ∙ ap (λ (x : Left). x.answer) ended)) i) left.store state)
            ∙ ap (λ (x : AfterRun). after (result_of (Err (AnyRefusal.Bank refusal))) x.store state) (is-listed listed ∙ ap given ended)
            ∙ sym (bank-refused setup store state events listed denied)

    -- any other answer is that of a list that was run over an accepted bank
    pub reply-run : is_bank answer ≡ false → roomy state ≡ true → sized store ≡ true → all_in_range setup.config.alarms ≡ true → (bytes : List ℕ)
        → bytes ≡ cond (roomy state) (state_bytes left.state) state → after result left.store bytes ≡ run_over store state events setup
    unfolding list_leaves
    reply-run other room whole right bytes wrote =
        let written : bytes ≡ state_bytes left.state = wrote ∙ rw room in
        (λ i. after ((number ∙ ap result_of last) i) left.store (written i))
        ∙ ap (λ (x : AfterRun). after (result_of (final setup store (events_in events)).answer) x.store (state_bytes x.state)) (is-listed listed)
        ∙ sym (is-run setup store state events listed accepted room whole right)
      where
        go : (found : Checked) → found_in setup.bank ≡ found → found ≡ Accepted
        go (Ok done) ok = refl
        go (Err refusal) denied =
            absurd (false≢true (sym other ∙ ap is_bank (last ∙ ap (λ (x : Left). x.answer) (refused-final setup store denied (events_in events)))))

        accepted : found_in setup.bank ≡ Accepted
        accepted = go (found_in setup.bank) refl
