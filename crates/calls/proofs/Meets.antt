-- What a run of a list of events leaves, by cases, and that demand 3 holds of it.
-- Assumes nothing.
use Prim.Native.Nat.{ℕ}
use mathlib.Core.Path.{◌≡◌, ap, ◌∙◌}
use mathlib.Core.Bool.{true, false}
use mathlib.Core.List.{List}
use Rattle.setting.specs.Found.{numbers_of as bank_numbers, Accepted}
use Rattle.setting.specs.declared.BankRefusal.{BankRefusal}
use Rattle.std.specs.Prelude.{Err}
use Rattle.bank.specs.Check.{found_in}
use Rattle.alarm.specs.Alarm.{all_in_range}
use Rattle.plain.specs.Record.{sized}
use Rattle.plain.specs.Setup.{Setup, over}
use Rattle.plain.specs.Answer.{number_of}
use Rattle.plain.specs.Event.{retained_in, final}
use Rattle.plain.specs.Listed.{events_in, formed}
use Rattle.demand.proofs.Demand.{demand3}
use Rattle.calls.specs.Result.{packed}
use Rattle.calls.specs.Carried.{state_in, roomy}
use Rattle.calls.specs.Config.{config_in}
use Rattle.calls.specs.Calls.{After, after, list_leaves, run_over, run_leaves, RunMeets}
use Rattle.calls.proofs.Round.{state-back}
use Rattle.calls.proofs.Chain.{final-carriable}

module _ (setup : Setup) (store state events : List ℕ) where
  -- ---- the cases of a run: bytes that are no list, a refused bank, a state buffer of another length, a record of another length, settings out of
  -- range, a run

  pub no-list : formed events ≡ false → run_over store state events setup ≡ after 99 store state
  unfolding run_over
  no-list listed = rw listed

  pub bank-refused : {refusal : BankRefusal} → formed events ≡ true → found_in setup.bank ≡ Err refusal
      → run_over store state events setup ≡ after (packed (bank_numbers (Err refusal))) store state
  unfolding run_over
  bank-refused listed wrong = rw (listed, wrong)

  module _ (listed : formed events ≡ true) (ok : found_in setup.bank ≡ Accepted) where
    pub no_room : roomy state ≡ false → run_over store state events setup ≡ after 21 store state
    unfolding run_over number_of
    no_room room = rw (listed, ok, room)

    pub no_record_lem : roomy state ≡ true → sized store ≡ false → run_over store state events setup ≡ after 22 store state
    unfolding run_over retained_in number_of
    no_record_lem room whole = rw (listed, ok, room, whole)

    pub no-setting : roomy state ≡ true → sized store ≡ true → all_in_range setup.config.alarms ≡ false
        → run_over store state events setup ≡ after 41 store state
    unfolding run_over retained_in number_of
    no-setting room whole right = rw (listed, ok, room, whole, right)

    pub is-run : roomy state ≡ true → sized store ≡ true → all_in_range setup.config.alarms ≡ true
        → run_over store state events setup ≡ list_leaves (final setup store (events_in events))
    unfolding run_over retained_in
    is-run room whole right = rw (listed, ok, room, whole, right)

-- ---- demand 3 of what a run leaves

module _ (bank config store state events : List ℕ) where
  pub run-meets : RunMeets bank config store state events (run_leaves bank config store state events)
  unfolding run_leaves list_leaves
  run-meets fits ok whole room listed =
      let setup = over bank (config_in config) in
      let left = final setup store (events_in events) in
      let ran : run_leaves bank config store state events ≡ list_leaves left =
      rw fits (is-run setup store state events listed ok.bank room whole ok.alarms) in
      record {
        of = left;
        demand = demand3 setup store ok whole (events_in events);
        is = ran;
        read = ap (λ (left_by : After). state_in left_by.state) ran ∙ state-back left.state (final-carriable setup ok store whole (events_in events));
      }
