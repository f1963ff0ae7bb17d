-- What each call of the library leaves: its result and its buffers.
-- Assumes nothing.
use Rattle.std.specs.Prelude.{ℕ, ◌≡◌, Bool, true, cond, not, List, ◌∷◌, eqb, ℤ, length}
use Rattle.field.specs.Field.{field}
use Rattle.field.specs.Tab.{tab}
use Rattle.setting.specs.Setting.{settings_at}
use Rattle.setting.specs.Found.{unless, numbers_of as bank_numbers}
use Rattle.bank.specs.View.{step_at}
use Rattle.bank.specs.Check.{found_in}
use Rattle.arrays.specs.declared.Patterns.{Patterns}
use Rattle.arrays.specs.Write.{After as Wrote, write_of}
use Rattle.position.specs.Tests.{both}
use Rattle.alarm.specs.Alarm.{all_in_range}
use Rattle.plain.specs.declared.Config.{Config}
use Rattle.plain.specs.declared.Refusal.{Refusal}
use Rattle.plain.specs.Record.{sized}
use Rattle.plain.specs.Setup.{Setup, over, Usable}
use Rattle.plain.specs.Answer.{number_of}
use Rattle.plain.specs.Refusals.{judged, call_rows}
use Rattle.plain.specs.Event.{After as Left, retained_in, final}
use Rattle.plain.specs.Listed.{event_of_kind, events_in, formed}
use Rattle.demand.specs.Demand.{Demand3}
use Rattle.calls.specs.Result.{packed, result_of}
use Rattle.calls.specs.Config.{config_sized, config_in}
use Rattle.calls.specs.Carried.{AfterCarried, state_bytes, state_in, roomy, make_carried, event_carried}
use Rattle.std.specs.Prelude.{Option, None, Some, Err}
use Rattle.plain.specs.declared.Event.{Event}

-- ---- cook_check

unfoldable pub check_result : List ℕ → ℕ
check_result bank = packed (bank_numbers (found_in bank))

-- ---- cook_write: settings of 45 bytes laid out as in a bank, 15 pairs of runs and s, 99 steps of nine bytes, pattern 1's first

unfoldable pub patterns_from : List ℕ → List ℕ → Patterns
patterns_from pairs steps =
    record { runs = tab (field 1 pairs) 2 0 15; counts = tab (field 1 pairs) 2 1 15; steps = tab (step_at steps) 9 0 99 }

-- the input has the lengths that it must have
unfoldable pub writable : List ℕ → List ℕ → List ℕ → Bool
writable settings pairs steps = both (eqb (length settings) 45) (both (eqb (length pairs) 30) (eqb (length steps) 891))

-- what writing leaves: its result and the buffer
pub record AfterWrite : Type 0 where
  pub result : ℕ
  pub bytes : List ℕ

-- input of other lengths is 99, and leaves the buffer
unfoldable pub write_leaves : List ℕ → List ℕ → List ℕ → List ℕ → AfterWrite
write_leaves settings pairs steps out =
    let wrote : Wrote = write_of (settings_at settings) (patterns_from pairs steps) out in
    cond (writable settings pairs steps) (record { result = packed wrote.numbers; bytes = wrote.bytes })
    (record { result = 99; bytes = out })

-- ---- what the other calls leave: the result, the record and the state's bytes

pub record After : Type 0 where
  pub result : ℕ
  pub store : List ℕ
  pub state : List ℕ

abbrev pub after : ℕ → List ℕ → List ℕ → After
after result store state = record { result = result; store = store; state = state }

abbrev pub resulting : AfterCarried → After
resulting left = after (result_of left.answer) left.store left.bytes

-- a config of another length is 99, before all else
abbrev pub configured : List ℕ → List ℕ → List ℕ → List ℕ → (Setup → After) → After
configured bank config store state leaves = cond (config_sized config) (leaves (over bank (config_in config))) (after 99 store state)

-- ---- cook_make

abbrev pub make_over : List ℕ → List ℕ → Setup → After
make_over store state setup = resulting (make_carried setup store state)

unfoldable pub make_leaves : List ℕ → List ℕ → List ℕ → List ℕ → After
make_leaves bank config store state = configured bank config store state (make_over store state)

-- ---- cook_event: a kind above 14 is 99

abbrev pub asked_over : List ℕ → List ℕ → Option Event → Setup → After
asked_over store state None setup = after 99 store state
asked_over store state (Some event) setup = resulting (event_carried setup store state event)

unfoldable pub event_leaves : List ℕ → List ℕ → List ℕ → List ℕ → ℕ → ℤ → After
event_leaves bank config store state kind v = configured bank config store state (asked_over store state (event_of_kind kind v))

-- ---- cook_run: bytes that are no list are 99, a state buffer of another length is 21; else making's refusals, or the state and record after
-- the list, and its last answer

unfoldable pub list_leaves : Left → After
list_leaves left = after (result_of left.answer) left.store (state_bytes left.state)

-- no row of those refusals is met: the buffers have their lengths, the settings are in range
unfoldable pub fitting : Config → List ℕ → List ℕ → Bool
fitting config store state = both (both (roomy state) (sized store)) (all_in_range config.alarms)

unfoldable pub run_over : List ℕ → List ℕ → List ℕ → Setup → After
run_over store state events setup =
    cond (formed events)
    (unless (found_in setup.bank) (λ refusal. after (packed (bank_numbers (Err refusal))) store state)
    (judged ((Refusal.Unsound, not (roomy state)) ∷ call_rows setup (retained_in setup store)) (λ refusal. after (number_of refusal) store state)
    (list_leaves (final setup store (events_in events)))))
    (after 99 store state)

unfoldable pub run_leaves : List ℕ → List ℕ → List ℕ → List ℕ → List ℕ → After
run_leaves bank config store state events = configured bank config store state (run_over store state events)

-- demand 3 of what it leaves: where all of that passes, what the buffers hold and the result says is a state, a record and an answer that
-- meet it, and the state's bytes read back are that state
pub record Replayed (setup : Setup) (events : List ℕ) (left : After) : Type 0 where
  pub of : Left
  pub demand : Demand3 setup (events_in events) of
  pub is : left ≡ list_leaves of
  pub read : state_in left.state ≡ of.state

abbrev pub RunMeets : List ℕ → List ℕ → List ℕ → List ℕ → List ℕ → After → Type 0
RunMeets bank config store state events left =
    config_sized config ≡ true → Usable (over bank (config_in config)) → sized store ≡ true → roomy state ≡ true → formed events ≡ true
    → Replayed (over bank (config_in config)) events left
