-- Laws that shut out wrong bytes and wrong results: each says in its comment what it shuts out. They rest on the definitions alone.
-- Assumes nothing.
use Prim.Native.Nat.{ℕ, ◌+◌, ◌<◌}
use mathlib.Core.Path.{◌≡◌, refl, ap, ◌∙◌}
use mathlib.Core.Bool.{Bool, true, false, cond}
use mathlib.Core.List.{List, [], ◌∷◌}
use borrow.Author.Tests.{lt-leb}
use lib.IntN.{pos, negsuc}
use lib.ListN.{take, drop, replicate}
use Rattle.field.specs.Field.{num, field, signed_field, digits}
use Rattle.field.specs.Row.{row, total}
use Rattle.bank.specs.Check.{found_in}
use Rattle.measure.specs.declared.Measured.{Measured}
use Rattle.position.specs.Tests.{both}
use Rattle.alarm.specs.Alarm.{all_in_range}
use Rattle.plain.specs.declared.Refusal.{Refusal}
use Rattle.plain.specs.Answer.{number_of, is_accepted}
use Rattle.plain.specs.Event.{State, After}
use Rattle.plain.specs.Record.{widths_of, numbers_in, credit_widths, sized}
use Rattle.plain.specs.Setup.{Setup}
use Rattle.plain.specs.Listed.{formed}
use Rattle.calls.specs.Result.{packed, signal_bits, result_of}
use Rattle.calls.specs.Carried.{kind_of, bits_of, state_size, rest_from, state_bytes, state_in, roomy, is_state, carried_out}
use Rattle.calls.specs.Config.{alarm_setting_at}
use Rattle.calls.specs.Calls.{After as AfterCall, run_over}
use Rattle.calls.proofs.Meets.{no-setting}
use Rattle.std.specs.Prelude.{Ok, Err}
use Rattle.plain.specs.declared.AnyRefusal.{AnyRefusal}
use Rattle.setting.specs.Found.{Accepted}

-- ---- a state as bytes

-- it has 434 bytes, and u stands at 424
pub state-size : (state_size ≡ 434) × (rest_from ≡ 424)
unfolding widths_of credit_widths total
state-size = (refl, refl)

-- the state of a paused run, over range
abbrev example : State
example =
    record {
      power = true;
      run =
          record {
            position = record { mode = 2; pattern = 3; step = 4; pass = 5; elapsed = 6; waited = 7; base = pos 8 };
            unsaved = 59;
            measured = Measured.Over;
            alarms =
                record {
                  first = record { flags = 1; count = 10 };
                  second = record { flags = 2; count = 11 };
                  third = record { flags = 3; count = 12 };
                  fourth = record { flags = 0; count = 13 };
                };
          };
      credits = replicate 99 9;
    }

-- power stands first, then the record; u, the kind (over is 1) and y stand last, whatever a reader of the same mind would read back
pub state-order : (take 5 (state_bytes example) ≡ 1 ∷ 2 ∷ 3 ∷ 4 ∷ 5 ∷ []) × (take 3 (drop 424 (state_bytes example)) ≡ 59 ∷ 1 ∷ 0 ∷ [])
unfolding state_bytes kind_of bits_of widths_of numbers_in credit_widths row digits
state-order = (refl, refl)

-- and u is read from its own byte
pub u-read : (state_in (state_bytes example)).run.unsaved ≡ 59
unfolding state_in state_bytes kind_of bits_of widths_of numbers_in credit_widths row digits field num total
u-read = refl

-- both fail by the second, or by the first
module _ (test other : Bool) where
  by-second : other ≡ false → both test other ≡ false
  unfolding both
  by-second holds = ap (both test) holds ∙ never test
    where
      never : (test : Bool) → both test false ≡ false
      never true = refl
      never false = refl

  by_first : test ≡ false → both test other ≡ false
  unfolding both
  by_first holds = ap (λ (either-test : Bool). both either-test other) holds

module _ (bytes : List ℕ) where
  -- bytes with a power above 1, or a kind above 3, are no state
  pub power-known : 1 < field 1 bytes 0 → is_state bytes ≡ false
  unfolding is_state
  power-known holds = by-second _ _ (by_first _ _ (lt-leb _ _ holds))

  pub kind-known : 3 < field 1 bytes (rest_from + 1) → is_state bytes ≡ false
  unfolding is_state
  kind-known holds = by-second _ _ (by-second _ _ (by_first _ _ (lt-leb _ _ holds)))

  -- a refusal does not write the state's bytes
  pub refused-bytes : (left : After) → is_accepted left.answer ≡ false → (carried_out bytes left).bytes ≡ bytes
  unfolding carried_out
  refused-bytes left holds = ap (λ (test : Bool). cond test (state_bytes left.state) bytes) holds

-- ---- the settings beside the bank

-- kind, H, L, C, delay, flags, low byte first
pub setting-order : alarm_setting_at (7 ∷ 1 ∷ 2 ∷ 254 ∷ 255 ∷ 3 ∷ 1 ∷ 4 ∷ 2 ∷ 3 ∷ []) 0
    ≡ record { kind = 7; high = pos 513; low = negsuc 1; sensitivity = 259; delay = 516; flags = 3 }
unfolding alarm_setting_at field signed_field num
setting-order = refl

-- settings out of range leave the state's bytes to a run of a list too
pub setting-leaves : (setup : Setup) (store state events : List ℕ) → formed events ≡ true → found_in setup.bank ≡ Accepted → roomy state ≡ true
    → sized store ≡ true → all_in_range setup.config.alarms ≡ false → (run_over store state events setup).state ≡ state
setting-leaves setup store state events listed ok room whole right =
    ap (λ (left : AfterCall). left.state) (no-setting setup store state events listed ok room whole right)

-- ---- a result as one number

-- its first value stands at bit 8, its second at bit 24
pub values-apart : packed (14 ∷ 3 ∷ 2 ∷ []) ≡ 33555214
unfolding packed
values-apart = refl

-- the first signal is the lowest of the four bits
pub signals-apart : signal_bits (record { first = true; second = false; third = true; fourth = false }) ≡ 5
unfolding signal_bits
signals-apart = refl

-- a set value below 0 does not reach the signals: −1 is 65,535 at bit 32
pub value-apart : result_of (Ok (record { value = negsuc 0; signals = record { first = true; second = true; third = false; fourth = false } }))
    ≡ 1125895611875328
unfolding result_of signal_bits
value-apart = refl

-- a refusal has the document's number
pub refusal-number : (refusal : Refusal) → result_of (Err (AnyRefusal.Own refusal)) ≡ number_of refusal
unfolding result_of
refusal-number refusal = refl
