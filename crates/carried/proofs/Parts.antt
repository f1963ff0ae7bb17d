-- Parts of the bytes, written in their places.
-- Assumes nothing.
use Prim.Native.Nat.{ℕ, zero, suc, ◌+◌, ◌/◌, ◌≤◌, ◌<◌}
use mathlib.Core.Path.{◌≡◌, refl, sym, ap, subst, ◌∙◌}
use mathlib.Core.Bool.{Bool, true, false, cond}
use mathlib.Core.List.{List, [], ◌∷◌, ◌++◌, append_assoc}
use native.Mathlib.Omega.{arith}
use borrow.Author.Tests.{eqb-true, eq-eqb}
use borrow.Rule.Slice.PartMut.{put_mid, mid_of}
use lib.Dec.{eqb}
use lib.ListN.{length, take, drop, set, length-take, length-drop}
use lib.Seq.{sets, sets-eq, drop-drop}
use mir.Val.{bool_byte}
use Rattle.std.specs.Int.{w32, w64, to_le_bytes}
use Rattle.std.proofs.Common.{lit<}
use Rattle.std.proofs.lemmas.Grind.{common_steps}
use Rattle.field.specs.Field.{digits}
use Rattle.field.specs.Row.{row, total, stored_row}
use Rattle.field.proofs.Laws.{Bytes}
use Rattle.field.proofs.Rows.{stored_row_lem}
use Rattle.position.specs.declared.Position.{Position}
use Rattle.alarm.specs.declared.Alarms.{Alarms}
use Rattle.alarm.specs.Part.{alarm_widths, alarm_numbers}
use Rattle.plain.specs.declared.Effect.{Effect}
use Rattle.plain.specs.Record.{widths_of, credit_widths, position_widths, position_numbers, record_size, record_of, credits_in, sized}
use Rattle.plain.specs.Run.{credited}
use Rattle.plain.specs.Event.{State, checkpoint_for}
use Rattle.calls.specs.Carried.{state_size, rest_from, state_bytes, checkpoint_of}
use Rattle.calls.proofs.Written.{credits-behind, long-credited, written, record-part}
use Rattle.carried.specs.Bytes.{rest_bytes, retained_bytes}

-- the bytes of a part, put back, are written in its place
pub put-part : (at n : ℕ) (bytes part : List ℕ) → length part ≡ n → at + n ≤ length bytes → put_mid at n bytes part ≡ sets bytes at part
put-part at n bytes part size room =
    ap (λ (k : ℕ). put_mid at k bytes part) (sym size)
    ∙ rw (sets-eq part bytes at (omega arith), append_assoc, drop-drop)

-- the bytes of a number of 32 bits, and of 64
pub four-bytes : (x : ℕ) → to_le_bytes w32 x ≡ digits 4 x
unfolding digits
four-bytes x = grind (arith, common_steps)

pub eight-bytes : (x : ℕ) → to_le_bytes w64 x ≡ digits 8 x
unfolding digits
eight-bytes x = grind (arith, common_steps)

-- a position and alarms fit in their places of a state's bytes
module _ (bytes : List ℕ) (long : length bytes ≡ 434) where
  pub position-put : (position : Position) → stored_row position_widths bytes 1 (position_numbers position) ≡ sets bytes 1 (row position_widths (position_numbers position))
  unfolding total
  position-put position = stored_row_lem position_widths bytes 1 (position_numbers position) (omega arith) (omega arith)

  pub alarms-put : (alarms : Alarms) → stored_row alarm_widths bytes 412 (alarm_numbers alarms) ≡ sets bytes 412 (row alarm_widths (alarm_numbers alarms))
  unfolding total
  alarms-put alarms = stored_row_lem alarm_widths bytes 412 (alarm_numbers alarms) (omega arith) (omega arith)

-- ---- bytes that are written are below 256

bytes-digits : (width v : ℕ) → Bytes (digits width v)
unfolding digits
bytes-digits zero v i = lit< tt
bytes-digits (suc width) v zero = omega arith
bytes-digits (suc width) v (suc i) = bytes-digits width (v / 256) i

bytes-append : (xs ys : List ℕ) → Bytes xs → Bytes ys → Bytes (xs ++ ys)
bytes-append [] ys h k i = k i
bytes-append (x ∷ xs) ys h k zero = h zero
bytes-append (x ∷ xs) ys h k (suc i) = bytes-append xs ys (λ j. h (suc j)) k i

bytes-row : (widths numbers : List ℕ) → Bytes (row widths numbers)
unfolding row
bytes-row [] numbers i = lit< tt
bytes-row (width ∷ widths) [] i = lit< tt
bytes-row (width ∷ widths) (v ∷ numbers) i = bytes-append (digits width v) (row widths numbers) (bytes-digits width v) (bytes-row widths numbers) i

bytes-set : (bytes : List ℕ) (at x : ℕ) → x < 256 → Bytes bytes → Bytes (set bytes at x)
bytes-set [] at x small h i = h i
bytes-set (byte ∷ bytes) zero x small h zero = small
bytes-set (byte ∷ bytes) zero x small h (suc i) = h (suc i)
bytes-set (byte ∷ bytes) (suc at) x small h zero = h zero
bytes-set (byte ∷ bytes) (suc at) x small h (suc i) = bytes-set bytes at x small (λ j. h (suc j)) i

bytes-sets : (xs bytes : List ℕ) (at : ℕ) → Bytes xs → Bytes bytes → Bytes (sets bytes at xs)
bytes-sets [] bytes at small h = h
bytes-sets (x ∷ xs) bytes at small h = bytes-sets xs (set bytes at x) (suc at) (λ j. small (suc j)) (bytes-set bytes at x (small zero) h)

pub bytes-placed : (widths numbers bytes : List ℕ) (at : ℕ) (left : List ℕ) → left ≡ sets bytes at (row widths numbers) → Bytes bytes → Bytes left
bytes-placed widths numbers bytes at left is h = subst Bytes (sym is) (bytes-sets (row widths numbers) bytes at (bytes-row widths numbers) h)

-- ---- a state, written whole

-- a test as a byte
as_byte : (t : Bool) → bool_byte t ≡ cond t 1 0
as_byte true = refl
as_byte false = refl

pub state-put : (state : State) → length state.credits ≡ 99 → (bytes : List ℕ) → length bytes ≡ state_size
    → sets (sets (set bytes 0 (bool_byte state.power)) 1 (record_of (checkpoint_of state))) rest_from (rest_bytes state.run) ≡ state_bytes state
state-put state many bytes long =
    ap (λ (x : ℕ). sets (sets (set bytes 0 x) 1 (record_of (checkpoint_of state))) rest_from (rest_bytes state.run)) (as_byte state.power)
    ∙ written state many bytes long

-- ---- what an effect leaves

module _ (store bytes : List ℕ) (effect : Effect) where
  abbrev pub left_state : State
  left_state =
      record { power = effect.power; run = effect.run; credits = credited effect.credit (credits_in store) (credits_in (drop 1 bytes)) }

  many : length left_state.credits ≡ 99
  many = long-credited effect.credit store (drop 1 bytes)

  -- power, what is retained and the rest, written into a state's bytes
  pub effect-put : length bytes ≡ state_size
      → sets (sets (set bytes 0 (bool_byte effect.power)) 1 (retained_bytes effect.run.position effect.credit effect.run.alarms store (set bytes 0 (bool_byte effect.power)))) rest_from (rest_bytes effect.run)
      ≡ state_bytes left_state
  effect-put long =
      ap (λ (credits : List ℕ). sets (sets (set bytes 0 (bool_byte effect.power)) 1 (record_of (checkpoint_for effect.run (credited effect.credit (credits_in store) credits)))) rest_from (rest_bytes effect.run))
      (credits-behind bytes (bool_byte effect.power))
      ∙ state-put left_state many bytes long

  -- and the record among them, copied where it is saved
  pub effect-saved : (after : List ℕ) → after ≡ state_bytes left_state → length after ≡ state_size → sized store ≡ true
      → cond (eqb (length store) (length (mid_of 1 record_size after))) (mid_of 1 record_size after) store ≡ record_of (checkpoint_of left_state)
  unfolding credit_widths widths_of total sized
  effect-saved after is long whole =
      let size : length (take record_size (drop 1 after)) ≡ record_size = length-take record_size (drop 1 after) ∙ omega (arith, length-drop 1 after) in
      rw (eq-eqb (length store) (length (take record_size (drop 1 after))) (eqb-true (length store) record_size whole ∙ sym size))
      (ap (λ (x : List ℕ). take record_size (drop 1 x)) is ∙ record-part left_state many)
