-- The laws of the record: what was written is read back, and what was read is written back. They hold of any parts one behind the other; the
-- record adds a line for each of its parts.
-- Assumes nothing.
use Prim.Native.Nat.{ℕ, suc, ◌+◌, ◌*◌, ◌<◌, ◌≤◌}
use mathlib.Core.Path.{◌≡◌, refl, sym, ap, ◌∙◌}
use mathlib.Core.List.{List, [], ◌∷◌, ◌++◌, append_assoc, append-nil}
use native.Mathlib.Nat.{add-zero, mul-add, mul-one}
use native.Mathlib.Numerals.{add-one}
use native.Mathlib.Omega.{arith}
use lib.ListN.{length, take, drop, get_or, replicate, length-append, length-replicate, get_or-replicate}
use lib.Seq.{sets, take_all, drop_at, drop-drop, drop-cons}
use mir.Syntax.{w16}
use mir.Val.{SFits, to_z}
use mir.Facts.{to_z-of_z, Fits-of_z, sfits_to_z}
use Rattle.field.specs.Field.{field, signed_field, digits}
use Rattle.field.specs.Row.{row, row_at, total}
use Rattle.field.proofs.Laws.{Bytes, field_below, signed-bits}
use Rattle.field.proofs.Rows.{Held, none, held, held_all, length-row, row-append, sets_rows, sets-all, row-turn, read-row, row_read, below_row, length-row_at}
use Rattle.position.specs.declared.Position.{Position}
use Rattle.alarm.specs.Part.{alarms_at}
use Rattle.alarm.proofs.Written.{AllRanged, alarms-held, alarms_from as numbered-alarms, alarms-row, alarms-ranged}
use Rattle.plain.specs.Record.{Part, widths_of, size_of, numbers_in, Checkpoint, position_widths, credit_widths, parts}
use Rattle.plain.specs.Record.{record_size, credits_from, alarms_from, record_of, position_in, credits_in, alarms_in, checkpoint_in}

-- ---- rows

-- numbers below their widths' powers are as many as the widths
length-held : {widths numbers : List ℕ} → Held widths numbers → length widths ≡ length numbers
length-held none = refl
length-held (held list holds) = omega (arith, length-held holds)

-- a row, and behind it another, read as one
rows_behind : (widths others store : List ℕ) (at : ℕ) → row_at (widths ++ others) store at ≡ row_at widths store at ++ row_at others store (at + total widths)
unfolding row_at total
rows_behind [] others store at = rw add-zero
rows_behind (width ∷ widths) others store at =
    let next : at + width + total widths ≡ at + (width + total widths) = omega arith in
    ap (λ (list : List ℕ). field width store at ∷ list) (rw next at (rows_behind widths others store (at + width)))

-- a turn of a loop that writes numbers of one width: the rest of them, stored behind the number
pub put-turn : (store numbers : List ℕ) (at i width count : ℕ) → i < count → i < length numbers
    → sets (sets store (at + width * i) (digits width (get_or numbers i 0))) (at + width * (i + 1)) (row (drop (i + 1) (replicate count width)) (drop (i + 1) numbers))
    ≡ sets store (at + width * i) (row (drop i (replicate count width)) (drop i numbers))
put-turn store numbers at i width count holds list =
    let widths = replicate count width in
    let less : i < length widths = rw (length-replicate {A = ℕ} count width) holds in
    let same : get_or widths i 0 ≡ width = get_or-replicate {A = ℕ} count i width 0 holds in
    let next : at + width * (i + 1) ≡ at + width * i + width = rw (mul-add, mul-one) (omega arith) in
    rw (next, drop-cons widths i 0 less, drop-cons numbers i 0 list, same, add-one)
    (row-turn store (drop (suc i) widths) (drop (suc i) numbers) (at + width * i) width (get_or numbers i 0))

-- ---- parts one behind the other

module _ {A : Type 0} (given : A) where
  -- each part has as many numbers as widths
  abbrev pub Paired : List (Part A) → Type 0
  Paired [] = Unit {0}
  Paired (part ∷ list) = (length part.widths ≡ length (part.numbers given)) × Paired list

  -- each number is below its width's power
  abbrev pub Within : List (Part A) → Type 0
  Within [] = Unit {0}
  Within (part ∷ list) = Held part.widths (part.numbers given) × Within list

  -- each part's numbers stand in bytes from an offset on
  abbrev pub Stand : List (Part A) → List ℕ → ℕ → Type 0
  Stand [] store at = Unit {0}
  Stand (part ∷ list) store at = (row_at part.widths store at ≡ part.numbers given) × Stand list store (at + total part.widths)

  pub length-parts : (list : List (Part A)) → Paired list → length (widths_of list) ≡ length (numbers_in list given)
  unfolding widths_of numbers_in
  length-parts [] holds = refl
  length-parts (part ∷ list) holds = simp length-append (omega (arith, holds.0, length-parts list holds.1))

  -- parts stored one after the other are stored whole
  abbrev pub put : List (Part A) → List ℕ → ℕ → List ℕ
  put [] store at = store
  put (part ∷ list) store at = put list (sets store at (row part.widths (part.numbers given))) (at + total part.widths)

  pub put-parts : (list : List (Part A)) (store : List ℕ) (at : ℕ) → Paired list → put list store at ≡ sets store at (row (widths_of list) (numbers_in list given))
  unfolding widths_of numbers_in row
  put-parts [] store at holds = refl
  put-parts (part ∷ list) store at holds =
      put-parts list (sets store at (row part.widths (part.numbers given))) (at + total part.widths) holds.1
      ∙ sets_rows part.widths (part.numbers given) (widths_of list) (numbers_in list given) store at holds.0

  -- parts that were written stand there
  pub stand-written : (list : List (Part A)) (store rest : List ℕ) (at : ℕ) → Within list → drop at store ≡ row (widths_of list) (numbers_in list given) ++ rest
      → Stand list store at
  unfolding widths_of numbers_in
  stand-written [] store rest at holds same = tt
  stand-written (part ∷ list) store rest at holds same =
      let widths = part.widths in
      let numbers = part.numbers given in
      let behind = row (widths_of list) (numbers_in list given) in
      let size = length-held holds.0 in
      let first : drop at store ≡ row widths numbers ++ (behind ++ rest) =
      same ∙ ap (λ (bytes : List ℕ). bytes ++ rest) (sym (row-append widths numbers (widths_of list) (numbers_in list given) size))
      ∙ append_assoc (row widths numbers) behind rest in
      let next : drop (at + total widths) store ≡ behind ++ rest =
      sym (drop-drop (total widths) at store) ∙ ap (drop (total widths)) first
      ∙ drop_at (row widths numbers) (behind ++ rest) (total widths) (length-row widths numbers size) in
      (read-row store at (behind ++ rest) holds.0 first, stand-written list store rest (at + total widths) holds.1 next)

  -- the numbers of parts that stand there are those that are read
  numbers-read : (list : List (Part A)) (store : List ℕ) (at : ℕ) → Stand list store at → row_at (widths_of list) store at ≡ numbers_in list given
  unfolding widths_of numbers_in row_at
  numbers-read [] store at holds = refl
  numbers-read (part ∷ list) store at holds =
      rows_behind part.widths (widths_of list) store at ∙ (λ i. holds.0 i ++ numbers-read list store (at + total part.widths) holds.1 i)

  -- parts that stand there are written as the bytes that they stand in
  pub written-stand : (list : List (Part A)) (store : List ℕ) (at : ℕ) → Bytes store → at + size_of list ≤ length store → Stand list store at
      → row (widths_of list) (numbers_in list given) ≡ take (size_of list) (drop at store)
  written-stand list store at small fits holds =
      ap (row (widths_of list)) (sym (numbers-read list store at holds)) ∙ row_read (widths_of list) store at small fits

-- ---- the record

-- each number of a checkpoint is in its type's range, and there are 99 credits
pub record Ranged (checkpoint : Checkpoint) : Type 0 where
  pub mode : checkpoint.position.mode < 256
  pub pattern : checkpoint.position.pattern < 256
  pub step : checkpoint.position.step < 256
  pub pass : checkpoint.position.pass < 65536
  pub elapsed : checkpoint.position.elapsed < 4294967296
  pub waited : checkpoint.position.waited < 4294967296
  pub base : SFits w16 checkpoint.position.base
  pub long : length checkpoint.credits ≡ 99
  pub each : (i : ℕ) → get_or checkpoint.credits i 0 < 4294967296
  pub alarms : AllRanged checkpoint.alarms

-- ---- written

paired : (checkpoint : Checkpoint) → length checkpoint.credits ≡ 99 → Paired checkpoint parts
unfolding credit_widths
paired checkpoint holds = (refl, (length-replicate {A = ℕ} 99 4 ∙ sym holds, (refl, tt)))

pub length-record : (checkpoint : Checkpoint) → length checkpoint.credits ≡ 99 → length (record_of checkpoint) ≡ record_size
unfolding record_of
length-record checkpoint holds =
    length-row (widths_of parts) (numbers_in parts checkpoint) (length-parts checkpoint parts (paired checkpoint holds))

-- parts stored one after the other in a buffer of the record's size leave nothing of what was there
pub put_record : (checkpoint : Checkpoint) (store : List ℕ) → length checkpoint.credits ≡ 99 → length store ≡ record_size
    → put checkpoint parts store 0 ≡ record_of checkpoint
unfolding record_of
put_record checkpoint store holds size =
    put-parts checkpoint parts store 0 (paired checkpoint holds)
    ∙ sets-all (record_of checkpoint) store (size ∙ sym (length-record checkpoint holds))

-- ---- written, then read

pub within : (checkpoint : Checkpoint) → Ranged checkpoint → Within checkpoint parts
unfolding credit_widths
within checkpoint holds = (
  held holds.mode (held holds.pattern (held holds.step (held holds.pass (held holds.elapsed (held holds.waited
      (held (Fits-of_z holds.base).fits none)))))),
  (held_all 4 99 checkpoint.credits holds.long holds.each, (alarms-held checkpoint.alarms holds.alarms, tt)),
)

stand-record : (checkpoint : Checkpoint) → Ranged checkpoint → Stand checkpoint parts (record_of checkpoint) 0
unfolding record_of
stand-record checkpoint holds =
    stand-written checkpoint parts (record_of checkpoint) [] 0 (within checkpoint holds) (sym (append-nil (record_of checkpoint)))

-- the position that has these numbers
abbrev pub position_from : List ℕ → Position
position_from numbers =
    record {
      mode = get_or numbers 0 0;
      pattern = get_or numbers 1 0;
      step = get_or numbers 2 0;
      pass = get_or numbers 3 0;
      elapsed = get_or numbers 4 0;
      waited = get_or numbers 5 0;
      base = to_z w16 (get_or numbers 6 0);
    }

position-row : (store : List ℕ) → position_in store ≡ position_from (row_at position_widths store 0)
unfolding position_in signed_field row_at
position-row store = refl

position-back : (checkpoint : Checkpoint) → Ranged checkpoint → position_in (record_of checkpoint) ≡ checkpoint.position
position-back checkpoint holds =
    position-row (record_of checkpoint) ∙ ap position_from (stand-record checkpoint holds).0 ∙ rw (to_z-of_z holds.base)

credits-back : (checkpoint : Checkpoint) → Ranged checkpoint → credits_in (record_of checkpoint) ≡ checkpoint.credits
unfolding credits_in widths_of total
credits-back checkpoint holds = (stand-record checkpoint holds).1.0

alarms-back : (checkpoint : Checkpoint) → Ranged checkpoint → alarms_in (record_of checkpoint) ≡ checkpoint.alarms
unfolding alarms_in credit_widths widths_of total
alarms-back checkpoint holds = alarms-row (record_of checkpoint) alarms_from ∙ ap numbered-alarms (stand-record checkpoint holds).1.1.0

-- what was written is read back
pub read_back : (checkpoint : Checkpoint) → Ranged checkpoint → checkpoint_in (record_of checkpoint) ≡ checkpoint
read_back checkpoint holds =
    λ i. record { position = position-back checkpoint holds i; credits = credits-back checkpoint holds i; alarms = alarms-back checkpoint holds i }

-- ---- read, then written

-- what is read from bytes is in its range
pub ranged : (store : List ℕ) → Bytes store → Ranged (checkpoint_in store)
unfolding position_in credits_in alarms_in signed_field credit_widths
ranged store small =
    record {
      mode = field_below 1 store 0 small;
      pattern = field_below 1 store 1 small;
      step = field_below 1 store 2 small;
      pass = field_below 2 store 3 small;
      elapsed = field_below 4 store 5 small;
      waited = field_below 4 store 9 small;
      base = sfits_to_z (record { fits = field_below 2 store 13 small });
      long = length-row_at credit_widths store credits_from;
      each = below_row 4 99 store credits_from small;
      alarms = alarms-ranged store alarms_from small;
    }

stand_read : (store : List ℕ) → Bytes store → Stand (checkpoint_in store) parts store 0
unfolding position_in credits_in alarms_in alarms_at row_at widths_of total credit_widths
stand_read store small = (rw (signed-bits w16 store 13 small), (refl, (refl, tt)))

-- bytes of the record's size, read and written again, are the same bytes
pub written_back : (store : List ℕ) → Bytes store → length store ≡ record_size → record_of (checkpoint_in store) ≡ store
unfolding record_of
written_back store small size =
    let fits : length store ≤ record_size = omega arith in
    written-stand (checkpoint_in store) parts store 0 small (omega arith) (stand_read store small) ∙ take_all record_size store fits
