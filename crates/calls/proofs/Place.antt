-- Numbers written in their places among bytes. They hold of any widths and places.
-- Assumes nothing.
use Prim.Native.Nat.{ℕ, zero, suc, ◌+◌, ◌*◌, ◌<◌, ◌≤◌}
use mathlib.Core.Path.{◌≡◌, refl, sym, ap, ◌∙◌}
use mathlib.Core.List.{List, [], ◌∷◌, ◌++◌, append_assoc}
use native.Mathlib.Nat.{mul-add, mul-one}
use native.Mathlib.Numerals.{add-one}
use native.Mathlib.Omega.{arith}
use lib.ListN.{length, take, drop, get_or, set, replicate, take-append-drop, length-drop}
use lib.Seq.{sets, sets-eq, length-sets, length-take-le, drop-drop, drop-set-lt}
use Rattle.field.specs.Field.{field, digits}
use Rattle.field.specs.Row.{row, row_at, total}
use Rattle.field.proofs.Laws.{Bytes, length_digits, read-after, digits-field, sets-append}
use Rattle.field.proofs.Rows.{row_read}

-- ---- bytes that are written as they stand

-- what stands behind the bytes that are written stays
drop-sets : (new bytes : List ℕ) (at from : ℕ) → at + length new ≤ from → drop from (sets bytes at new) ≡ drop from bytes
drop-sets [] bytes at from h = refl
drop-sets (x ∷ new) bytes at from h =
    drop-sets new (set bytes at x) (suc at) from (omega arith) ∙ drop-set-lt from bytes at x (omega arith)

-- bytes written where they stand change nothing
stays : (bytes : List ℕ) (at count : ℕ) → at + count ≤ length bytes → sets bytes at (take count (drop at bytes)) ≡ bytes
stays bytes at count h =
    let part = take count (drop at bytes) in
    let size : length part ≡ count = length-take-le count (drop at bytes) (omega (arith, length-drop at bytes)) in
    sets-eq part bytes at (omega arith)
    ∙ ap (λ (end : ℕ). take at bytes ++ part ++ drop (at + end) bytes) size
    ∙ ap (λ (rest : List ℕ). take at bytes ++ part ++ rest) (sym (drop-drop count at bytes))
    ∙ append_assoc (take at bytes) part (drop count (drop at bytes))
    ∙ ap (λ (rest : List ℕ). take at bytes ++ rest) (take-append-drop count (drop at bytes))
    ∙ take-append-drop at bytes

-- ---- numbers that are written as they stand

-- behind bytes that are new
pub rows_stay : (new widths bytes : List ℕ) (at : ℕ) → Bytes bytes → at + length new + total widths ≤ length bytes
    → sets bytes at (new ++ row widths (row_at widths bytes (at + length new))) ≡ sets bytes at new
rows_stay new widths bytes at small h =
    let from = at + length new in
    let written = sets bytes at new in
    let same : row widths (row_at widths bytes from) ≡ take (total widths) (drop from written) =
    row_read widths bytes from small h ∙ ap (take (total widths)) (sym (drop-sets new bytes at from (omega arith))) in
    sym (sets-append new (row widths (row_at widths bytes from)) bytes at)
    ∙ ap (sets written from) same
    ∙ stays written from (total widths) (omega (arith, length-sets bytes at new))

-- numbers behind bytes that are new
pub rows-after : (widths new bytes : List ℕ) (at from : ℕ) → at + length new ≤ from → row_at widths (sets bytes at new) from ≡ row_at widths bytes from
unfolding row_at
rows-after [] new bytes at from h = refl
rows-after (width ∷ widths) new bytes at from h =
    λ i. read-after width new bytes at from h i ∷ rows-after widths new bytes at (from + width) (omega arith) i

-- ---- one number of many of one width

-- the number at a place
pub number_at : (width m : ℕ) (bytes : List ℕ) (at i : ℕ) → i < m → get_or (row_at (replicate m width) bytes at) i 0 ≡ field width bytes (at + width * i)
unfolding row_at
number_at width zero bytes at i h = absurd (omega arith)
number_at width (suc m) bytes at zero h = ap (field width bytes) (omega arith)
number_at width (suc m) bytes at (suc i) h =
    let next : at + width + width * i ≡ at + width * suc i = rw (← add-one, mul-add, mul-one) (omega arith) in
    number_at width m bytes (at + width) i (omega arith) ∙ ap (field width bytes) next

-- the others as they stand, one number changed: that number is written
pub number-set : (width m : ℕ) (bytes : List ℕ) (at i value : ℕ) → Bytes bytes → at + total (replicate m width) ≤ length bytes → i < m
    → sets bytes at (row (replicate m width) (set (row_at (replicate m width) bytes at) i value)) ≡ sets bytes (at + width * i) (digits width value)
unfolding row row_at total
number-set width zero bytes at i value small fits h = absurd (omega arith)
number-set width (suc m) bytes at zero value small fits h =
    let widths = replicate m width in
    let new = digits width value in
    let size = length_digits width value in
    let first : at ≡ at + width * 0 = omega arith in
    ap (λ (end : ℕ). sets bytes at (new ++ row widths (row_at widths bytes (at + end)))) (sym size)
    ∙ rows_stay new widths bytes at small (omega arith)
    ∙ ap (λ (place : ℕ). sets bytes place new) first
number-set width (suc m) bytes at (suc i) value small fits h =
    let widths = replicate m width in
    let rest = row widths (set (row_at widths bytes (at + width)) i value) in
    let first = digits width (field width bytes at) in
    let size : length first ≡ width = length_digits width (field width bytes at) in
    let next : at + width + width * i ≡ at + width * suc i = rw (← add-one, mul-add, mul-one) (omega arith) in
    sym (sets-append first rest bytes at)
    ∙ ap (λ (end : ℕ). sets (sets bytes at first) (at + end) rest) size
    ∙ ap (λ (before : List ℕ). sets before (at + width) rest)
    (ap (sets bytes at) (digits-field width bytes at small (omega arith)) ∙ stays bytes at width (omega arith))
    ∙ number-set width m bytes (at + width) i value small (omega arith) (omega arith)
    ∙ ap (λ (place : ℕ). sets bytes place (digits width value)) next
