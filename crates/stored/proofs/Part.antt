-- Numbers made as bytes in their part of a buffer, or copied into it.
-- Assumes nothing.
use Prim.Native.Nat.{ℕ, suc, ◌+◌, ◌-◌, ◌%◌, ◌≤◌, ◌<◌}
use mathlib.Core.Path.{◌≡◌, sym, ap, ◌∙◌}
use mathlib.Core.Bool.{cond}
use mathlib.Core.List.{List, ◌++◌, append_assoc}
use native.Mathlib.Numerals.{add-one}
use native.Mathlib.Omega.{arith}
use borrow.Author.Tests.{eq-eqb}
use borrow.Rule.Slice.PartMut.{mid_of, put_mid}
use lib.Dec.{eqb}
use lib.ListN.{length, take, drop, get_or, set, length-take, length-drop}
use lib.Seq.{sets, sets-eq, drop-drop, length-take-le, drop-cons, set_at, take-suc, append_snoc}
use Rattle.field.specs.Field.{digits}
use Rattle.field.specs.Row.{row, total, stored_row}
use Rattle.field.proofs.Laws.{length_digits}
use Rattle.field.proofs.Rows.{length-row, stored_row_lem}

-- a byte is its own low byte
pub byte-digit : (byte : ℕ) → byte < 256 → byte ≡ byte % 256
byte-digit byte small = omega arith

-- bytes in the place of a part of as many, from an offset to an end, are the bytes written there
pub part-sets : (bytes made : List ℕ) (at end : ℕ) → at + length made ≡ end → end ≤ length bytes → put_mid at (end - at) bytes made ≡ sets bytes at made
part-sets bytes made at end whole room =
    let size : end - at ≡ length made = omega arith in
    rw size
    (sym
    (sets-eq made bytes at (omega arith)
    ∙ ap (λ (rest : List ℕ). take at bytes ++ made ++ rest) (sym (drop-drop (length made) at bytes))
    ∙ append_assoc (take at bytes) made (drop (length made) (drop at bytes))))

-- the bytes of a number, made in their place, are the number written there
pub part-digits : (bytes made : List ℕ) (at end width v : ℕ) → end ≡ at + width → end ≤ length bytes → made ≡ digits (length (take (end - at) (drop at bytes))) v
    → put_mid at (end - at) bytes made ≡ sets bytes at (digits width v)
part-digits bytes made at end width v whole room same =
    let size : length (take (end - at) (drop at bytes)) ≡ width = length-take (end - at) (drop at bytes) ∙ omega (arith, length-drop at bytes) in
    rw (same, size) (part-sets bytes (digits width v) at end (omega (arith, length_digits width v)) room)

-- the bytes of a row, made, and copied into their place of a buffer that has room for them, are the row written there
pub copied-row : (widths numbers bytes made left : List ℕ) (at : ℕ) → length widths ≡ length numbers → at ≤ length bytes → total widths ≤ length bytes - at
    → made ≡ row widths numbers
    → left ≡ cond (eqb (length (mid_of at (at + total widths - at) bytes)) (length made)) made (mid_of at (at + total widths - at) bytes)
    → put_mid at (at + total widths - at) bytes left ≡ stored_row widths bytes at numbers
copied-row widths numbers bytes made left at paired inside room same copied =
    let size : at + total widths - at ≡ total widths = omega arith in
    let part = take (total widths) (drop at bytes) in
    let long : length made ≡ total widths = ap length same ∙ length-row widths numbers paired in
    let even : length part ≡ length made = length-take (total widths) (drop at bytes) ∙ omega (arith, length-drop at bytes) in
    let whole : left ≡ made = rw (size, eq-eqb (length part) (length made) even) at copied in
    rw whole
    (part-sets bytes made at (at + total widths) (omega arith) (omega arith)
    ∙ ap (sets bytes at) same
    ∙ sym (stored_row_lem widths bytes at numbers (omega arith) (omega arith)))

-- a turn of a loop that copies
pub copy-turn : (store part : List ℕ) (i : ℕ) → i < length store → i < length part
    → set (take i part ++ drop i store) i (get_or part i 0) ≡ take (i + 1) part ++ drop (i + 1) store
copy-turn store part i h l =
    let front : length (take i part) ≡ i = length-take-le i part (omega arith) in
    rw (drop-cons store i 0 h, add-one)
    (set_at (take i part) (get_or store i 0) (drop (suc i) store) (get_or part i 0) i front
    ∙ sym (ap (λ (x : List ℕ). x ++ drop (suc i) store) (take-suc part i 0 l) ∙ append_snoc (take i part) (get_or part i 0) (drop (suc i) store)))
