-- What `put_row` leaves, where the row fits.
-- Assumes nothing.
use mathlib.Core.Path.{◌≡◌, ap, ◌∙◌}
use mathlib.Core.List.{List, ◌++◌}
use Prim.Native.Nat.{ℕ, ◌+◌, ◌≤◌}
use lib.IntN.{ℤ}
use lib.ListN.{length}
use lib.Seq.{sets}
use mir.Syntax.{w16}
use mir.Val.{SFits, to_z, of_z}
use mir.Facts.{to_z-of_z}
use Rattle.field.specs.Row.{row, total, stored_row}
use Rattle.field.proofs.Rows.{stored_row_lem, sets_rows}

-- the row of the numbers that the code holds, which are those that it is to write
pub row_put : (widths buffer : List ℕ) (at : ℕ) (us : List ℕ) {vs left : List ℕ} → left ≡ stored_row widths buffer at us → us ≡ vs → length widths ≤ length us → at + total widths ≤ length buffer
    → left ≡ sets buffer at (row widths vs)
row_put widths buffer at us told same h room = told ∙ stored_row_lem widths buffer at us h room ∙ ap (λ (x : List ℕ). sets buffer at (row widths x)) same

-- a row behind another
pub rows-put : (widths vs widths₁ vs₁ buffer : List ℕ) (at : ℕ) {left q : List ℕ} → length widths ≡ length vs
    → left ≡ sets buffer at (row widths vs) → q ≡ sets left (at + total widths) (row widths₁ vs₁)
    → q ≡ sets buffer at (row (widths ++ widths₁) (vs ++ vs₁))
rows-put widths vs widths₁ vs₁ buffer at h told f = f ∙ ap (λ (x : List ℕ). sets x (at + total widths) (row widths₁ vs₁)) told ∙ sets_rows widths vs widths₁ vs₁ buffer at h

-- a signed number's bits, as the code has them from a struct
pub bits_put : {z : ℤ} {x : ℕ} → SFits w16 z → x ≡ of_z w16 (to_z w16 (of_z w16 z)) → x ≡ of_z w16 z
bits_put f told = told ∙ ap (of_z w16) (to_z-of_z f)
