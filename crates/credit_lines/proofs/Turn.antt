-- The law of the loop over the steps.
-- Assumes nothing.
use Prim.Native.Nat.{ℕ, ◌+◌, ◌<◌}
use mathlib.Core.List.{List, [], ◌∷◌, ◌++◌, append-nil}
use mathlib.Core.Path.{◌≡◌, sym, ap, ◌∙◌}
use native.Mathlib.Numerals.{add-one}
use native.Mathlib.Omega.{arith}
use lib.ListN.{length, drop, get_or, length-append}
use lib.Seq.{sets, drop-cons}
use Rattle.field.proofs.Laws.{sets-append}
use Rattle.decimal.specs.Text.{Put, put, put_text}
use Rattle.decimal.proofs.Laws.{put_is, end_is}
use Rattle.line.specs.Sheet.{credit_lines}

-- the lines of the steps from a place on: that of the first, and those behind it
credits-from : (credits : List ℕ) (i : ℕ) → i < length credits
    → credit_lines (i + 1) (drop i credits) ≡ credit_lines (i + 1) (get_or credits i 0 ∷ []) ++ credit_lines (i + 1 + 1) (drop (i + 1) credits)
unfolding credit_lines
credits-from credits i h = rw (drop-cons credits i 0 h, add-one i, append-nil)

pub credits-turn : (out : List ℕ) (at i : ℕ) (credits : List ℕ) {out' : List ℕ} {end : ℕ} → i < length credits
    → put out' end ≡ put_text out at (credit_lines (i + 1) (get_or credits i 0 ∷ []))
    → put_text out' end (credit_lines (i + 1 + 1) (drop (i + 1) credits)) ≡ put_text out at (credit_lines (i + 1) (drop i credits))
credits-turn out at i credits h g =
    let one = credit_lines (i + 1) (get_or credits i 0 ∷ []) in
    let rest = credit_lines (i + 1 + 1) (drop (i + 1) credits) in
    let both = credits-from credits i h in
    put_is
    (ap (λ (left : Put). sets left.bytes left.end rest) g ∙ sets-append one rest out at ∙ sym (ap (sets out at) both))
    (omega (arith, end_is g, length-append one rest, ap length both))
