-- `checkpoint::credit::credits` meets its contract: each element is what the call for its place gave.
-- Assumes nothing.
use Prim.Native.Nat.{ℕ, zero, suc, ◌+◌, ◌*◌, ◌≤◌, ◌<◌}
use mathlib.Core.Path.{◌≡◌, sym, ap, ◌∙◌, subst}
use mathlib.Core.List.{List}
use mathlib.Core.Logic.{◌⊎◌, inl, inr}
use native.Mathlib.Omega.{arith}
use borrow.Author.Rules.{rules}
use denote.Param.Members.{Mut, Called}
use lib.ListN.{length, get_or, length-replicate}
use lib.Seq.{ext_get_or}
use Rattle.std.specs.Array.{IsFromFnResultFrom}
use Rattle.std.proofs.lemmas.Bool.{cases_lt}
use Rattle.field.specs.Field.{field}
use Rattle.field.specs.Row.{total}
use Rattle.field.proofs.Rows.{length-row_at}
use Rattle.plain.specs.Record.{widths_of, credit_widths, credits_from, credits_in}
use Rattle.checkpoint.proofs.Laws.{number-at}
use Rattle.checkpoint.proofs.credit.credits.Goals as goal

-- where each call gives the number of its place and changes nothing, each element is the number of its place
module _ {F : Type 0} (g : Mut F (ℕ × Unit {0}) ℕ) (f : F) (number : ℕ → ℕ) (step : (i y : ℕ) (q : F) → Called g f (i, tt) y q → (y ≡ number i) × (q ≡ f)) where
  each-is : (ys : List ℕ) (i n : ℕ) → IsFromFnResultFrom g f ys i n → (j : ℕ) → i ≤ j → j < i + n → get_or ys j 0 ≡ number j
  each-is ys i zero h j from below = absurd (omega arith)
  each-is ys i (suc n) h j from below = go (cases_lt i j) (λ l. each-is ys (i + 1) n (subst (λ (q : F). IsFromFnResultFrom g q ys (i + 1) n) s.1 h.4) j l (omega arith))
    where
      s : (h.1 ≡ number i) × (h.0 ≡ f)
      s = step i h.1 h.0 h.3

      go : (i < j) ⊎ (j ≤ i) → (i + 1 ≤ j → get_or ys j 0 ≡ number j) → get_or ys j 0 ≡ number j
      go (inl l) later = later (omega arith)
      go (inr l) later =
          let here : j ≡ i = omega arith in
          ap (λ (k : ℕ). get_or ys k 0) here ∙ h.2.1 0 ∙ s.0 ∙ ap number (sym here)

pub returns : goal.returns
unfolding credits_in credit_widths widths_of total
returns c =
    let made = c.from_fn.ensures.items in
    let store = c.args.store.now in
    let each = each-is _ _ (λ i. field 4 store (15 + 4 * i)) (λ i y q called. (search rules, search rules)) c.from_fn.result 0 99 made.each in
    let size : length (credits_in store) ≡ 99 = length-row_at credit_widths store credits_from ∙ length-replicate {A = ℕ} 99 4 in
    ext_get_or 0 c.from_fn.result (credits_in store) (made.long ∙ sym size)
    (λ j l. each j (omega arith) (omega (arith, made.long)) ∙ sym (number-at 4 99 store credits_from j (omega (arith, made.long))))
