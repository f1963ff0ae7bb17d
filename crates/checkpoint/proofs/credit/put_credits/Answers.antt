-- `checkpoint::credit::put_credits` meets its contract.
-- Assumes nothing.
use Prim.Native.Nat.{ℕ, ◌+◌, ◌*◌}
use mathlib.Core.Path.{◌≡◌, sym, ap, ◌∙◌}
use mathlib.Core.List.{List, []}
use native.Mathlib.Omega.{arith}
use borrow.Author.Rules.{rules}
use lib.ListN.{get_or, drop, drop_of_length-le, length-replicate}
use lib.Seq.{sets, length-sets}
use Rattle.field.specs.Field.{digits}
use Rattle.field.specs.Row.{row, total}
use Rattle.field.proofs.Laws.{stored-fits}
use Rattle.plain.specs.Record.{widths_of, credit_widths, credits_from}
use Rattle.plain.proofs.Record.{put-turn}
use Rattle.checkpoint.proofs.credit.put_credits.Goals as goal

pub loop-i-preserved : goal.loop-i-preserved
unfolding credit_widths widths_of total
loop-i-preserved c =
    let l = c.loop-i in
    let credits = c.args.credits in
    let at = credits_from + 4 * l.i in
    let credit = get_or credits l.i 0 in
    let put : c.put.new.buffer ≡ sets l.store at (digits 4 credit) = c.put.ensures ∙ rw c.from.ensures (stored-fits 4 l.store at credit (omega (arith, c.requires))) in
    let turn = put-turn l.store credits credits_from l.i 4 99 (omega arith) (search rules) in
    record { long = rw put (length-sets l.store at (digits 4 credit) ∙ l.invariant.long); gives = rw put (turn ∙ l.invariant.gives) }

pub returns : goal.returns
unfolding row credit_widths widths_of total
returns c =
    let l = c.loop-i in
    let a = c.args in
    let none : drop l.i credit_widths ≡ [] = drop_of_length-le credit_widths {i = l.i} (omega (arith, length-replicate {A = ℕ} 99 4)) in
    ap (λ (widths : List ℕ). sets l.store (credits_from + 4 * l.i) (row widths (drop l.i a.credits))) (sym none) ∙ l.invariant.gives
