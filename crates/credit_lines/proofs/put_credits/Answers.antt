-- `credit_lines::put_credits` meets its contract. The invariant: the lines of the steps that are left, stored where they are due, give the whole, and
-- there is room for them. Assumes nothing.
use Prim.Native.Nat.{◌+◌}
use mathlib.Core.List.{[], ◌∷◌}
use mathlib.Core.Path.{◌≡◌, refl, sym, ap, ◌∙◌}
use native.Mathlib.Omega.{arith}
use borrow.Author.Rules.{rules}
use lib.ListN.{length, drop, get_or, drop_of_length-le}
use Rattle.decimal.specs.Text.{put_text}
use Rattle.decimal.proofs.Laws.{put_is, end_is}
use Rattle.line.specs.Sheet.{credit_lines}
use Rattle.line.proofs.Laws.{length-credits}
use Rattle.credit_lines.proofs.Turn.{credits-turn}
use Rattle.credit_lines.proofs.put_credits.Goals as goal

pub loop-i-init : goal.loop-i-init
loop-i-init c = record { within = omega arith; long = refl; room = omega arith; gives = refl }

pub loop-i-preserved : goal.loop-i-preserved
loop-i-preserved c =
    let l = c.loop-i in
    let credits = c.args.state.credits in
    let left = c.put_credit-at in
    let turn = credits-turn l.out l.at l.i credits (omega (arith, (let long : length c.args.state.credits ≡ 99 = search rules in long))) left.ensures in
    let short = length-credits (l.i + 1) (get_or credits l.i 0 ∷ []) in
    record {
      within = omega arith;
      long = left.auto.out ∙ l.invariant.long;
      room = omega (arith, short, end_is left.ensures, l.invariant.room);
      gives = turn ∙ l.invariant.gives;
    }

pub returns : goal.returns
unfolding credit_lines
returns c =
    let l = c.loop-i in
    let credits = c.args.state.credits in
    let none : drop l.i credits ≡ [] = drop_of_length-le credits {i = l.i} (omega (arith, (let long : length c.args.state.credits ≡ 99 = search rules in long))) in
    put_is refl (omega arith) ∙ ap (put_text l.out l.at) (sym (ap (credit_lines (l.i + 1)) none)) ∙ l.invariant.gives
