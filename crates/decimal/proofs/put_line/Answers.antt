-- `decimal::put_line` meets its contract.
-- Assumes nothing.
use mathlib.Core.Path.{◌≡◌, refl, sym, ap, ◌∙◌}
use native.Mathlib.Omega.{arith}
use borrow.Author.Rules.{rules}
use lib.ListN.{drop, get_or, drop_of_length-le}
use mathlib.Core.List.{List, []}
use lib.IntN.{ℤ, pos}
use mir.Facts.{to_z-of_z}
use mir.Syntax.{w64}
use mir.Val.{SFits}
use Rattle.decimal.specs.Text.{text, line_of, put_text}
use Rattle.decimal.proofs.Laws.{put_is, text-same, line-turn, put-fits, put-past}
use Rattle.decimal.proofs.put_line.Goals as goal

pub returns-then-out-at : goal.returns-then-out-at
returns-then-out-at c = let a = c.args in sym (put-past a.out.now a.at a.numbers.now (omega arith))

pub returns-then-out-at-2 : goal.returns-then-out-at-2
returns-then-out-at-2 c = let a = c.args in sym (put-past a.out.now a.at a.numbers.now (omega arith))

pub loop-i-preserved : goal.loop-i-preserved
loop-i-preserved c =
    let l = c.loop-i in
    let numbers = c.args.numbers.now in
    let x = get_or numbers l.i (pos 0) in
    let ranged : SFits w64 x = record { sfits = search rules } in
    let shown : c.as_bytes-text.result.now ≡ text x =
    c.as_bytes-text.ensures.value ∙ c.format.ensures.text ∙ rw (to_z-of_z ranged) (sym (text-same x ranged)) in
    record {
      within = search rules;
      long = search rules;
      room = search rules;
      gives = rw c.copy_from_slice.ensures.after (line-turn l.out l.to l.i numbers (omega arith) (omega arith) shown c.separator.ensures ∙ l.invariant.gives);
    }

pub returns : goal.returns
unfolding line_of
returns c =
    let a = c.args in
    let numbers = a.numbers.now in
    let l = c.loop-i in
    let none : drop l.i numbers ≡ [] = drop_of_length-le numbers {i = l.i} (omega arith) in
    put_is refl (omega arith) ∙ ap (λ (xs : List ℤ). put_text l.out l.to (line_of xs)) (sym none) ∙ l.invariant.gives
    ∙ sym (put-fits a.out.now a.at numbers (omega arith))
