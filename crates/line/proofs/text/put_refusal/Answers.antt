-- `line::text::put_refusal` meets its contract: the first of three numbers, as many as the refusal has, are the refusal's.
-- Assumes nothing.
use Prim.Native.Nat.{◌≤◌}
use mathlib.Core.List.{[], ◌∷◌, map}
use mathlib.Core.Path.{sym, ap, ◌∙◌}
use native.Mathlib.Omega.{arith}
use borrow.Author.Tests.{le-leb}
use lib.IntN.{pos}
use lib.ListN.{length, take, length-map}
use lib.Seq.{length-take-le}
use Rattle.std.specs.Prelude.{Err}
use Rattle.setting.specs.Found.{numbers_of as bank_numbers}
use Rattle.answer.specs.Numbers.{number_and_values}
use Rattle.answer.specs.declared.Numbers.{Numbers}
use Rattle.line.specs.Text.{refusal}
use Rattle.line.proofs.Laws.{line-put, small, first-ones, few, length-refusal}
use Rattle.line.proofs.text.put_refusal.Goals as goal

pub slice_bounds-put_line-end : goal.slice_bounds-put_line-end
slice_bounds-put_line-end c =
    let x = c.of_bank-numbers.result in
    let counted : x.count ≤ 3 = omega (arith, ap (λ (y : Numbers). y.count) c.of_bank-numbers.ensures, few c.args.refusal) in
    sym (length-take-le _ _ counted)

pub returns : goal.returns
unfolding refusal number_and_values
returns c =
    let a = c.args in
    let out = a.out.now in
    let numbers = bank_numbers (Err a.refusal) in
    let given = c.of_bank-numbers in
    let x = given.result in
    let few = length-refusal a.refusal in
    rw (le-leb 168 (length out) (omega arith))
    (line-put out 0 (map pos numbers) (simp length-map (omega arith))
    ((λ i. take x.count (small x.number (omega arith) i ∷ small x.first (omega arith) i ∷ small x.second (omega arith) i ∷ []))
    ∙ ap (λ (y : Numbers). take y.count (pos y.number ∷ pos y.first ∷ pos y.second ∷ [])) given.ensures
    ∙ first-ones numbers few)
    c.put_line.ensures)
