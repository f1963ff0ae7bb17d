-- `writer::put::put_body` meets its contract.
-- Assumes nothing.
use mathlib.Core.Path.{refl, sym, ap, ◌∙◌}
use mathlib.Core.List.{List, [], ◌∷◌}
use Prim.Native.Nat.{◌+◌, ◌*◌}
use native.Mathlib.Omega.{arith}
use lib.ListN.{length, drop_of_length-le}
use lib.Seq.{sets}
use Rattle.field.specs.Row.{row, total}
use Rattle.bank.specs.declared.Step.{Step}
use Rattle.arrays.specs.Encode.{steps_bytes}
use Rattle.arrays.proofs.Views.{next_place}
use Rattle.arrays.proofs.Sizes.{length_two, sets_then, steps-turn}
use Rattle.writer.proofs.Rows.{row_put}
use Rattle.writer.proofs.put.put_body.Goals as goal

pub loop-k-preserved : goal.loop-k-preserved
loop-k-preserved c =
    let l = c.loop-k in
    let at = c.args.at + 2 in
    l.invariant
    ∙ steps-turn c.args.steps.now l.k _ c.loop-k-test.true l.out (at + 9 * l.k) (at + 9 * (l.k + 1)) c.put_step.ensures (next_place at 9 l.k)

pub returns : goal.returns
unfolding steps_bytes total
returns c =
    let a = c.args in
    let l = c.loop-k in
    let steps = a.steps.now in
    let head = row (1 ∷ 1 ∷ []) (a.runs ∷ length steps ∷ []) in
    let put = row_put (1 ∷ 1 ∷ []) a.out.now a.at (a.runs ∷ length steps ∷ []) c.put_row.ensures refl (omega arith) (omega (arith, c.requires.fits)) in
    sym (sets_then a.out.now head (steps_bytes steps) a.at (a.at + 2) put (omega (arith, length_two 1 1 a.runs (length steps)))
    ∙ l.invariant ∙ ap (λ (ss : List Step). sets l.out (a.at + 2 + 9 * l.k) (steps_bytes ss)) (drop_of_length-le steps c.loop-k-test.false))
