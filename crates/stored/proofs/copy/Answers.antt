-- `stored::copy` meets its contract: the front so far, and one byte more.
-- Assumes nothing.
use Prim.Native.Nat.{ℕ, ◌≤◌}
use mathlib.Core.Path.{ap, ◌∙◌}
use mathlib.Core.List.{List, ◌++◌, append-nil}
use native.Mathlib.Omega.{arith}
use borrow.Author.Tests.{eq-eqb}
use lib.ListN.{length, set, take, get_or, length-set, drop_of_length-le}
use lib.Seq.{take_all}
use Rattle.stored.proofs.Part.{copy-turn}
use Rattle.stored.proofs.copy.Goals as goal

pub loop-i-preserved : goal.loop-i-preserved
loop-i-preserved c =
    let l = c.loop-i in
    let source = c.args.source.now in
    let value = get_or source l.i 0 in
    record {
      long = length-set l.buffer l.i value ∙ l.invariant.long;
      made = ap (λ (bytes : List ℕ). set bytes l.i value) l.invariant.made ∙ copy-turn c.args.buffer.now source l.i (omega arith) (omega arith);
    }

pub returns-after-loop-i : goal.returns-after-loop-i
returns-after-loop-i c =
    let l = c.loop-i in
    let buffer = c.args.buffer.now in
    let source = c.args.source.now in
    let end : length buffer ≤ l.i = omega arith in
    let all : length source ≤ l.i = omega arith in
    rw (eq-eqb (length buffer) (length source) (omega arith))
    (l.invariant.made ∙ ap (λ (rest : List ℕ). take l.i source ++ rest) (drop_of_length-le buffer end)
    ∙ append-nil (take l.i source) ∙ take_all l.i source all)
