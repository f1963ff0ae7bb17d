-- `line::run` meets its contract. The invariant: what stands is what the bytes so far leave, and their text has at most 168 bytes each.
-- Assumes nothing.
use Prim.Native.Nat.{ℕ, ◌*◌}
use mathlib.Core.List.{List}
use mathlib.Core.Path.{◌≡◌, sym, ap, ◌∙◌}
use native.Mathlib.Omega.{arith}
use borrow.Author.Tests.{le-leb}
use lib.ListN.{length, take, get_or}
use lib.Seq.{take_all}
use Rattle.line.specs.Beside.{sheet_over}
use Rattle.line.specs.Part.{Sheet, part_of, After, found, leaving, run_of}
use Rattle.line.proofs.Laws.{byte-leaves, part-more, length-byte}
use Rattle.line.proofs.run.Goals as goal

pub loop-c-preserved : goal.loop-c-preserved
loop-c-preserved c =
    let l = c.loop-c in
    let a = c.args in
    let setup = sheet_over a.bank.now in
    let input = a.input.now in
    let out₀ = a.out.now in
    let taken = c.take-ran in
    let begun = found a.between a.store.now in
    let sheet = part_of setup begun (take l.c-index input) in
    let byte = get_or input l.c-index 0 in
    let left = byte-leaves setup l.ran l.store l.out sheet out₀ l.invariant.leaves byte taken.ensures in
    let end : After → ℕ = λ x. x.end in
    record {
      room = omega (arith, length-byte setup sheet byte, ap end left, ap end l.invariant.leaves, l.invariant.room);
      leaves = left ∙ ap (λ (x : Sheet). leaving x out₀) (sym (part-more setup begun input l.c-index c.loop-c-test.true));
    }

pub returns : goal.returns
unfolding run_of
returns c =
    let a = c.args in
    let l = c.loop-c in
    let input = a.input.now in
    let begun = found a.between a.store.now in
    let whole : take l.c-index input ≡ input = take_all l.c-index input (omega arith) in
    rw (le-leb (168 * length input) (length a.out.now) (omega arith))
    (l.invariant.leaves ∙ ap (λ (cs : List ℕ). leaving (part_of (sheet_over a.bank.now) begun cs) a.out.now) whole)
