-- `writer::put::put_pairs` meets its contract.
-- Assumes nothing.
use mathlib.Core.Path.{◌≡◌, sym, ap, ◌∙◌}
use mathlib.Core.List.{List, [], ◌∷◌}
use Prim.Native.Nat.{ℕ, ◌+◌, ◌*◌, ◌≤◌, ◌<◌}
use native.Mathlib.Omega.{arith}
use lib.ListN.{length, get_or, take, length-take}
use lib.Seq.{sets, get_or-take}
use Rattle.field.specs.Row.{total}
use Rattle.bank.specs.View.{Pattern}
use Rattle.arrays.specs.Encode.{pairs_bytes}
use Rattle.arrays.proofs.Views.{rest, rest_end, next_place}
use Rattle.arrays.proofs.Taken.{count_at, pattern_in, taken-rest, fit_of, sum_to, next-in}
use Rattle.arrays.proofs.Values.{patterns-fit, counts-fit}
use Rattle.arrays.proofs.Sizes.{pairs-turn}
use Rattle.writer.proofs.Rows.{row_put}
use Rattle.writer.proofs.put.put_pairs.Goals as goal

pub shared_ref_as_front-count-items : goal.shared_ref_as_front-count-items
shared_ref_as_front-count-items c = (fit_of c.args.settings c.args.ps c.requires.right).few

pub loop-p-preserved : goal.loop-p-preserved
unfolding total
loop-p-preserved c =
    let l = c.loop-p in
    let ps = c.args.ps in
    let n = c.args.settings.patterns in
    let h : l.p < n = omega (arith, length-take n ps.counts, c.loop-p-test.true) in
    let count : get_or (take n ps.counts) l.p 0 ≡ count_at ps l.p = get_or-take n ps.counts l.p 0 h in
    let few = next-in n ps (fit_of c.args.settings ps c.requires.right) l.p h in
    let there : sum_to ps.counts l.p + count_at ps l.p ≤ length ps.steps = omega (arith, few, (patterns-fit ps _ c.well_formed.1.1.0).size) in
    let put = row_put (2 ∷ 2 ∷ []) l.out (45 + 4 * l.p) _ c.put_row.ensures (λ i. l.due ∷ (2 + 9 * count i) ∷ []) (omega arith) (omega (arith, h, c.requires.fits, l.auto.out)) in
    record {
      few = l.invariant.few;
      near = omega (arith, l.invariant.near, count, few);
      left = l.invariant.left ∙ pairs-turn ps n l.p h there l.out l.due (45 + 4 * l.p) (45 + 4 * (l.p + 1)) put (next_place 45 4 l.p)
          ∙ ap (λ (size : ℕ). sets c.put_row.new.buffer (45 + 4 * (l.p + 1)) (pairs_bytes (l.due + (2 + 9 * size)) (rest (pattern_in ps) n (l.p + 1)))) (sym count);
    }

pub returns : goal.returns
unfolding pairs_bytes
returns c =
    let l = c.loop-p in
    let settings = c.args.settings in
    let ps = c.args.ps in
    let n = settings.patterns in
    let none : n ≤ l.p = omega (arith, length-take n ps.counts, counts-fit ps _ c.well_formed.1.1.0, l.invariant.few, c.loop-p-test.false) in
    sym (ap (λ (xs : List Pattern). sets c.args.out.now 45 (pairs_bytes (45 + 4 * n) xs)) (taken-rest settings ps)
    ∙ l.invariant.left ∙ ap (λ (xs : List Pattern). sets l.out (45 + 4 * l.p) (pairs_bytes l.due xs)) (rest_end (pattern_in ps) n l.p none))
