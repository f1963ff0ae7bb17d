-- `reader::copy::copy_steps` meets its contract.
-- Assumes nothing.
use mathlib.Core.Path.{sym, ap, ◌∙◌}
use Prim.Native.Nat.{◌+◌, ◌-◌}
use native.Mathlib.Nat.{sub-zero}
use lib.ListN.{length, set}
use lib.Seq.{sets}
use Rattle.field.specs.Tab.{tab}
use Rattle.field.proofs.Rows.{sets-all}
use Rattle.field.proofs.Tab.{length-tab, tab-end, turn}
use Rattle.bank.specs.View.{step_of, place_of}
use Rattle.bank.specs.declared.Place.{Place}
use Rattle.reader.proofs.copy.copy_steps.Goals as goal

pub loop-k-init : goal.loop-k-init
loop-k-init c =
    let all = tab (step_of c.args.bank.now c.args.p) 1 1 (length c.args.out.now) in
    rw sub-zero (sets-all all c.args.out.now (sym (length-tab (step_of c.args.bank.now c.args.p) 1 1 (length c.args.out.now))))

pub loop-k-preserved : goal.loop-k-preserved
unfolding place_of
loop-k-preserved c =
    let l = c.loop-k in
    let f = step_of c.args.bank.now c.args.p in
    let count = length c.args.out.now in
    ap (λ (x : Place). sets (set l.out l.k x.step) (l.k + 1) (tab f 1 (l.k + 1 + 1) (count - (l.k + 1)))) c.place_of.ensures
    ∙ turn f 1 (l.k + 1) count l.k l.k l.out c.loop-k-test.true ∙ l.invariant

pub returns : goal.returns
returns c =
    let l = c.loop-k in
    let f = step_of c.args.bank.now c.args.p in
    ap (sets l.out l.k) (sym (tab-end f 1 (l.k + 1) (length c.args.out.now) l.k c.loop-k-test.false)) ∙ l.invariant
