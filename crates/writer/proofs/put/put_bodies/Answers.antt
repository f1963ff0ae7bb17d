-- `writer::put::put_bodies` meets its contract.
-- Assumes nothing.
use mathlib.Core.Path.{◌≡◌, refl, sym, ap, ◌∙◌}
use mathlib.Core.List.{List, [], ◌∷◌, ◌++◌}
use Prim.Native.Nat.{ℕ, ◌+◌, ◌-◌, ◌≤◌, ◌<◌, zero-le}
use native.Mathlib.Omega.{arith}
use lib.ListN.{length, get_or, take, drop}
use lib.Seq.{sets}
use Rattle.field.specs.Row.{row}
use Rattle.bank.specs.View.{Pattern}
use Rattle.bank.specs.declared.Step.{Step}
use Rattle.arrays.specs.Encode.{bodies_bytes, steps_bytes}
use Rattle.arrays.specs.declared.Patterns.{Patterns}
use Rattle.arrays.proofs.Views.{rest_end}
use Rattle.arrays.proofs.Taken.{count_at, pattern_in, taken-rest, Fit, fit_of, sum_to, sum_more, next-in}
use Rattle.arrays.proofs.Values.{patterns-fit}
use Rattle.arrays.proofs.Sizes.{length_part, bodies-size, bodies-turn}
use Rattle.writer.proofs.put.put_bodies.Goals as goal

-- so many steps from place base on, as the code takes them
abbrev part : List Step → ℕ → ℕ → List Step
part steps base count = take (base + count - base) (drop base steps)

part-is : (steps : List Step) (base count : ℕ) → part steps base count ≡ take count (drop base steps)
part-is steps base count = let size : base + count - base ≡ count = omega arith in ap (λ (m : ℕ). take m (drop base steps)) size

length-part : (steps : List Step) (base count : ℕ) → base + count ≤ length steps → length (part steps base count) ≡ count
length-part steps base count h = ap length (part-is steps base count) ∙ length_part steps base count h

-- the steps of a pattern are there, and are at most 99
there : (ps : Patterns) (n : ℕ) (fit : Fit n ps) (base p : ℕ) → base ≡ sum_to ps.counts p → length ps.steps ≡ 99 → p < n →
    (base + count_at ps p ≤ 99) × (base + count_at ps p ≤ length ps.steps) × (sum_to ps.counts p + count_at ps p ≤ length ps.steps)
there ps n fit base p begins size h = let few = next-in n ps fit p h in (omega arith, omega arith, omega arith)

pub loop-p-init : goal.loop-p-init
unfolding sum_to
loop-p-init c =
    let same = ap (λ (xs : List Pattern). length (bodies_bytes xs)) (taken-rest c.args.settings c.args.ps) in
    record {
      few = (fit_of c.args.settings c.args.ps c.requires.right).few;
      inside = zero-le;
      begins = refl;
      room = omega (arith, same, c.requires.fits);
      left = refl;
    }

pub slice_bounds-steps-end : goal.slice_bounds-steps-end
slice_bounds-steps-end c =
    let l = c.loop-p in
    (there c.args.ps c.args.settings.patterns (fit_of c.args.settings c.args.ps c.requires.right) l.base l.p l.invariant.begins
    (patterns-fit c.args.ps _ c.well_formed.1.1.1.0).size c.loop-p-test.true).1

pub put_body-requires : goal.put_body-requires
put_body-requires c =
    let l = c.loop-p in
    let ps = c.args.ps in
    let n = c.args.settings.patterns in
    let h = there ps n (fit_of c.args.settings ps c.requires.right) l.base l.p l.invariant.begins (patterns-fit ps _ c.well_formed.1.1.1.0).size c.loop-p-test.true in
    let size = length-part ps.steps l.base (count_at ps l.p) h.1 in
    record { few = omega (arith, size, h.0); fits = omega (arith, size, l.invariant.room, bodies-size ps n l.p c.loop-p-test.true h.2) }

pub loop-p-preserved : goal.loop-p-preserved
loop-p-preserved c =
    let l = c.loop-p in
    let ps = c.args.ps in
    let n = c.args.settings.patterns in
    let h = there ps n (fit_of c.args.settings ps c.requires.right) l.base l.p l.invariant.begins (patterns-fit ps _ c.well_formed.1.1.1.0).size c.loop-p-test.true in
    let size = length-part ps.steps l.base (count_at ps l.p) h.1 in
    let steps = part-is ps.steps l.base (count_at ps l.p) in
    let put = c.put_body.ensures ∙ (λ i. sets l.out l.at (row (1 ∷ 1 ∷ []) (get_or ps.runs l.p 0 ∷ size i ∷ []) ++ steps_bytes (steps i))) in
    record {
      few = l.invariant.few;
      inside = h.0;
      begins = omega (arith, l.invariant.begins, sum_more ps.counts l.p);
      room = omega (arith, l.invariant.room, bodies-size ps n l.p c.loop-p-test.true h.2, c.put_body.auto.out);
      left = l.invariant.left ∙ bodies-turn ps n l.p c.loop-p-test.true h.2 l.out l.at l.base l.invariant.begins put;
    }

pub returns : goal.returns
unfolding bodies_bytes
returns c =
    let l = c.loop-p in
    let settings = c.args.settings in
    let ps = c.args.ps in
    sym (ap (λ (xs : List Pattern). sets c.args.out.now c.args.from (bodies_bytes xs)) (taken-rest settings ps)
    ∙ l.invariant.left ∙ ap (λ (xs : List Pattern). sets l.out l.at (bodies_bytes xs)) (rest_end (pattern_in ps) settings.patterns l.p c.loop-p-test.false))
