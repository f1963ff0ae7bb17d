-- `reader::copy::patterns` meets its contract.
-- Assumes nothing.
use mathlib.Core.Path.{◌≡◌, refl, sym, ap, ◌∙◌, subst}
use mathlib.Core.List.{List}
use Prim.Native.Nat.{ℕ, ◌+◌, ◌*◌, ◌-◌, ◌≤◌, ◌<◌, zero-le}
use native.Mathlib.Numerals.{add-one-le}
use native.Mathlib.Omega.{arith}
use lib.ListN.{length}
use lib.Seq.{sets, length-sets}
use borrow.Rule.Slice.PartMut.{mid_of, put_mid}
use Rattle.arrays.proofs.Sizes.{length_part}
use Rattle.field.proofs.Tab.{length-tab}
use Rattle.bank.specs.declared.Step.{Step}
use Rattle.field.specs.Field.{field}
use Rattle.field.specs.Tab.{tab}
use Rattle.capacity.specs.Capacity.{capacity_of}
use Rattle.bank.specs.View.{pattern_of, place_of, step_of, no_step}
use Rattle.bank.specs.declared.Place.{Place}
use Rattle.bank.proofs.Facts.{count-range, all_fit}
use Rattle.arrays.specs.declared.Patterns.{Patterns}
use Rattle.arrays.proofs.Copied.{part-stored, laid-start, laid_end, count-in, copied-turn, grown}
use Rattle.reader.specs.Asked.{Counted}
use Rattle.reader.proofs.copy.patterns.Goals as goal

-- there is room for the steps of pattern p + 1
room : (bank : List ℕ) (n p base : ℕ) (place : Place) → Counted bank n → p < n → base ≤ p * capacity_of (field 1 bank 0) → place ≡ place_of bank (p + 1) 0 →
    (base + place.count ≤ (p + 1) * capacity_of (field 1 bank 0)) × (base + place.count ≤ 99)
unfolding pattern_of place_of
room bank n p base place asked less before is =
    let most = field 1 bank 0 in
    let range = count-range bank asked.ok in
    let h : p < most = omega (arith, less, asked.count) in
    let fits = subst (λ (size : ℕ). size ≤ capacity_of most) (sym (ap (λ (x : Place). x.count) is)) (count-in bank asked.ok p h) in
    let more = grown base place.count p (capacity_of most) before fits in
    (more, omega (arith, more, all_fit most (p + 1) range.0 range.1 (add-one-le h)))

-- the steps of a pattern, copied into their part
copied : (f : ℕ → Step) (steps out : List Step) (base count : ℕ) → base + count ≤ length steps → out ≡ tab f 1 1 (length (mid_of base (base + count - base) steps))
    → put_mid base (base + count - base) steps out ≡ sets steps base (tab f 1 1 count)
copied f steps out base count h same =
    let size : base + count - base ≡ count = omega arith in
    let long : length (mid_of base (base + count - base) steps) ≡ count = rw size (length_part steps base count h) in
    let all : out ≡ tab f 1 1 count = same ∙ ap (tab f 1 1) long in
    part-stored base count steps out h (ap length all ∙ length-tab f 1 1 count) ∙ ap (sets steps base) all

pub loop-p-init : goal.loop-p-init
unfolding no_step
loop-p-init c = record {
  few = omega (arith, count-range c.args.bank.now c.requires.ok, c.requires.count);
  size = refl;
  inside = zero-le;
  before = zero-le;
  whole = laid-start c.args.bank.now refl;
}

pub slice_bounds-steps-end : goal.slice_bounds-steps-end
slice_bounds-steps-end c =
    let l = c.loop-p in
    omega (arith, l.invariant.size, room c.args.bank.now c.args.n l.p l.base c.place_of-place.result c.requires c.loop-p-test.true l.invariant.before c.place_of-place.ensures)

pub loop-p-preserved : goal.loop-p-preserved
unfolding place_of
loop-p-preserved c =
    let bank = c.args.bank.now in
    let l = c.loop-p in
    let place = c.place_of-place in
    let more = room bank c.args.n l.p l.base place.result c.requires c.loop-p-test.true l.invariant.before place.ensures in
    let h : l.p < field 1 bank 0 = omega (arith, c.loop-p-test.true, c.requires.count) in
    let f = step_of bank (l.p + 1) in
    let steps = copied f l.steps c.copy_steps.new.out l.base place.result.count (omega (arith, more.1, l.invariant.size)) c.copy_steps.ensures in
    let into : Patterns = record { runs = l.runs; counts = l.counts; steps = l.steps } in
    record {
      few = l.invariant.few;
      size = ap length steps ∙ length-sets l.steps l.base (tab f 1 1 place.result.count) ∙ l.invariant.size;
      inside = more.1;
      before = more.0;
      whole =
          copied-turn bank c.requires.ok l.p h into l.base (ap (λ (x : Place). x.runs) place.ensures) (ap (λ (x : Place). x.count) place.ensures) steps
          ∙ l.invariant.whole;
    }

pub returns : goal.returns
returns c =
    let l = c.loop-p in
    let none : field 1 c.args.bank.now 0 ≤ l.p = omega (arith, c.loop-p-test.false, c.requires.count) in
    laid_end c.args.bank.now l.p none (record { runs = l.runs; counts = l.counts; steps = l.steps }) l.base ∙ l.invariant.whole
