-- `stored::put_all` meets its contract.
-- Assumes nothing.
use Rattle.std.proofs.Common.{◌≡◌, ◌+◌, ◌-◌, ◌∙◌, [], ap, refl, length, rules, arith}
use Rattle.std.proofs.lemmas.Grind.{common_steps}
use Rattle.std.proofs.Math.Seq.{sets}
use Rattle.std.proofs.Math.ListN.{drop_of_length-le}
use borrow.Rule.Slice.PartMut.{put_mid}
use Rattle.field.specs.Field.{digits}
use Rattle.field.specs.Row.{row, total}
use Rattle.field.proofs.Rows.{row-turn}
use Rattle.stored.proofs.Part.{part-digits}
use Rattle.stored.proofs.put_all.Goals as goal

pub slice_bounds-put_digits-end : goal.slice_bounds-put_digits-end
unfolding total
slice_bounds-put_digits-end c =
    let t : total c.loop-width.width-iterator.a.rest.now ≡ c.in-Some.width.now + total c.next.new.self.a.rest.now = ap total c.in-Some.ensures.steps.0 in
    omega arith

pub loop-width-preserved : goal.loop-width-preserved
unfolding total
loop-width-preserved c =
    let l = c.loop-width in
    let h = c.in-Some.ensures.steps in
    let width = c.in-Some.width.now in
    let v = c.in-Some.v.now in
    let widths = c.next.new.self.a.rest.now in
    let numbers = c.next.new.self.b.rest.now in
    let t : total l.width-iterator.a.rest.now ≡ width + total widths = ap total h.0 in
    let wrote : put_mid l.to (l.to + width - l.to) l.buffer c.put_digits.new.place ≡ sets l.buffer l.to (digits width v) =
    part-digits l.buffer c.put_digits.new.place l.to (l.to + width) width v refl (omega arith) (grind (arith, common_steps)) in
    record {
      can_next = search rules;
      is_finite = search rules;
      enough = omega (arith, ap length h.0, ap length h.1);
      room = omega arith;
      made = rw wrote (row-turn l.buffer widths numbers l.to width v ∙ rw (← h.0, ← h.1) l.invariant.made);
    }

pub returns : goal.returns
unfolding row
returns c =
    let l = c.loop-width in
    let widths = l.width-iterator.a.rest.now in
    let h = c.in-None.ensures.steps in
    let none : length widths ≡ 0 = grind arith in
    let same : widths ≡ [] = drop_of_length-le widths {i = 0} (omega arith) in
    rw same at l.invariant.made
