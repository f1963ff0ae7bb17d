-- `carried::carry_out` meets its contract.
-- Assumes nothing.
use mathlib.Core.Path.{◌≡◌, ap, ◌∙◌}
use Rattle.field.specs.Row.{total}
use Rattle.plain.specs.Record.{credit_widths, widths_of}
use Rattle.calls.specs.Carried.{state_bytes, after_carried}
use Rattle.carried.proofs.Parts.{left_state, effect-put, effect-saved}
use Rattle.carried.proofs.carry_out.Goals as goal

pub returns-then-effect : goal.returns-then-effect
unfolding credit_widths widths_of total
returns-then-effect c =
    let a = c.args in
    let filled : c.put_rest.new.bytes ≡ state_bytes (left_state a.store.now a.bytes.now a.effect) =
    rw (c.put_rest.ensures, c.put_retained.ensures, c.from.ensures) (effect-put a.store.now a.bytes.now a.effect c.told-bytes) in
    let saved = c.copy.ensures ∙ effect-saved a.store.now a.bytes.now a.effect _ filled c.put_rest.array_long (c.requires c.if-effect.true) in
    rw c.if-effect.true (λ i. after_carried a.effect.answer (saved i) (filled i))

pub returns-else-effect : goal.returns-else-effect
unfolding credit_widths widths_of total
returns-else-effect c =
    let a = c.args in
    rw (c.if-effect.false, c.put_rest.ensures, c.put_retained.ensures, c.from.ensures)
    (ap (after_carried a.effect.answer a.store.now) (effect-put a.store.now a.bytes.now a.effect c.told-bytes))
