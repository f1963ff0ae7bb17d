-- `carried::writing::cook` meets its contract.
-- Assumes nothing.
use Prim.Native.Nat.{◌-◌, ◌<◌}
use mathlib.Core.Path.{sym, ◌∙◌}
use native.Mathlib.Omega.{arith}
use Rattle.field.specs.Row.{total}
use Rattle.field.proofs.Laws.{stored-fits}
use Rattle.plain.specs.Record.{credit_widths, widths_of}
use Rattle.calls.proofs.Written.{credit-there, cooks, cooks-none}
use Rattle.carried.proofs.writing.cook.Goals as goal

pub returns-then-place-lt99 : goal.returns-then-place-lt99
unfolding credit_widths widths_of total
returns-then-place-lt99 c =
    let bytes = c.args.bytes.now in
    let k = c.args.k in
    let place = c.place_of-place.ensures in
    let among : k - 1 < 99 = omega (arith, place, c.if-place-lt99.true) in
    c.put.ensures
    ∙ stored-fits 4 bytes _ _ (omega (arith, c.told-bytes, c.if-place-lt99.true))
    ∙ rw (c.from.ensures, c.one_more-credit.ensures, c.long.ensures, place) (cooks bytes c.fits-bytes c.told-bytes k among _ (sym (credit-there bytes (k - 1) among)))

pub returns-else-place-lt99 : goal.returns-else-place-lt99
unfolding credit_widths widths_of total
returns-else-place-lt99 c =
    cooks-none c.args.bytes.now c.fits-bytes c.told-bytes c.args.k (omega (arith, c.place_of-place.ensures, c.if-place-lt99.false))
