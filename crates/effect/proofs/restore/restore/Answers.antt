-- `effect::restore::restore` meets its contract. Assumes nothing.
use mathlib.Core.Path.{sym, ◌∙◌}
use Rattle.effect.proofs.Rows.{on-refuses, return-outside, return-unreadable, returned}
use Rattle.effect.proofs.restore.restore.Goals as goal

pub returns-then-power : goal.returns-then-power
returns-then-power c = λ here progress alarms ready. on-refuses ready c.if-power.true c.args.reading

pub returns-then-outside : goal.returns-then-outside
returns-then-outside c = λ here progress alarms ready.
    return-outside ready c.if-power.false c.args.reading (sym c.outside.ensures ∙ c.if-outside.true)

pub returns-then-not-readable-is_bounded : goal.returns-then-not-readable-is_bounded
returns-then-not-readable-is_bounded c = λ here progress alarms ready.
    return-unreadable ready c.if-power.false c.args.reading (sym c.outside.ensures ∙ c.if-outside.false) c.brought_back-back.ensures
    c.here_at-there.ensures c.readable.ensures c.is_bounded.ensures c.if-not-readable-is_bounded.true

pub returns : goal.returns
returns c = λ here progress alarms ready.
    rw c.accepted.ensures
    (returned ready c.if-power.false c.args.reading (sym c.outside.ensures ∙ c.if-outside.false) c.brought_back-back.ensures
    c.here_at-there.ensures c.readable.ensures c.is_bounded.ensures c.if-not-readable-is_bounded.false c.returned.ensures)
