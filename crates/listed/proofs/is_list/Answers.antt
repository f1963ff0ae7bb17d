-- `listed::is_list` meets its contract. The invariant: an event begins here, or the list ends, and the bytes are a list if all that is asked for from
-- here on is known.
-- Assumes nothing.
use Prim.Native.Nat.{◌+◌}
use mathlib.Core.Path.{sym, ◌∙◌}
use native.Mathlib.Omega.{arith}
use Rattle.plain.proofs.Listed.{begins-first, begins-more, begins-next, formed-first, not-fives, known_next, unknown-next, known-end}
use Rattle.listed.proofs.is_list.Goals as goal

pub returns-then-bytes-ne0 : goal.returns-then-bytes-ne0
returns-then-bytes-ne0 c = sym (not-fives c.args.bytes.now c.if-bytes-ne0.true)

pub loop-at-init : goal.loop-at-init
loop-at-init c =
    let bytes = c.args.bytes.now in
    (begins-first bytes c.if-bytes-ne0.false, formed-first bytes c.if-bytes-ne0.false)

pub returns-then-byte-gt-LAST : goal.returns-then-byte-gt-LAST
returns-then-byte-gt-LAST c =
    let l = c.loop-at in
    let more = begins-more _ l.at l.invariant.0 c.loop-at-test.true in
    sym (unknown-next _ l.at more (rw (← c.byte.ensures) c.if-byte-gt-LAST.true)) ∙ l.invariant.1

pub loop-at-preserved : goal.loop-at-preserved
loop-at-preserved c =
    let l = c.loop-at in
    let more = begins-more _ l.at l.invariant.0 c.loop-at-test.true in (
      begins-next _ l.at l.invariant.0 c.loop-at-test.true,
      known_next _ l.at more (rw (← c.byte.ensures) c.if-byte-gt-LAST.false) ∙ l.invariant.1,
    )

pub returns-else-bytes-ne0 : goal.returns-else-bytes-ne0
returns-else-bytes-ne0 c = sym (known-end _ _ c.loop-at-test.false) ∙ c.loop-at.invariant.1

-- the last five bytes
pub returns-else-byte-gt-LAST : goal.returns-else-byte-gt-LAST
returns-else-byte-gt-LAST c =
    let l = c.loop-at in
    let more = begins-more _ l.at l.invariant.0 c.loop-at-test.true in
    sym (known-end _ (l.at + 5) (omega arith)) ∙ known_next _ l.at more (rw (← c.byte.ensures) c.if-byte-gt-LAST.false) ∙ l.invariant.1
