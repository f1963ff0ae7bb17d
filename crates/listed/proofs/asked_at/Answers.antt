-- `listed::asked_at` meets its contract.
-- Assumes nothing.
use Prim.Native.Nat.{◌+◌}
use mathlib.Core.Path.{◌≡◌, sym, ◌∙◌}
use native.Mathlib.Omega.{arith}
use lib.IntN.{pos}
use mir.Facts.{to_z-of_z}
use mir.Syntax.{w32}
use mir.Val.{to_z}
use Rattle.field.specs.Field.{field, signed_field}
use Rattle.field.proofs.Laws.{field_past}
use Rattle.plain.specs.Listed.{event_of_kind, asked_at}
use Rattle.listed.proofs.asked_at.Goals as goal

pub returns-then-bytes-at : goal.returns-then-bytes-at
unfolding asked_at signed_field
returns-then-bytes-at c =
    let bytes = c.args.bytes.now in
    let at = c.args.at in
    let past = c.if-bytes-at.true in
    let kind : field 1 bytes at ≡ 0 = field_past 1 bytes at past in
    let value : field 4 bytes (at + 1) ≡ 0 = field_past 4 bytes (at + 1) (omega (arith, past)) in
    let asked : c.event_of.result ≡ event_of_kind 0 (pos 0) = c.event_of.ensures in
    asked ∙ sym (λ i. event_of_kind (kind i) (to_z w32 (value i)))

pub returns : goal.returns
unfolding asked_at
returns c =
    let read = c.signed_long-v in
    let value = to_z-of_z {w = w32} (record { sfits = read.type_inv }) ∙ read.ensures in
    c.event_of-2.ensures ∙ (λ i. event_of_kind (c.byte.ensures i) (value i))
