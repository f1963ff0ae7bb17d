-- `bank::body::step_in` meets its contract.
-- Assumes nothing.
use Prim.Native.Nat.{ℕ, ◌+◌}
use mathlib.Core.Path.{◌≡◌, refl, sym, ap, ◌∙◌}
use mathlib.Core.List.{[], ◌∷◌}
use native.Mathlib.Omega.{arith}
use lib.ListN.{get_or}
use mir.Syntax.{w16}
use mir.Val.{to_z}
use Rattle.field.specs.Field.{field, signed_field}
use Rattle.field.specs.Tab.{tab}
use Rattle.field.proofs.Laws.{field-one, field-joined}
use Rattle.setting.proofs.Laws.{bits}
use Rattle.bank.specs.View.{step_at}
use Rattle.bank.proofs.body.step_in.Goals as goal

pub returns : goal.returns
unfolding step_at signed_field tab
returns c =
    let bytes = c.args.bytes.now in
    let at = c.args.at in
    let byte : (from to : ℕ) → from ≡ to → get_or bytes from 0 ≡ field 1 bytes to = λ from to same. sym (field-one bytes from) ∙ ap (field 1 bytes) same in
    let word = field-joined bytes at (at + 1) at c.join2.ensures refl refl in
    let b6 = byte (at + 6) (at + 5 + 1) (omega arith) in
    let b7 = byte (at + 7) (at + 5 + 1 + 1) (omega arith) in
    let b8 = byte (at + 8) (at + 5 + 1 + 1 + 1) (omega arith) in
    λ i. record {
      target = (bits c.signed_of.type_inv ∙ c.signed_of.ensures ∙ ap (to_z w16) word) i;
      minutes = field-joined bytes (at + 2) (at + 3) (at + 2) c.join2-2.ensures refl (omega arith) i;
      wait = byte (at + 4) (at + 4) refl i;
      signals = byte (at + 5) (at + 5) refl i ∷ b6 i ∷ b7 i ∷ b8 i ∷ [];
    }
