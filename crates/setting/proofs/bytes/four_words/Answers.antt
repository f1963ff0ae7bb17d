-- `setting::bytes::four_words` meets its contract.
-- Assumes nothing.
use Prim.Native.Nat.{◌+◌}
use mathlib.Core.Path.{◌≡◌, ap, ◌∙◌}
use mathlib.Core.List.{[], ◌∷◌}
use native.Mathlib.Omega.{arith}
use Rattle.field.specs.Field.{field}
use Rattle.field.specs.Tab.{tab}
use Rattle.setting.proofs.bytes.four_words.Goals as goal

pub returns : goal.returns
unfolding tab
returns c =
    let word = field 2 c.args.bank.now in
    let at = c.args.at in
    let third : at + 8 ≡ at + 4 + 4 = omega arith in
    let fourth : at + 12 ≡ at + 4 + 4 + 4 = omega arith in
    λ i. c.word_in.ensures i ∷ c.word_in-2.ensures i ∷ (c.word_in-3.ensures ∙ ap word third) i ∷ (c.word_in-4.ensures ∙ ap word fourth) i ∷ []
