-- `line::text::put_eight` meets its contract: each of the eight numbers, as one of 64 bits, is the number.
-- Assumes nothing.
use mathlib.Core.List.{[], ◌∷◌}
use mathlib.Core.Path.{◌≡◌, ap, ◌∙◌}
use native.Mathlib.Omega.{arith}
use lib.IntN.{ℤ, pos}
use mir.Facts.{to_z-of_z, sfits_widen}
use mir.Syntax.{w16, w64}
use mir.Val.{SFits, of_z, to_z}
use Rattle.position.specs.declared.Here.{Here}
use Rattle.position.specs.Program.{set_value_of}
use Rattle.plain.specs.Setup.{here_in}
use Rattle.line.specs.Beside.{sheet_over}
use Rattle.line.specs.Text.{eight}
use Rattle.line.proofs.Laws.{line-put, small, here-is}
use Rattle.line.proofs.text.put_eight.Goals as goal

-- a number of 16 bits as one of 64
wide : (z : ℤ) → SFits w16 z → SFits w64 (to_z w16 (of_z w16 z))
wide z fits = rw (to_z-of_z fits) (sfits_widen {w = w16} (tt {0}) fits)

pub overflow_cast-numbers-8 : goal.overflow_cast-numbers-8
overflow_cast-numbers-8 c = wide c.set_value.result (record { sfits = c.set_value.type_inv })

pub returns : goal.returns
unfolding eight
returns c =
    let a = c.args in
    let bank = a.bank.now in
    let x = a.run.position in
    let value = c.set_value in
    let fits : SFits w16 value.result = record { sfits = value.type_inv } in
    let here = here-is (sheet_over bank) x c.read_settings-settings.ensures c.here_at-here.ensures in
    let is : to_z w64 (of_z w64 (to_z w16 (of_z w16 value.result))) ≡ set_value_of (here_in (sheet_over bank) x) x =
    to_z-of_z (wide value.result fits) ∙ to_z-of_z fits ∙ value.ensures ∙ ap (λ (said : Here). set_value_of said x) here in
    line-put a.out.now a.at (eight (sheet_over bank) (pos a.number) a.run) (omega arith)
    (λ i. small a.number (omega (arith, c.ranges.number)) i ∷ small x.mode (omega arith) i ∷ small x.pattern (omega arith) i ∷ small x.step (omega arith) i
    ∷ small x.pass (omega arith) i ∷ small x.elapsed (omega arith) i ∷ small x.waited (omega arith) i ∷ is i ∷ [])
    c.put_line.ensures
