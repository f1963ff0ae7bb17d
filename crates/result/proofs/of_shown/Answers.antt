-- `result::of_shown` meets its contract. Assumes nothing.
use mathlib.Core.Path.{◌≡◌, ap, ◌∙◌}
use native.Mathlib.Omega.{arith}
use borrow.Author.Rules.{rules}
use mir.Syntax.{w16}
use mir.Val.{SFits, of_z}
use mir.Facts.{to_z-of_z}
use Rattle.calls.specs.Result.{result_of}
use Rattle.result.proofs.of_shown.Goals as goal

pub returns : goal.returns
unfolding result_of
returns c =
    let fits : SFits w16 c.args.shown.value = search rules in
    let value : c.cast_unsigned.result ≡ of_z w16 c.args.shown.value = c.cast_unsigned.ensures ∙ ap (of_z w16) (to_z-of_z fits) in
    omega (arith, value, c.from.ensures, c.signal_bits.ensures.bits)
