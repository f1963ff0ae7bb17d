-- `command::press::selects` meets its contract. Assumes nothing.
use mathlib.Core.Path.{◌≡◌, refl}
use mathlib.Core.Bool.{true}
use native.Mathlib.Omega.{arith}
use lib.IntN.{ℤ}
use mir.Syntax.{w32}
use mir.Val.{SFits}
use mir.Facts.{to_z-of_z, to_z_pos}
use borrow.Author.Rules.{rules}
use Rattle.setting.specs.declared.Settings.{Settings}
use Rattle.position.specs.declared.Command.{Command}
use Rattle.position.specs.Command.{selects_of}
use Rattle.position.specs.Tests.{within}
use Rattle.position.proofs.Tests.{both-and}
use Rattle.command.proofs.press.selects.Goals as goal

-- only a select can meet 26
no-select : (settings : Settings) (command : Command) → ((q : ℤ) → command ≡ Command.Select q → ⊥) → true ≡ selects_of settings command
unfolding selects_of
no-select settings (Command.Select q) h = absurd (h q refl)
no-select settings Command.Start h = refl
no-select settings Command.Pause h = refl
no-select settings Command.Reset h = refl
no-select settings Command.Feed h = refl
no-select settings Command.Back h = refl
no-select settings Command.Plus h = refl
no-select settings Command.Minus h = refl

pub returns-in-Select : goal.returns-in-Select
unfolding selects_of within
returns-in-Select c =
    let fits : SFits w32 c.in-Select.q = search rules in
    rw (c.in-Select.is, to_z-of_z fits, to_z_pos w32 {n = c.args.settings.patterns} (omega arith)) (simp both-and refl)

pub returns-in_default : goal.returns-in_default
returns-in_default c = no-select c.args.settings c.args.pressed c.in_default.not-Select
