-- `command::press::start` meets its contract. Assumes nothing.
use mathlib.Core.Path.{◌≡◌, refl}
use mathlib.Core.Bool.{true, cond}
use lib.Dec.{eqb}
use lib.IntN.{ℤ}
use mir.Syntax.{w16}
use mir.Val.{SFits}
use mir.Facts.{to_z-of_z}
use borrow.Author.Rules.{rules}
use native.Mathlib.Omega.{arith}
use borrow.Author.Tests.{eq-eqb, ne_eqb}
use Rattle.setting.specs.declared.Settings.{Settings}
use Rattle.position.specs.declared.Position.{Position}
use Rattle.position.specs.declared.Here.{Here}
use Rattle.position.specs.declared.Command.{Command}
use Rattle.position.specs.Program.{first_at}
use Rattle.position.specs.Tests.{both}
use Rattle.position.specs.Command.{takes_of, selects_of, is_start, is_value, value_of, start_position, start_base, lacks_value, stuck_of, command_position}
use Rattle.plain.specs.declared.Refusal.{Refusal}
use Rattle.plain.specs.Refusals.{command_move}
use Rattle.command.proofs.Laws.{taken_is}
use Rattle.command.proofs.press.start.Goals as goal
use Rattle.std.specs.Prelude.{Option}
use Rattle.std.specs.Prelude.{Ok, Err, None, Some}
use Rattle.std.proofs.lemmas.Result.{err_from_is_err_and}
use Rattle.command.proofs.press.start.Goals.{then-settings-eq0+in_ok-base, else-settings-eq0}

-- a start in a mode that takes it: 28, 29, or its base
start_is : (settings : Settings) (here first : Here) (value : Option ℤ) (position : Position) → takes_of Command.Start position.mode ≡ true
    → command_move settings here first value position Command.Start
    ≡ cond (eqb here.count 0) (Err Refusal.NoStep)
    (cond (lacks_value settings value) (Err Refusal.NoValue)
    (Ok (start_position settings first position (start_base settings value))))
unfolding selects_of is_start both stuck_of command_position
start_is settings here first value position h =
    taken_is settings here first value position Command.Start (record { selects = refl; takes = h })

pub returns-then-here-eq0 : goal.returns-then-here-eq0
returns-then-here-eq0 c =
    let first = first_at c.args.bank.now c.args.settings c.args.position in
    rw (start_is c.args.settings c.args.here first c.args.value c.args.position c.requires, eq-eqb c.args.here.count 0 c.if-here-eq0.true) refl

pub returns-in_err-base : goal.returns-in_err-base
unfolding lacks_value is_value both
returns-in_err-base c =
    let first = first_at c.args.bank.now c.args.settings c.args.position in
    let none : c.args.value ≡ None = grind arith in
    let p = err_from_is_err_and c.from_residual.result c.from_residual.ensures.1 in
    let missing : c.in_err-base.field-0.0 ≡ Refusal.NoValue = grind arith in
    rw (
      p.1,
      p.2,
      start_is c.args.settings c.args.here first c.args.value c.args.position c.requires,
      ne_eqb _ _ c.if-here-eq0.false,
      c.if-settings-eq0.true,
      none,
      missing,
    ) refl

pub returns : goal.returns
unfolding lacks_value is_value start_base value_of both
returns c =
    let first = first_at c.args.bank.now c.args.settings c.args.position in
    rw (
      start_is c.args.settings c.args.here first c.args.value c.args.position c.requires,
      ne_eqb _ _ c.if-here-eq0.false,
      c.started.ensures,
    )
    (elim c.if-settings-eq0.branch [
      | then-settings-eq0+in_ok-base w ↦
          let some : c.args.value ≡ Some w.in_ok-base.base = grind arith in
          let fits : SFits w16 w.in_ok-base.base = search rules in
          rw (w.if-settings-eq0.true, some, w.base-is, to_z-of_z fits) refl
      | else-settings-eq0 w ↦
          let fits : SFits w16 c.args.settings.initial = search rules in
          rw (ne_eqb _ _ w.if-settings-eq0.false, w.base-is, to_z-of_z fits) refl
    ])
