-- `reader::read` meets its contract.
-- Assumes nothing.
use mathlib.Core.Path.{sym, ap, ◌∙◌}
use Rattle.std.proofs.lemmas.Result.{err_from_is_err_and}
use Rattle.setting.specs.Setting.{settings_at}
use Rattle.setting.specs.declared.Settings.{Settings}
use Rattle.setting.proofs.Laws.{numbers-tell}
use Rattle.arrays.specs.Read.{given}
use Rattle.arrays.proofs.Answers.{read-refused, read-accepted}
use Rattle.std.specs.Prelude.{Ok}
use Rattle.reader.proofs.read.Goals as goal

pub returns-in_err-check : goal.returns-in_err-check
returns-in_err-check c =
    let p = err_from_is_err_and c.from_residual.result c.from_residual.ensures.1 in
    rw (p.1, p.2) (sym (ap given (read-refused c.args.bank.now (sym (numbers-tell _ _ c.check.ensures) ∙ c.in_err-check.was))))

pub patterns-patterns-requires : goal.patterns-patterns-requires
unfolding settings_at
patterns-patterns-requires c = record {
  ok = sym (numbers-tell _ _ c.check.ensures) ∙ c.in_ok-check.was;
  count = ap (λ (settings : Settings). settings.patterns) c.read_settings-settings.ensures;
}

pub returns : goal.returns
returns c =
    ap given
    ((λ i. Ok (record { settings = c.read_settings-settings.ensures i; patterns = c.patterns-patterns.ensures i }))
    ∙ sym (read-accepted c.args.bank.now (sym (numbers-tell _ _ c.check.ensures) ∙ c.in_ok-check.was)))
