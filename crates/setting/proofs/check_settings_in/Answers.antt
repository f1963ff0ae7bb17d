-- `setting::check_settings_in` meets its contract.
-- Assumes nothing.
use mathlib.Core.Path.{sym, ap, ◌∙◌}
use borrow.Author.Tests.{le-leb, lt-leb}
use Rattle.setting.proofs.Laws.{right, wrong}
use Rattle.setting.specs.Found.{numbers_of}
use Rattle.setting.specs.Setting.{settings_found, settings_in}
use Rattle.setting.proofs.check_settings_in.Goals as goal

pub returns-then-bank-lt45 : goal.returns-then-bank-lt45
unfolding settings_in
returns-then-bank-lt45 c = ap numbers_of (sym (wrong _ (lt-leb _ _ c.if-bank-lt45.true)))

pub returns : goal.returns
unfolding settings_in
returns c =
    ap numbers_of (c.check.ensures ∙ ap settings_found c.settings_in.ensures
    ∙ sym (right _ (le-leb _ _ c.if-bank-lt45.false)))
