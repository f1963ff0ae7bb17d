-- `setting::reading::settings_in` meets its contract.
-- Assumes nothing.
use mathlib.Core.Path.{sym, ap, ◌∙◌}
use mir.Syntax.{w16}
use mir.Val.{to_z}
use Rattle.field.specs.Field.{signed_field}
use Rattle.field.proofs.Laws.{field-one}
use Rattle.setting.proofs.Laws.{bits}
use Rattle.setting.specs.Setting.{settings_at}
use Rattle.setting.proofs.reading.settings_in.Goals as goal

pub returns : goal.returns
unfolding settings_at signed_field
returns c =
    let bytes = c.args.bank.now in
    λ i. record {
      patterns = sym (field-one bytes 0) i;
      start = sym (field-one bytes 1) i;
      outage = sym (field-one bytes 2) i;
      low = (bits c.signed_of.type_inv ∙ c.signed_of.ensures ∙ ap (to_z w16) c.word_in.ensures) i;
      high = (bits c.signed_of-2.type_inv ∙ c.signed_of-2.ensures ∙ ap (to_z w16) c.word_in-2.ensures) i;
      initial = (bits c.signed_of-3.type_inv ∙ c.signed_of-3.ensures ∙ ap (to_z w16) c.word_in-3.ensures) i;
      width = c.word_in-4.ensures i;
      filter = c.word_in-5.ensures i;
      zones = c.four_words.ensures i;
      waits = c.four_words-2.ensures i;
      on = c.four_words-3.ensures i;
      off = c.four_words-4.ensures i;
    }
