-- What the writer gives, by what its checks of the settings and of the patterns find.
-- Assumes nothing.
use mathlib.Core.Path.{◌≡◌, sym, ◌∙◌}
use mathlib.Core.List.{List}
use Prim.Native.Nat.{ℕ}
use Rattle.setting.specs.Found.{Checked, Accepted, numbers_of}
use Rattle.setting.specs.Setting.{settings_found}
use Rattle.setting.specs.declared.Settings.{Settings}
use Rattle.setting.specs.declared.BankRefusal.{BankRefusal}
use Rattle.setting.proofs.Laws.{numbers-tell, next, ends}
use Rattle.arrays.specs.declared.Patterns.{Patterns}
use Rattle.arrays.specs.declared.WriteRefusal.{WriteRefusal}
use Rattle.arrays.specs.Encode.{encode}
use Rattle.arrays.specs.Write.{taken_of, wrong_in, after, write_of}
use Rattle.arrays.proofs.Answers.{refused_as_lem}
use Rattle.writer.proofs.Walk.{whole}
use Rattle.std.specs.Prelude.{Err}

module _ (settings : Settings) (ps : Patterns) {found : Checked} (told : numbers_of found ≡ numbers_of (settings_found settings)) where
  -- wrong settings are refused
  pub settings-refused : (out : List ℕ) {refusal : BankRefusal} → found ≡ Err refusal → write_of settings ps out ≡ after (Err (WriteRefusal.Bank refusal)) out
  unfolding write_of wrong_in
  settings-refused out is = refused_as_lem (encode settings (taken_of settings ps)) out (ends _ (numbers-tell _ _ told) is)

  module _ (ok : found ≡ Accepted) where
    pub settings-right : settings_found settings ≡ Accepted
    settings-right = sym (numbers-tell _ _ told) ∙ ok

    module _ {wrong : Checked} (said : wrong ≡ whole settings ps) where
      judged : wrong_in settings (taken_of settings ps) ≡ wrong
      unfolding wrong_in
      judged = next settings-right ∙ sym said

      -- and so are wrong patterns
      pub patterns-refused : (out : List ℕ) {refusal : BankRefusal} → wrong ≡ Err refusal → write_of settings ps out ≡ after (Err (WriteRefusal.Bank refusal)) out
      unfolding write_of
      patterns-refused out is = refused_as_lem (encode settings (taken_of settings ps)) out (judged ∙ is)

      pub all-right : wrong ≡ Accepted → wrong_in settings (taken_of settings ps) ≡ Accepted
      all-right is = judged ∙ is
