-- What the reader and the writer give, by what is found.
-- Assumes nothing.
use mathlib.Core.Path.{◌≡◌, ap, ◌∙◌}
use mathlib.Core.Bool.{Bool, cond}
use mathlib.Core.List.{List}
use Prim.Native.Nat.{ℕ, ◌≤◌, ◌<◌}
use borrow.Author.Tests.{le-leb, lt-leb}
use lib.Dec.{leb}
use lib.ListN.{length}
use lib.Seq.{sets}
use Rattle.setting.specs.Setting.{settings_at}
use Rattle.bank.specs.View.{patterns_of}
use Rattle.bank.specs.Check.{found_in}
use Rattle.setting.specs.declared.BankRefusal.{BankRefusal}
use Rattle.setting.proofs.Laws.{unless-accepted, unless-refused}
use Rattle.arrays.specs.declared.Bank.{Bank}
use Rattle.arrays.specs.declared.WriteRefusal.{WriteRefusal}
use Rattle.arrays.specs.Read.{laid_out, read_as, read_of}
use Rattle.arrays.specs.Write.{After, after, write_as}
use Rattle.std.specs.Prelude.{Ok, Err}
use Rattle.setting.specs.Found.{Checked, Accepted}

-- ---- reading

module _ (bank : List ℕ) where
  -- the settings and patterns
  abbrev pub whole : Bank
  whole = record { settings = settings_at bank; patterns = laid_out (patterns_of bank) }

  pub read-refused : {refusal : BankRefusal} → found_in bank ≡ Err refusal → read_of bank ≡ Err refusal
  unfolding read_of read_as
  read-refused same = unless-refused Err (Ok whole) same

  pub read-accepted : found_in bank ≡ Accepted → read_of bank ≡ Ok whole
  unfolding read_of read_as
  read-accepted same = unless-accepted Err (Ok whole) same

-- ---- writing

module _ (bank out : List ℕ) where
  abbrev room : Bool → After
  room fits = cond fits (after (Ok (length bank)) (sets out 0 bank)) (after (Err WriteRefusal.Full) out)

  pub refused_as_lem : {found : Checked} {refusal : BankRefusal} → found ≡ Err refusal → write_as found bank out ≡ after (Err (WriteRefusal.Bank refusal)) out
  unfolding write_as
  refused_as_lem same = unless-refused (λ refusal. after (Err (WriteRefusal.Bank refusal)) out) (room (leb (length bank) (length out))) same

  accepted-as : {found : Checked} → found ≡ Accepted → {t : Bool} → leb (length bank) (length out) ≡ t → write_as found bank out ≡ room t
  unfolding write_as
  accepted-as same f = unless-accepted (λ refusal. after (Err (WriteRefusal.Bank refusal)) out) (room (leb (length bank) (length out))) same ∙ ap room f

  pub full-as : {found : Checked} → found ≡ Accepted → length out < length bank → write_as found bank out ≡ after (Err WriteRefusal.Full) out
  full-as same h = accepted-as same (lt-leb (length bank) (length out) h)

  pub written_as : {found : Checked} → found ≡ Accepted → length bank ≤ length out → write_as found bank out ≡ after (Ok (length bank)) (sets out 0 bank)
  written_as same h = accepted-as same (le-leb (length bank) (length out) h)
