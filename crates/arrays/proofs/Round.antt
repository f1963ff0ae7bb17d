-- Both ways round: a bank that was written reads as what was taken, and an accepted bank written again has the same bytes.
-- Assumes nothing.
use mathlib.Core.Path.{◌≡◌, refl, sym, ap, ◌∙◌}
use mathlib.Core.List.{List}
use Prim.Native.Nat.{ℕ, ◌≤◌}
use native.Mathlib.Omega.{arith}
use lib.ListN.{length, take}
use lib.Seq.{sets, sets-eq, take_at}
use Rattle.field.proofs.Laws.{Bytes}
use Rattle.setting.specs.Setting.{settings_at}
use Rattle.bank.specs.View.{patterns_of}
use Rattle.bank.specs.Check.{found_in}
use Rattle.setting.specs.declared.Settings.{Settings}
use Rattle.setting.proofs.Laws.{numbers-tell}
use Rattle.arrays.specs.declared.Patterns.{Patterns}
use Rattle.arrays.specs.declared.Bank.{Bank}
use Rattle.arrays.specs.Read.{laid_out, read_as, read_of, given}
use Rattle.arrays.specs.Encode.{encode}
use Rattle.arrays.specs.Write.{taken_of, wrong_in, taken_bank, write_as, write_of, rewrite_of}
use Rattle.arrays.proofs.Answers.{whole, read-accepted, read-refused}
use Rattle.arrays.proofs.Values.{SettingsFit, PatternsFit}
use Rattle.arrays.proofs.Found.{reads-settings, reads-patterns, written-accepted}
use Rattle.arrays.proofs.Again.{written-again}
use Rattle.arrays.proofs.Laid.{right-again, taken-again}
use Rattle.setting.specs.Found.{Checked, Accepted, numbers_of}
use Rattle.setting.specs.declared.BankRefusal.{BankRefusal}
use Rattle.std.specs.Prelude.{Result, Ok, Err}

-- ---- what was written, at the front of a buffer, reads as what was taken

module _ (settings : Settings) (ps : Patterns) (f : SettingsFit settings) (g : PatternsFit ps) (ok : wrong_in settings (taken_of settings ps) ≡ Accepted) where
  written_read : read_of (encode settings (taken_of settings ps)) ≡ Ok (taken_bank settings ps)
  unfolding read_of read_as taken_bank
  written_read = λ i. read_as (written-accepted settings ps f g ok i) (reads-settings settings ps f g ok i) (reads-patterns settings ps f g ok i)

  pub reads-back : (out : List ℕ) (size : ℕ) → length (encode settings (taken_of settings ps)) ≤ length out → length (encode settings (taken_of settings ps)) ≡ size
      → read_of (take size (sets out 0 (encode settings (taken_of settings ps)))) ≡ Ok (taken_bank settings ps)
  reads-back out size h same =
      let bank = encode settings (taken_of settings ps) in
      let front : take size (sets out 0 bank) ≡ bank = ap (take size) (sets-eq bank out 0 (omega arith)) ∙ take_at bank _ size same in
      ap read_of front ∙ written_read

-- ---- what was read of an accepted bank is written as its bytes

again : (bank out : List ℕ) → Bytes bank → found_in bank ≡ Accepted → write_of (settings_at bank) (laid_out (patterns_of bank)) out ≡ rewrite_of bank out
unfolding write_of rewrite_of
again bank out small ok =
    (λ i. write_as (wrong_in (settings_at bank) (taken-again bank ok i)) (encode (settings_at bank) (taken-again bank ok i)) out)
    ∙ (λ i. write_as ((right-again bank ok ∙ sym ok) i) (written-again bank small ok i) out)

-- ---- by what a call of the reader gave

-- the numbers of a refusal tell it
pub given-tell : (left right : Result Bank BankRefusal) → given left ≡ given right → left ≡ right
given-tell (Ok whole) (Ok whole') same = let e : whole ≡ whole' = cc in ap Ok e
given-tell (Ok whole) (Err refusal) same = cc
given-tell (Err refusal) (Ok whole) same = cc
given-tell (Err refusal) (Err refusal') same =
    let numbers : numbers_of (Err refusal) ≡ numbers_of (Err refusal') = cc in
    let found : ◌≡◌ {A = Checked} (Err refusal) (Err refusal') = numbers-tell _ _ numbers in
    let e : refusal ≡ refusal' = cc in ap Err e

-- a refusal is the bank's
refused-by : (bank : List ℕ) (found : Checked) {refusal : BankRefusal} → found_in bank ≡ found → read_of bank ≡ Err refusal → found_in bank ≡ Err refusal
refused-by bank (Ok done) same h = let e = read-accepted bank same in cc
refused-by bank (Err other) same h = let e = read-refused bank same in let f : other ≡ _ = cc in same ∙ ap Err f

pub refused-alike : (bank : List ℕ) {refusal : BankRefusal} → read_of bank ≡ Err refusal → found_in bank ≡ Err refusal
refused-alike bank same = refused-by bank (found_in bank) refl same

-- and a bank is that of an accepted one
accepted-by : (bank : List ℕ) (found : Checked) {read : Bank} → found_in bank ≡ found → read_of bank ≡ Ok read → (found_in bank ≡ Accepted) × (whole bank ≡ read)
accepted-by bank (Ok done) same h = let e = read-accepted bank same in (same, cc)
accepted-by bank (Err other) same h = let e = read-refused bank same in cc

pub rewritten : (bank : List ℕ) {read : Bank} → read_of bank ≡ Ok read → Bytes bank → (out : List ℕ) → write_of read.settings read.patterns out ≡ rewrite_of bank out
rewritten bank same small out =
    let h = accepted-by bank (found_in bank) refl same in
    ap (λ (read : Bank). write_of read.settings read.patterns out) (sym h.1) ∙ again bank out small h.0
