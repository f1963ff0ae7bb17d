-- What the writer of a bank gives and leaves.
-- Assumes nothing.
use Rattle.std.specs.Prelude.{ℕ, zero, suc, ◌+◌, Bool, cond, ◌≡◌, List, [], ◌∷◌, leb, length, get_or, take, drop, Result, Ok, Err}
use Rattle.std.proofs.lemmas.List.Edits.{sets}
use Rattle.capacity.specs.Capacity.{capacity_of}
use Rattle.bank.specs.View.{Pattern}
use Rattle.setting.specs.Found.{numbers_of, unless, then}
use Rattle.setting.specs.Setting.{settings_found}
use Rattle.bank.specs.Check.{bodies_found, found_in}
use Rattle.setting.specs.declared.Settings.{Settings}
use Rattle.arrays.specs.declared.WriteRefusal.{WriteRefusal}
use Rattle.arrays.specs.declared.Patterns.{Patterns}
use Rattle.arrays.specs.declared.Bank.{Bank}
use Rattle.arrays.specs.Read.{laid_out, read_of}
use Rattle.arrays.specs.Encode.{encode}
use Rattle.setting.specs.Found.{Checked}

abbrev pub Written : Type 0
Written = Result ℕ WriteRefusal

-- the document's number and values of each case; 0 with the length is accepted, 15 is a buffer too short
unfoldable pub written_numbers : Written → List ℕ
written_numbers (Ok size) = 0 ∷ size ∷ []
written_numbers (Err (WriteRefusal.Bank refusal)) = numbers_of (Err refusal)
written_numbers (Err WriteRefusal.Full) = 15 ∷ []

-- what a call leaves: its answer's numbers and the buffer
pub record After : Type 0 where
  pub numbers : List ℕ
  pub bytes : List ℕ

abbrev pub after : Written → List ℕ → After
after written out = record { numbers = written_numbers written; bytes = out }

-- the patterns that the writer takes: m of them from place p on, whose steps stand from place base on
unfoldable pub taken_from : Patterns → ℕ → ℕ → ℕ → List Pattern
taken_from ps p base zero = []
taken_from ps p base (suc m) =
    record { runs = get_or ps.runs p 0; count = get_or ps.counts p 0; steps = take (get_or ps.counts p 0) (drop base ps.steps) }
    ∷ taken_from ps (p + 1) (base + get_or ps.counts p 0) m

-- the n patterns
unfoldable pub taken_of : Settings → Patterns → List Pattern
taken_of settings ps = taken_from ps 0 0 settings.patterns

-- an s of at most the capacity is right
unfoldable pub within_capacity : ℕ → Pattern → Bool
within_capacity n x = leb x.count (capacity_of n)

-- 12, then 14 pattern by pattern: runs, s, steps
unfoldable pub wrong_in : Settings → List Pattern → Checked
wrong_in settings ps = then (settings_found settings) (bodies_found (within_capacity settings.patterns) settings.low settings.high 1 ps)

-- a refusal leaves the buffer, and so does 15; else the bank stands at the buffer's front, and the bytes past its end are untouched
unfoldable pub write_as : Checked → List ℕ → List ℕ → After
write_as found bank out =
    unless found (λ refusal. after (Err (WriteRefusal.Bank refusal)) out)
    (cond (leb (length bank) (length out)) (after (Ok (length bank)) (sets out 0 bank)) (after (Err WriteRefusal.Full) out))

unfoldable pub write_of : Settings → Patterns → List ℕ → After
write_of settings ps out = write_as (wrong_in settings (taken_of settings ps)) (encode settings (taken_of settings ps)) out

-- "a bank it wrote reads as what it took": where a length is answered, so many bytes at the front read as the settings and the n patterns
unfoldable pub taken_bank : Settings → Patterns → Bank
taken_bank settings ps = record { settings = settings; patterns = laid_out (taken_of settings ps) }

abbrev pub ReadsBack : Settings → Patterns → Written → List ℕ → Type 0
ReadsBack settings ps written out = (size : ℕ) → written ≡ Ok size → read_of (take size out) ≡ Ok (taken_bank settings ps)

-- "an accepted bank written again has the same bytes"; a bank that is not accepted gives its refusal
unfoldable pub rewrite_of : List ℕ → List ℕ → After
rewrite_of bank out = write_as (found_in bank) bank out
