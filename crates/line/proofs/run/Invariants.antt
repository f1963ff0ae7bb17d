-- `line::run` meets its contract. The invariant: what stands is what the bytes so far leave, and their text has at most 168 bytes each.
-- Assumes nothing.
use Prim.Native.Nat.{ℕ, ◌*◌, ◌≤◌}
use mathlib.Core.List.{List}
use mathlib.Core.Path.{◌≡◌}
use lib.ListN.{take}
use Rattle.plain.specs.Setup.{Setup}
use Rattle.line.specs.Beside.{sheet_over}
use Rattle.line.specs.declared.Between.{Between}
use Rattle.line.specs.declared.Ran.{Ran}
use Rattle.line.specs.Part.{part_of, after, found, leaving}
use Rattle.line.proofs.run.Given as goal

pub record Taken (setup : Setup) (store₀ input out₀ : List ℕ) (between : Between) (store out : List ℕ) (ran : Ran) (i : ℕ) : Type 0 where
  pub room : ran.end ≤ 168 * i
  pub leaves : after ran store out ≡ leaving (part_of setup (found between store₀) (take i input)) out₀

abbrev pub invariant-loop-c : goal.invariant-loop-c
invariant-loop-c l = Taken (sheet_over l.bank) l.initial.store l.input l.initial.out l.initial.ran.between l.store l.out l.ran l.c-index
