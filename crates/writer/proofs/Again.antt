-- What was read is written as the bytes that it was read from, by its parts.
-- Assumes nothing.
use mathlib.Core.Path.{◌≡◌}
use mathlib.Core.List.{List}
use Prim.Native.Nat.{ℕ}
use Rattle.std.specs.Prelude.{Ok}
use Rattle.setting.specs.declared.Settings.{Settings}
use Rattle.field.proofs.Laws.{Bytes}
use Rattle.arrays.specs.declared.Patterns.{Patterns}
use Rattle.arrays.specs.Read.{read_of}
use Rattle.arrays.specs.Write.{write_of, rewrite_of}
use Rattle.arrays.proofs.Round.{rewritten}

pub written-again : (bank out : List ℕ) (settings : Settings) (ps : Patterns) → Bytes bank → read_of bank ≡ Ok (record { settings = settings; patterns = ps })
    → write_of settings ps out ≡ rewrite_of bank out
written-again bank out settings ps small same = rewritten bank same small out
