-- `setting::bytes::padded` meets its contract: behind the bytes that are there stand zeros.
-- Assumes nothing.
use mathlib.Core.Path.{◌∙◌, ap}
use mathlib.Core.List.{List, ◌++◌}
use Prim.Native.Nat.{ℕ}
use lib.ListN.{length, get_or, drop, replicate}
use Rattle.setting.proofs.Padded.{zeros-after}
use Rattle.setting.proofs.bytes.padded.Goals as goal

pub returns : goal.returns
returns c = λ j h. ap (λ (xs : List ℕ). get_or (xs ++ drop (length c.args.bank.now) (replicate 45 0)) j 0) c.copy_from_slice.ensures.after ∙ zeros-after c.args.bank.now (length c.args.bank.now) 45 j
