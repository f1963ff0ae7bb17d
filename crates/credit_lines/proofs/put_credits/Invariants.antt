-- `credit_lines::put_credits` meets its contract. The invariant: the lines of the steps that are left, stored where they are due, give the whole, and
-- there is room for them. Assumes nothing.
use Prim.Native.Nat.{ℕ, ◌+◌, ◌*◌, ◌≤◌}
use mathlib.Core.List.{List}
use mathlib.Core.Path.{◌≡◌}
use lib.ListN.{length, drop}
use Rattle.decimal.specs.Text.{put_text}
use Rattle.line.specs.Sheet.{credit_lines}
use Rattle.credit_lines.proofs.put_credits.Given as goal

pub record Due (out₀ credits out : List ℕ) (at i : ℕ) : Type 0 where
  pub within : i ≤ 99
  pub long : length out ≡ length out₀
  pub room : at ≤ 42 * i
  pub gives : put_text out at (credit_lines (i + 1) (drop i credits)) ≡ put_text out₀ 0 (credit_lines 1 credits)

abbrev pub invariant-loop-i : goal.invariant-loop-i
invariant-loop-i l = Due l.initial.out l.fn.state.credits l.out l.at l.i
