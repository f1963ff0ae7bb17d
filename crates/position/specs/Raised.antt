-- A temperature as its distance from −32,768, a natural number, and back: what the code computes with. Assumes nothing.
use Rattle.std.specs.Prelude.{ℕ, ℤ, pos, nat_abs, ◌+ℤ◌, ◌-ℤ◌}

unfoldable pub raised : ℤ → ℕ
raised value = nat_abs (value +ℤ pos 32768)

unfoldable pub lowered : ℕ → ℤ
lowered distance = pos distance -ℤ pos 32768
