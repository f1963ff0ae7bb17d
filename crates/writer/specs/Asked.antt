-- What the functions of `writer` ask.
-- Assumes nothing.
use Rattle.std.specs.Prelude.{ℕ, ◌+◌, ◌*◌, ◌≤◌, ◌≡◌, List, length}
use Rattle.setting.specs.declared.Settings.{Settings}
use Rattle.arrays.specs.declared.Patterns.{Patterns}
use Rattle.arrays.specs.Write.{taken_of, wrong_in}
use Rattle.setting.specs.Found.{Accepted}

-- settings and patterns that are right, and a buffer that reaches to where their part of the bank ends
pub record Room (settings : Settings) (ps : Patterns) (end : ℕ) (out : List ℕ) : Type 0 where
  pub right : wrong_in settings (taken_of settings ps) ≡ Accepted
  pub fits : end ≤ length out

-- so many steps of a body, and a buffer that its bytes fit in at an offset
pub record BodyRoom (count at : ℕ) (out : List ℕ) : Type 0 where
  pub few : count ≤ 99
  pub fits : at + (2 + 9 * count) ≤ length out
