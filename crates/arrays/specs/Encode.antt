-- The bytes of a bank, from its settings and patterns.
-- Assumes nothing.
use Rattle.std.specs.Prelude.{ℕ, ◌+◌, ◌*◌, List, [], ◌∷◌, ◌++◌, length, replicate, get_or}
use Rattle.std.specs.Int.{w16}
use Rattle.std.proofs.Common.{of_z}
use Rattle.field.specs.Row.{row}
use Rattle.bank.specs.View.{Pattern}
use Rattle.setting.specs.declared.Settings.{Settings}
use Rattle.bank.specs.declared.Step.{Step}

-- n, start, outage choice (a byte each), SLL, SLH, start value (signed 16 bits), outage width, F, four pairs of wait zone and wait
-- minutes, four pairs of on minute and off minute (16 bits each): 45 bytes
abbrev pub setting_widths : List ℕ
setting_widths = 1 ∷ 1 ∷ 1 ∷ replicate 21 2

-- two lists, pair by pair
unfoldable pub paired : List ℕ → List ℕ → List ℕ
paired [] ys = []
paired (x ∷ xs) [] = []
paired (x ∷ xs) (y ∷ ys) = x ∷ y ∷ paired xs ys

abbrev pub setting_numbers : Settings → List ℕ
setting_numbers settings =
    settings.patterns ∷ settings.start ∷ settings.outage ∷ of_z w16 settings.low ∷ of_z w16 settings.high ∷ of_z w16 settings.initial ∷ settings.width ∷ settings.filter
    ∷ (paired settings.zones settings.waits ++ paired settings.on settings.off)

-- target (signed 16), minutes (16 bits), wait number, four time signals: nine bytes
abbrev pub step_widths : List ℕ
step_widths = 2 ∷ 2 ∷ 1 ∷ 1 ∷ 1 ∷ 1 ∷ 1 ∷ []

abbrev pub step_numbers : Step → List ℕ
step_numbers step =
    of_z w16 step.target ∷ step.minutes ∷ step.wait ∷ get_or step.signals 0 0 ∷ get_or step.signals 1 0 ∷ get_or step.signals 2 0
    ∷ get_or step.signals 3 0 ∷ []

unfoldable pub steps_bytes : List Step → List ℕ
steps_bytes [] = []
steps_bytes (step ∷ steps) = row step_widths (step_numbers step) ++ steps_bytes steps

-- the bodies: runs, s, then the steps of each
unfoldable pub bodies_bytes : List Pattern → List ℕ
bodies_bytes [] = []
bodies_bytes (x ∷ xs) = row (1 ∷ 1 ∷ []) (x.runs ∷ x.count ∷ []) ++ steps_bytes x.steps ++ bodies_bytes xs

-- the length of a body
abbrev pub size_of : Pattern → ℕ
size_of x = 2 + 9 * length x.steps

-- body offset and length of each, the first of which is due at an offset
unfoldable pub pairs_bytes : ℕ → List Pattern → List ℕ
pairs_bytes due [] = []
pairs_bytes due (x ∷ xs) = row (2 ∷ 2 ∷ []) (due ∷ size_of x ∷ []) ++ pairs_bytes (due + size_of x) xs

-- settings, pairs, bodies
unfoldable pub encode : Settings → List Pattern → List ℕ
encode settings ps = row setting_widths (setting_numbers settings) ++ pairs_bytes (45 + 4 * length ps) ps ++ bodies_bytes ps
