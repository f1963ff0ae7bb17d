-- What the choices of a return make of a position, and which positions are readable.
-- Assumes nothing.
use Rattle.std.specs.Prelude.{Bool, cond, not, eqb, leb, ltb, Option, ℤ}
use Rattle.setting.specs.declared.Settings.{Settings}
use Rattle.position.specs.declared.Position.{Position}
use Rattle.position.specs.declared.Here.{Here}
use Rattle.position.specs.Tests.{both, either, temperature, zero_z}
use Rattle.position.specs.Program.{active, set_value_of, near_of}
use Rattle.position.specs.Command.{with_mode, stop_position}

-- ---- return

-- choice 2: the width is 0, or the measured whole value is within the width of the restored set value; over and under are not
unfoldable pub goes_on : Settings → Here → Option ℤ → Position → Bool
goes_on settings here whole position =
    either (eqb settings.width 0) (near_of settings.width (set_value_of here position) whole)

-- mode 0 and 3 stay. Choice 0: to stopped. Choice 1: running becomes paused. Choice 2: running stays running if it goes on, else paused;
-- paused stays
unfoldable pub return_position : Settings → Here → Option ℤ → Position → Position
return_position settings here whole position =
    cond (not (active position)) position
    (cond (eqb settings.outage 0) (stop_position position.pattern)
    (cond (both (eqb position.mode 1) (both (not (eqb settings.outage 1)) (goes_on settings here whole position))) position
    (with_mode position 2)))

-- ---- readable

-- modes 1, 2 have e ≤ T (endless 359,999) and w = 0, or e = T and 0 < w < W, never endless
unfoldable pub times_right : Here → Position → Bool
times_right here position =
    either (both (eqb position.waited 0) (leb position.elapsed (cond here.endless 359999 here.time)))
    (both (not here.endless)
    (both (eqb position.elapsed here.time) (both (ltb 0 position.waited) (ltb position.waited here.wait))))

-- e = w = b = 0
unfoldable pub cleared_of : Position → Bool
cleared_of position = both (eqb position.elapsed 0) (both (eqb position.waited 0) (zero_z position.base))

-- mode ≤ 3, 1 ≤ p ≤ n and: mode 0 is as "to stopped" says; else 1 ≤ k ≤ s, 1 ≤ r ≤ limit, b in the temperature range; mode 3 has
-- e = w = b = 0; modes 1, 2 have their times right
unfoldable pub readable_of : Settings → Here → Position → Bool
readable_of settings here position =
    both (leb position.mode 3)
    (both (both (leb 1 position.pattern) (leb position.pattern settings.patterns))
    (cond (eqb position.mode 0) (both (eqb position.step 1) (both (eqb position.pass 1) (cleared_of position)))
    (both (both (leb 1 position.step) (leb position.step here.count))
    (both (both (leb 1 position.pass) (leb position.pass here.limit))
    (both (temperature position.base)
    (cond (eqb position.mode 3) (cleared_of position) (times_right here position)))))))
