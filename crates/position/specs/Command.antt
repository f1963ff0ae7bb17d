-- The table of commands: the modes that take each, and what it makes of a position.
-- Assumes nothing.
use Rattle.std.specs.Prelude.{ℕ, ◌+◌, ◌-◌, Bool, true, false, cond, not, eqb, leb, ltb, ℤ, pos, nat_abs, Option, None, Some}
use Rattle.setting.specs.declared.Settings.{Settings}
use Rattle.position.specs.declared.Position.{Position}
use Rattle.position.specs.declared.Here.{Here}
use Rattle.position.specs.declared.Command.{Command}
use Rattle.position.specs.Tests.{both, either, within}
use Rattle.position.specs.Program.{timed, placed, set_value_of, end_position, next_position}

-- ---- a position with its mode replaced

abbrev pub with_mode : Position → ℕ → Position
with_mode position mode =
    record {
      mode = mode;
      pattern = position.pattern;
      step = position.step;
      pass = position.pass;
      elapsed = position.elapsed;
      waited = position.waited;
      base = position.base;
    }

-- ---- the modes that take each command

unfoldable pub takes_of : Command → ℕ → Bool
takes_of (Command.Select q) mode = either (eqb mode 0) (eqb mode 3)
takes_of Command.Start mode = either (eqb mode 0) (eqb mode 3)
takes_of Command.Pause mode = either (eqb mode 1) (eqb mode 2)
takes_of Command.Reset mode = either (eqb mode 1) (either (eqb mode 2) (eqb mode 3))
takes_of Command.Feed mode = either (eqb mode 1) (eqb mode 2)
takes_of Command.Back mode = either (eqb mode 1) (eqb mode 2)
takes_of Command.Plus mode = either (eqb mode 1) (eqb mode 2)
takes_of Command.Minus mode = either (eqb mode 1) (eqb mode 2)

-- ---- select, start, pause, reset

-- 26, select outside 1–n
unfoldable pub selects_of : Settings → Command → Bool
selects_of settings (Command.Select q) = within (pos 1) q (pos settings.patterns)
selects_of settings Command.Start = true
selects_of settings Command.Pause = true
selects_of settings Command.Reset = true
selects_of settings Command.Feed = true
selects_of settings Command.Back = true
selects_of settings Command.Plus = true
selects_of settings Command.Minus = true

unfoldable pub is_start : Command → Bool
is_start (Command.Select q) = false
is_start Command.Start = true
is_start Command.Pause = false
is_start Command.Reset = false
is_start Command.Feed = false
is_start Command.Back = false
is_start Command.Plus = false
is_start Command.Minus = false

-- "to stopped": mode 0, k = r = 1, e = w = b = 0. The pattern is the position's own, or the one selected
abbrev pub stop_position : ℕ → Position
stop_position p = record { mode = 0; pattern = p; step = 1; pass = 1; elapsed = 0; waited = 0; base = pos 0 }

-- start: mode 1, r = 1, e = w = 0, at step k, b as given
abbrev pub begin_position : Position → ℕ → ℤ → Position
begin_position position k b =
    record { mode = 1; pattern = position.pattern; step = k; pass = 1; elapsed = 0; waited = 0; base = b }

-- at step 1. Document 02, note 2: under start choice 0, if step 1 is not the timer, at step 2, and a one-step pattern ends at the start with
-- k = r = 1. `first` is what the bank says at step 1 in pass 1
unfoldable pub start_position : Settings → Here → Position → ℤ → Position
start_position settings first position b =
    cond (either (not (eqb settings.start 0)) first.timer) (begin_position position 1 b)
    (cond (ltb 1 first.count) (begin_position position 2 b) (end_position (begin_position position 1 b)))

-- whether there is a filtered value, and its measured whole value
unfoldable pub is_value : Option ℤ → Bool
is_value None = false
is_value (Some value) = true

unfoldable pub value_of : Option ℤ → ℤ
value_of None = pos 0
value_of (Some value) = value

-- b at a start: the measured whole value or the start value by the start choice
unfoldable pub start_base : Settings → Option ℤ → ℤ
start_base settings whole = cond (eqb settings.start 0) (value_of whole) settings.initial

-- 29, start choice 0, no filtered value
unfoldable pub lacks_value : Settings → Option ℤ → Bool
lacks_value settings whole = both (eqb settings.start 0) (not (is_value whole))

-- pause swaps 1 and 2
unfoldable pub pause_position : Position → Position
pause_position position = with_mode position (cond (eqb position.mode 1) 2 1)

-- ---- feed, back

-- feed: next; mode 3 if endless
unfoldable pub feed_position : Here → Position → Position
feed_position here position = cond here.endless (end_position position) (next_position here position)

-- back: k > 1: b becomes the set value, k falls by 1, e = w = 0; k = 1: only e = w = 0
unfoldable pub back_position : Here → Position → Position
back_position here position =
    cond (ltb 1 position.step) (placed position (position.step - 1) position.pass (set_value_of here position))
    (timed position 0 0)

-- ---- plus, minus: where they move, and where to. They never move an endless step

-- plus: e < T: e + 60 if that is below T; e = T: w + 60 if that is below W
unfoldable pub plus_moves : Here → Position → Bool
plus_moves here position =
    both (not here.endless)
    (cond (ltb position.elapsed here.time) (ltb (position.elapsed + 60) here.time) (ltb (position.waited + 60) here.wait))

unfoldable pub plus_position : Here → Position → Position
plus_position here position =
    cond (ltb position.elapsed here.time) (timed position (position.elapsed + 60) position.waited)
    (timed position position.elapsed (position.waited + 60))

-- minus: e < T: e − 60 if e ≥ 60; e = T: w − 60 if w ≥ 60, else, if T ≥ 60, w = 0 and e = T − 60
unfoldable pub minus_moves : Here → Position → Bool
minus_moves here position =
    both (not here.endless)
    (cond (ltb position.elapsed here.time) (leb 60 position.elapsed) (either (leb 60 position.waited) (leb 60 here.time)))

unfoldable pub minus_position : Here → Position → Position
minus_position here position =
    cond (ltb position.elapsed here.time) (timed position (position.elapsed - 60) position.waited)
    (cond (leb 60 position.waited) (timed position position.elapsed (position.waited - 60)) (timed position (here.time - 60) 0))

-- 30, plus or minus cannot move
unfoldable pub stuck_of : Here → Position → Command → Bool
stuck_of here position (Command.Select q) = false
stuck_of here position Command.Start = false
stuck_of here position Command.Pause = false
stuck_of here position Command.Reset = false
stuck_of here position Command.Feed = false
stuck_of here position Command.Back = false
stuck_of here position Command.Plus = not (plus_moves here position)
stuck_of here position Command.Minus = not (minus_moves here position)

-- ---- what each command does, where it is not refused

-- `first` as above
unfoldable pub command_position : Settings → Here → Here → Option ℤ → Position → Command → Position
command_position settings here first whole position (Command.Select q) = stop_position (nat_abs q)
command_position settings here first whole position Command.Start = start_position settings first position (start_base settings whole)
command_position settings here first whole position Command.Pause = pause_position position
command_position settings here first whole position Command.Reset = stop_position position.pattern
command_position settings here first whole position Command.Feed = feed_position here position
command_position settings here first whole position Command.Back = back_position here position
command_position settings here first whole position Command.Plus = plus_position here position
command_position settings here first whole position Command.Minus = minus_position here position
