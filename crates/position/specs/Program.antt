-- The plain machine's position: its set value and signals, and what a second and next make of it, over what a bank says there.
-- Assumes nothing.
use Rattle.std.specs.Prelude.{ℕ, ◌+◌, ◌*◌, ◌/◌, min, Bool, false, cond, not, List, [], ◌∷◌, eqb, leb, ltb, ℤ, pos, ◌+ℤ◌, ◌-ℤ◌, get_or, Option, None, Some}
use Rattle.std.specs.Int.Signed.{le_z}
use Rattle.setting.specs.declared.Settings.{Settings}
use Rattle.bank.specs.declared.Place.{Place}
use Rattle.bank.specs.View.{place_of}
use Rattle.position.specs.declared.Position.{Position}
use Rattle.position.specs.declared.Here.{Here}
use Rattle.position.specs.declared.Signals.{Signals}
use Rattle.position.specs.declared.Shown.{Shown}
use Rattle.position.specs.Tests.{both, either, all, apart, same_z, numbered}

-- ---- a position with some of its parts replaced

-- elapsed and waited
abbrev pub timed : Position → ℕ → ℕ → Position
timed position e w =
    record {
      mode = position.mode;
      pattern = position.pattern;
      step = position.step;
      pass = position.pass;
      elapsed = e;
      waited = w;
      base = position.base;
    }

-- step, pass and base, with e = w = 0
abbrev pub placed : Position → ℕ → ℕ → ℤ → Position
placed position k r b =
    record {
      mode = position.mode;
      pattern = position.pattern;
      step = k;
      pass = r;
      elapsed = 0;
      waited = 0;
      base = b;
    }

-- ---- what a bank says at a position

-- the limit of passes: runs, or 9,999 for 0
unfoldable pub limit_of : ℕ → ℕ
limit_of runs = cond (eqb runs 0) 9999 runs

-- of its step: the target; whether it is endless, which 6,000 minutes are; T, 60 × minutes; whether it is the timer; the wait number as it is
-- read, its zone, and W, 60 × its wait minutes, 0 for number 0; the time signals. Of its pattern: s, and the limit of passes
unfoldable pub here_by : Settings → Place → Bool → ℕ → Here
here_by settings place timer number =
    record {
      target = place.step.target;
      endless = eqb place.step.minutes 6000;
      time = 60 * place.step.minutes;
      timer = timer;
      number = number;
      zone = numbered settings.zones number;
      wait = 60 * numbered settings.waits number;
      signals = place.step.signals;
      count = place.count;
      limit = limit_of place.runs;
    }

-- of a plain step
unfoldable pub here_of : Settings → Place → Here
here_of settings place = here_by settings place false place.step.wait

-- the timer before the first ramp (document 02, note 2): under start choice 0, step 1 in pass 1, if its target equals SLL
unfoldable pub is_timer : Settings → ℤ → ℕ → ℕ → Bool
is_timer settings target k r = all (eqb settings.start 0 ∷ eqb k 1 ∷ eqb r 1 ∷ same_z target settings.low ∷ [])

-- of a place, step k, in pass r: in the timer the wait number is read as 0
unfoldable pub here_at : Settings → Place → ℕ → ℕ → Here
here_at settings place k r =
    let timer = is_timer settings place.step.target k r in
    here_by settings place timer (cond timer 0 place.step.wait)

-- of a position, by the bank's settings
abbrev pub said_at : List ℕ → Settings → Position → Here
said_at bank settings position =
    here_at settings (place_of bank position.pattern position.step) position.step position.pass

-- and of step 1 of its pattern in pass 1, where a run begins
abbrev pub first_at : List ℕ → Settings → Position → Here
first_at bank settings position = here_at settings (place_of bank position.pattern 1) 1 1

-- ---- the set value

-- modes 1 and 2
unfoldable pub active : Position → Bool
active position = either (eqb position.mode 1) (eqb position.mode 2)

-- b moved toward the target by an amount
unfoldable pub toward : ℤ → ℤ → ℕ → ℤ
toward b target amount = cond (le_z b target) (b +ℤ pos amount) (b -ℤ pos amount)

-- the target if T = 0 or the step is endless; else b moved toward the target by |target − b| × e / T, rounded down. Where e ≤ T, which every
-- readable position has, min e T is e (`ramp-is`)
unfoldable pub ramp_of : Here → ℤ → ℕ → ℤ
ramp_of here b e =
    cond (either (eqb here.time 0) here.endless) here.target
    (toward b here.target (apart here.target b * min e here.time / here.time))

-- modes 1 and 2: in the timer b, also at 0 minutes or endless; else as the ramp says. Modes 0 and 3: 0
unfoldable pub set_value_of : Here → Position → ℤ
set_value_of here position =
    cond (active position) (cond here.timer position.base (ramp_of here position.base position.elapsed)) (pos 0)

-- ---- a second of a running step

-- a measured whole value within a width of a temperature; needs a filtered value
unfoldable pub near_of : ℕ → ℤ → Option ℤ → Bool
near_of width about None = false
near_of width about (Some value) = leb (apart value about) width

-- at or past the target seen from b: above counts if b ≤ target, below otherwise; needs a filtered value
unfoldable pub past_of : ℤ → ℤ → Option ℤ → Bool
past_of b target None = false
past_of b target (Some value) = cond (le_z b target) (le_z target value) (le_z value target)

-- in zone: within the zone of the target; for zone 0, at or past the target seen from b
unfoldable pub in_zone_of : Here → ℤ → Option ℤ → Bool
in_zone_of here b whole = cond (eqb here.zone 0) (past_of b here.target whole) (near_of here.zone here.target whole)

-- an endless step adds 1 to e, held at 359,999; else e gains 1 if e < T, otherwise w gains 1. Where w < W, which every readable position
-- that waits has, w gains 1 (`second_is`): it is held at the largest number of 32 bits
unfoldable pub second_position : Here → Position → Position
second_position here position =
    cond here.endless (timed position (min (position.elapsed + 1) 359999) position.waited)
    (cond (ltb position.elapsed here.time) (timed position (position.elapsed + 1) position.waited)
    (timed position position.elapsed (min (position.waited + 1) 4294967295)))

-- then, if e = T and (wait number 0, or in zone, or w ≥ W), go to next. An endless step is never left so
unfoldable pub leaves_of : Here → Option ℤ → Position → Bool
leaves_of here whole position =
    both (not here.endless)
    (both (eqb position.elapsed here.time)
    (either (eqb here.number 0) (either (in_zone_of here position.base whole) (leb here.wait position.waited))))

-- ---- next

-- mode 3 has e = w = b = 0
abbrev pub end_position : Position → Position
end_position position =
    record {
      mode = 3;
      pattern = position.pattern;
      step = position.step;
      pass = position.pass;
      elapsed = 0;
      waited = 0;
      base = pos 0;
    }

-- b becomes the set value, then e = w = 0. Below the last step k gains 1. At the last, if r is below the limit, r gains 1 and k = 1;
-- otherwise mode 3
unfoldable pub next_position : Here → Position → Position
next_position here position =
    cond (ltb position.step here.count) (placed position (position.step + 1) position.pass (set_value_of here position))
    (cond (ltb position.pass here.limit) (placed position 1 (position.pass + 1) (set_value_of here position))
    (end_position position))

-- the position's part of a tick: in mode 1 a second of the step, and then perhaps next
unfoldable pub tick_position : Here → Option ℤ → Position → Position
tick_position here whole position =
    let after = second_position here position in
    cond (eqb position.mode 1) (cond (leaves_of here whole after) (next_position here after) after) position

-- ---- time signals

-- modes 1 and 2: 5 is on; j from 1 to 4 is on while on minute j ≤ e / 60 rounded down < off minute j; 0 is off
unfoldable pub signal_of : Settings → Position → ℕ → Bool
signal_of settings position j =
    both (active position)
    (either (eqb j 5)
    (both (leb (numbered settings.on j) (position.elapsed / 60)) (ltb (position.elapsed / 60) (numbered settings.off j))))

unfoldable pub signals_of : Settings → Here → Position → Signals
signals_of settings here position =
    record {
      first = signal_of settings position (get_or here.signals 0 0);
      second = signal_of settings position (get_or here.signals 1 0);
      third = signal_of settings position (get_or here.signals 2 0);
      fourth = signal_of settings position (get_or here.signals 3 0);
    }

-- an answer, unless a refusal, carries set value and signals
unfoldable pub shown_of : Settings → Here → Position → Shown
shown_of settings here position =
    record { value = set_value_of here position; signals = signals_of settings here position }
