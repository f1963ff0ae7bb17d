-- What every value of the types that the writer takes has: numbers that fit their fields, and arrays of their lengths.
-- Assumes nothing.
use mathlib.Core.Path.{◌≡◌}
use mathlib.Core.List.{List, [], ◌∷◌}
use Prim.Native.Nat.{ℕ, zero, suc, ◌<◌, ◌^◌}
use native.Mathlib.Omega.{arith}
use lib.ListN.{length, get_or}
use mir.Syntax.{Width, w8, w16}
use mir.Val.{Val, SFits, bits}
use denote.Laws.{Is}
use denote.Shadow.{shadow}
use denote.Plain.{UInt}
use denote.Array.{each, Array}
use denote.Struct.Declared.{row}
use Rattle.setting.specs.declared.Settings.{Settings}
use Rattle.bank.specs.declared.Step.{Step}
use Rattle.arrays.specs.declared.Patterns.{Patterns}
use Rattle.setting.specs.contracts.Settings as settings
use Rattle.bank.specs.contracts.Step as step
use Rattle.arrays.specs.contracts.Patterns as patterns
use Rattle.arrays.proofs.Views.{All}
use Rattle.arrays.proofs.Sizes.{Fours}

-- an array of four, each number below a bound
pub record Four (bound : ℕ) (xs : List ℕ) : Type 0 where
  pub size : length xs ≡ 4
  pub below : (i : ℕ) → get_or xs i 0 < bound

-- the settings: 8 and 16 bits, four of each array
pub record SettingsFit (settings : Settings) : Type 0 where
  pub patterns : settings.patterns < 256
  pub start : settings.start < 256
  pub outage : settings.outage < 256
  pub low : SFits w16 settings.low
  pub high : SFits w16 settings.high
  pub initial : SFits w16 settings.initial
  pub width : settings.width < 65536
  pub filter : settings.filter < 65536
  pub zones : Four 65536 settings.zones
  pub waits : Four 65536 settings.waits
  pub on : Four 65536 settings.on
  pub off : Four 65536 settings.off

pub fours-of : (settings : Settings) → SettingsFit settings → Fours settings
fours-of settings f = record { zones = f.zones.size; waits = f.waits.size; on = f.on.size; off = f.off.size }

-- a step: 8 and 16 bits, four signals
pub record StepFits (step : Step) : Type 0 where
  pub target : SFits w16 step.target
  pub minutes : step.minutes < 65536
  pub wait : step.wait < 256
  pub signals : Four 256 step.signals

-- the patterns: 99 steps
pub record PatternsFit (ps : Patterns) : Type 0 where
  pub size : length ps.steps ≡ 99
  pub steps : All StepFits ps.steps

-- ---- in a program: whatever the borrow checker calls a value of the type

-- an array of numbers of a width
each_below : (width : Width) (xs : List ℕ) (us : List Val) → shadow (each ℕ (UInt width).own_val xs us) → 0 < 2 ^ bits width → (i : ℕ) → get_or xs i 0 < 2 ^ bits width
each_below width [] us h z i = z
each_below width (x ∷ xs) [] h z i = absurd h
each_below width (x ∷ xs) (value ∷ us) h z zero = h.0.1
each_below width (x ∷ xs) (value ∷ us) h z (suc i) = each_below width xs us h.1 z i

pub four-in : (width : Width) (xs : List ℕ) (vs : List Val) → 0 < 2 ^ bits width → Is (Array (UInt width) 4) xs vs → Four (2 ^ bits width) xs
four-in width xs vs z h = record { size = h.1.0.1; below = each_below width xs h.0 h.1.1 z }

pub settings-fit : (given : Settings) (vs : List Val) → Is (row settings.the_type) given vs → SettingsFit given
settings-fit given vs h =
    let f = h.1.1 in
    let t = f.1.1.1.1.1.1.1.1 in
    record {
      patterns = f.0.1;
      start = f.1.0.1;
      outage = f.1.1.0.1;
      low = record { sfits = f.1.1.1.0.1 };
      high = record { sfits = f.1.1.1.1.0.1 };
      initial = record { sfits = f.1.1.1.1.1.0.1 };
      width = f.1.1.1.1.1.1.0.1;
      filter = f.1.1.1.1.1.1.1.0.1;
      zones = four-in w16 given.zones _ (omega arith) t.0;
      waits = four-in w16 given.waits _ (omega arith) t.1.0;
      on = four-in w16 given.on _ (omega arith) t.1.1.0;
      off = four-in w16 given.off _ (omega arith) t.1.1.1.0;
    }

pub fours : (given : Settings) (vs : List Val) → Is (row settings.the_type) given vs → Fours given
fours given vs h = fours-of given (settings-fit given vs h)

pub step_fits : (one : Step) (vs : List Val) → Is (row step.the_type) one vs → StepFits one
step_fits one vs h =
    let f = h.1.1 in
    record {
      target = record { sfits = f.0.1 };
      minutes = f.1.0.1;
      wait = f.1.1.0.1;
      signals = four-in w8 one.signals _ (omega arith) f.1.1.1.0;
    }

steps-fit : (ss : List Step) (us : List Val) → shadow (each Step (row step.the_type).own_val ss us) → All StepFits ss
steps-fit [] us h = tt
steps-fit (one ∷ ss) [] h = absurd h
steps-fit (one ∷ ss) (value ∷ us) h = (step_fits one (value ∷ []) h.0, steps-fit ss us h.1)

pub patterns-fit : (ps : Patterns) (vs : List Val) → Is (row patterns.the_type) ps vs → PatternsFit ps
patterns-fit ps vs h =
    let a = h.1.1.1.1.0 in
    record { size = a.1.0.1; steps = steps-fit ps.steps a.0 a.1.1 }

-- and 15 counts
pub counts-fit : (ps : Patterns) (vs : List Val) → Is (row patterns.the_type) ps vs → length ps.counts ≡ 15
counts-fit ps vs h = h.1.1.1.0.1.0.1
