-- The credits are counts: the controller meets the laws of credits of a machine with a record.
-- Assumes nothing.
use mathlib.Core.Path.{◌≡◌, refl, sym, ap, ◌∙◌}
use mathlib.Core.Bool.{Bool, true, false, cond, false≢true}
use Prim.Native.Nat.{ℕ, ◌+◌, ◌≤◌, min}
use native.Mathlib.Omega.{arith}
use native.Mathlib.Nat.{le_trans}
use borrow.Author.Tests.{eqb-true}
use lib.Dec.{eqb}
use Rattle.setting.proofs.Laws.{both_left, both_right}
use Rattle.bank.specs.Check.{found_in}
use Rattle.measure.specs.declared.Reading.{Reading}
use Rattle.position.specs.Tests.{both, either}
use Rattle.position.specs.Program.{active}
use Rattle.position.specs.Command.{takes_of, is_start, command_position}
use Rattle.position.specs.Return.{return_position}
use Rattle.position.specs.declared.Position.{Position}
use Rattle.position.specs.declared.Command.{Command}
use Rattle.position.proofs.Tests.{choice}
use Rattle.position.proofs.Laws.{tick-idle}
use Rattle.position.proofs.Keeps.{step-bound}
use Rattle.outage.specs.Outage.{RemainingOf, replay}
use Rattle.outage.specs.Credit.{one, due}
use Rattle.outage.proofs.Credits.{Credited, credits}
use Rattle.plain.specs.declared.Run.{Run}
use Rattle.plain.specs.declared.Credit.{Credit}
use Rattle.plain.specs.declared.Effect.{Effect}
use Rattle.plain.specs.Setup.{Setup, settings_in, here_in}
use Rattle.plain.specs.Answer.{is_accepted}
use Rattle.plain.specs.Run.{sound_in, credited, measuring, counting, stepping, tick_by, judging, tick_run, tick_credit, tick_saves, command_run, return_by, return_run}
use Rattle.plain.specs.Event.{fresh}
use Rattle.plain.specs.Replay.{Live, lived, Plain, tick, press, plain_effect, machine, counted_in, starts_with, counted}
use Rattle.plain.proofs.Bank.{fair}
use Rattle.plain.proofs.Judged.{TakesIn, by-tick, by-press}
use Rattle.plain.proofs.Credits.{Credits, no-credits, still-credits, credit_of, held, cleared-credit, gained}
use Rattle.plain.proofs.Good.{sound-readable}
use Rattle.setting.specs.Found.{Accepted}

both-none : (test : Bool) → both test false ≡ false
unfolding both
both-none true = refl
both-none false = refl

module _ (setup : Setup) where
  -- ---- nothing has been started: mode 0

  module _ (live : Live) (stopped : live.run.position.mode ≡ 0) where
    -- an effect that leaves mode 0
    abbrev StaysIdle : Effect → Type 0
    StaysIdle effect = effect.run.position.mode ≡ 0

    idle-tick : (reading : Reading) → StaysIdle (plain_effect setup true live.run (tick reading))
    unfolding tick_by counting stepping measuring judging
    idle-tick reading =
        by-tick setup live.run StaysIdle (λ _ _. stopped) reading
        (λ _ _. choice (λ (run : Run). run.position.mode ≡ 0) (tick_saves live.run (tick_run setup reading live.run)) (λ _. still) (λ _. still))
      where
        still : (tick_run setup reading live.run).position.mode ≡ 0
        still = ap (λ (position : Position). position.mode) (tick-idle _ live.run.position _ (λ running. omega (arith, stopped, running))) ∙ stopped

    -- of the commands that mode 0 takes only start leaves it
    idle-command : (command : Command) → TakesIn setup live.run command → is_start command ≡ false → (command_run setup command live.run).position.mode ≡ 0
    unfolding command_position is_start takes_of either
    idle-command command takes holds = go command holds (ap (takes_of command) (sym stopped) ∙ takes.takes)
      where
        go : (command : Command) → is_start command ≡ false → takes_of command 0 ≡ true → (command_run setup command live.run).position.mode ≡ 0
        go (Command.Select q) holds takes = refl
        go Command.Start holds takes = absurd (false≢true (sym holds))
        go Command.Pause holds takes = absurd (false≢true takes)
        go Command.Reset holds takes = absurd (false≢true takes)
        go Command.Feed holds takes = absurd (false≢true takes)
        go Command.Back holds takes = absurd (false≢true takes)
        go Command.Plus holds takes = absurd (false≢true takes)
        go Command.Minus holds takes = absurd (false≢true takes)

    idle-run : (event : Plain) → starts_with setup live event ≡ false → StaysIdle (plain_effect setup true live.run event)
    unfolding starts_with both is_accepted
    idle-run (tick reading) holds = idle-tick reading
    idle-run (press command) holds =
        by-press setup live.run (λ (effect : Effect). both (is_start command) (is_accepted effect.answer) ≡ false → StaysIdle effect) (λ _ _ _. stopped)
        command (λ _ takes known. idle-command command takes (not_start (is_start command) known)) holds
      where
        not_start : (test : Bool) → both test true ≡ false → test ≡ false
        not_start true known = known
        not_start false known = refl

    idle-return : (reading : Reading) → (return_run setup reading live.run).position.mode ≡ 0
    unfolding return_by return_position active either
    idle-return reading = rw stopped

    idle-counted : (event : Plain) (k : ℕ) → counted_in setup live event k ≡ false
    unfolding counted_in both
    idle-counted (tick reading) k =
        let test = is_accepted (plain_effect setup true live.run (tick reading)).answer in
        ap (λ (mode : ℕ). both test (both (eqb mode 1) (eqb live.run.position.step k))) stopped ∙ both-none test
    idle-counted (press command) k = refl

  -- ---- what a start and what another event make of the credits

  started : (live : Live) (event : Plain) (k : ℕ) → starts_with setup live event ≡ true
      → credit_of (lived live (plain_effect setup true live.run event)).credits k ≡ 0
  unfolding starts_with credited is_accepted
  started live (tick reading) k holds = absurd (false≢true holds)
  started live (press command) k holds =
      by-press setup live.run
      (λ (effect : Effect). is_accepted effect.answer ≡ true → credit_of (credited effect.credit live.credits live.credits) k ≡ 0)
      (λ _ _ known. absurd (false≢true known)) command
      (λ _ _ _. rw (both_left _ _ holds) (cleared-credit k)) (both_right _ _ holds)

  module _ (ok : found_in setup.bank ≡ Accepted) (live : Live) (good-credits : Credits live.credits) (k : ℕ) where
    -- a sound run in mode 1 is at a step from 1 to 99
    step_range : sound_in setup live.run ≡ true → live.run.position.mode ≡ 1
        → (1 ≤ live.run.position.step) × (live.run.position.step ≤ 99)
    step_range holds running =
        let step-in-range =
        step-bound (settings_in setup) (here_in setup live.run.position) live.run.position (λ stopped. omega (arith, running, stopped))
        (sound-readable setup live.run holds) in
        (step-in-range.0, le_trans step-in-range.1 (fair setup ok live.run.position).count)

    -- one more for a tick that is counted in step k
    abbrev Gains : Bool → Effect → Type 0
    Gains test effect =
        credit_of (credited effect.credit live.credits live.credits) k ≡ min (credit_of live.credits k + one test) 4294967295

    ran-tick : (reading : Reading) → Gains (counted_in setup live (tick reading) k) (plain_effect setup true live.run (tick reading))
    unfolding counted_in tick_credit credited is_accepted both
    ran-tick reading =
        by-tick setup live.run
        (λ (effect : Effect).
        Gains (both (is_accepted effect.answer) (both (eqb live.run.position.mode 1) (eqb live.run.position.step k))) effect)
        (λ _ _. held live.credits k good-credits) reading (λ holds _. by_mode holds (eqb live.run.position.mode 1) refl)
      where
        by_mode : sound_in setup live.run ≡ true → (test : Bool) → eqb live.run.position.mode 1 ≡ test
            → credit_of (credited (cond test (Credit.Cook live.run.position.step) Credit.Keep) live.credits live.credits) k
            ≡ min (credit_of live.credits k + one (both test (eqb live.run.position.step k))) 4294967295
        by_mode holds true known =
            let step-in-range = step_range holds (eqb-true live.run.position.mode 1 known) in
            gained live.credits good-credits live.run.position.step k step-in-range.0 step-in-range.1
        by_mode holds false known = held live.credits k good-credits

    ran-press : (command : Command) → starts_with setup live (press command) ≡ false → Gains false (plain_effect setup true live.run (press command))
    unfolding starts_with credited is_accepted both
    ran-press command =
        by-press setup live.run (λ (effect : Effect). both (is_start command) (is_accepted effect.answer) ≡ false → Gains false effect)
        (λ _ _ _. held live.credits k good-credits) command (λ _ _. go (is_start command))
      where
        go : (test : Bool) → both test true ≡ false
            → credit_of (credited (cond test Credit.Clear Credit.Keep) live.credits live.credits) k ≡ min (credit_of live.credits k + 0) 4294967295
        go true holds = absurd (false≢true (sym holds))
        go false holds = held live.credits k good-credits

    ran : (event : Plain) → starts_with setup live event ≡ false → Gains (counted_in setup live event k) (plain_effect setup true live.run event)
    unfolding counted_in
    ran (tick reading) holds = ran-tick reading
    ran (press command) holds = ran-press command holds

  -- ---- the instance

  credited-machine : found_in setup.bank ≡ Accepted → Credited (machine setup) (counted setup)
  unfolding counted fresh
  credited-machine ok =
      record {
        most = 4294967295;
        credit = λ live k. credit_of live.credits k;
        Shape = λ live. Credits live.credits;
        shape-fresh = no-credits;
        shape-run = λ live event good-credits. still-credits (plain_effect setup true live.run event).credit live.credits live.credits good-credits good-credits;
        shape-return = λ live reading good-credits. good-credits;
        Idle = λ live. live.run.position.mode ≡ 0;
        fresh-idle = refl;
        fresh-credit = cleared-credit;
        idle-run = λ live event holds stopped. idle-run live stopped event holds;
        idle-return = λ live reading stopped. idle-return live stopped reading;
        idle-counts = λ live event k stopped. idle-counted live stopped event k;
        started = λ live event k good-credits holds. started live event k holds;
        ran = λ live event k good-credits holds. ran ok live good-credits k event holds;
        returned = λ live reading k. refl;
      }

  -- each credit is the number of ticks counted since the last accepted start in what is left, held at 4,294,967,295
  pub credits-are : found_in setup.bank ≡ Accepted → (remaining : RemainingOf (machine setup)) (k : ℕ)
      → credit_of (replay (machine setup) remaining).0.credits k ≡ min (due (machine setup) (counted setup) remaining k) 4294967295
  unfolding credited-machine
  credits-are ok remaining k = credits (machine setup) (counted setup) (credited-machine ok) remaining k
