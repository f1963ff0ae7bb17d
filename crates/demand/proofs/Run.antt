-- What running a list leaves, by cases, and that demand 3 holds of it.
-- Assumes nothing.
use mathlib.Core.Path.{◌≡◌, sym, subst, ◌∙◌}
use mathlib.Core.Bool.{true, false}
use mathlib.Core.List.{List}
use Prim.Native.Nat.{ℕ}
use Rattle.plain.specs.Setup.{Setup}
use Rattle.plain.specs.Event.{after, dark, final}
use Rattle.plain.specs.Listed.{events_in, formed}
use Rattle.demand.specs.Demand.{Demand3}
use Rattle.demand.specs.Run.{AfterRun, after_run, given, run_outcome, answer_in, Meets}
use Rattle.demand.proofs.Demand.{final-is, demand3}
use Rattle.std.specs.Prelude.{None}

module _ (setup : Setup) (store bytes : List ℕ) where
  pub no-form : formed bytes ≡ false → run_outcome setup store bytes ≡ after_run dark store None
  unfolding run_outcome
  no-form holds = rw holds

  pub ran : formed bytes ≡ true → run_outcome setup store bytes ≡ given (final setup store (events_in bytes))
  unfolding run_outcome
  ran holds = rw holds

  -- demand 3 of what a run leaves
  pub run-demand : (left : AfterRun) → left ≡ run_outcome setup store bytes → Meets setup store bytes left
  unfolding answer_in
  run-demand left same ok whole is-list =
      subst (λ (ran-run : AfterRun). Demand3 setup (events_in bytes) (after ran-run.state ran-run.store (answer_in ran-run.reply))) (sym (same ∙ ran is-list))
      (subst (Demand3 setup (events_in bytes)) (sym (final-is setup store (events_in bytes))) (demand3 setup store ok whole (events_in bytes)))
