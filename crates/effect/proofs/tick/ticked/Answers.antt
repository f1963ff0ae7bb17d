-- `effect::tick::ticked` meets its contract. Assumes nothing.
use mathlib.Core.Path.{◌≡◌, sym, ap, ◌∙◌, subst}
use Prim.Native.Nat.{ℕ, ◌<◌}
use Rattle.alarm.specs.Alarm.{all_clear}
use Rattle.plain.specs.declared.Run.{Run}
use Rattle.plain.specs.Run.{measuring, counting, stepping, tick_by}
use Rattle.effect.proofs.tick.ticked.Goals as goal

pub counted-requires : goal.counted-requires
unfolding measuring
counted-requires c =
    let same : c.measured.result.unsaved ≡ c.args.progress.unsaved = ap (λ (run : Run). run.unsaved) (c.measured.ensures all_clear) in
    subst (λ (unsaved : ℕ). unsaved < 255) (sym same) c.requires

pub returns : goal.returns
unfolding tick_by
returns c = λ alarms.
    let a = c.args in
    c.stepped.ensures alarms
    ∙ ap (stepping a.here) (c.counted.ensures alarms ∙ ap counting (c.measured.ensures alarms))
