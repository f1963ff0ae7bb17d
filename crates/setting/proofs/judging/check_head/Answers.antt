-- `setting::judging::check_head` meets its contract: each row that is right goes on to the rest of the rows.
-- Assumes nothing.
use Rattle.std.proofs.Common.{◌≡◌, arith, rules, refl, sym, ◌∙◌, ap}
use Rattle.std.proofs.lemmas.Grind.{common_steps}
use Rattle.std.proofs.lemmas.Bool.Decides.{nat_tests}
use mathlib.Core.List.{[], ◌∷◌}
use Rattle.setting.specs.Found.{Accepted}
use lib.Signed.{lt_z}
use lib.Dec.{leb}
use Rattle.limits.specs.Range.{both, between, within, temperature}
use Rattle.setting.proofs.Laws.{rows-on, rows-off, rows-end, bits, both-and, to}
use Rattle.setting.specs.Setting.{first_of, head_found}
use Rattle.setting.proofs.judging.check_head.Goals as goal

pub loop-offset-init : goal.loop-offset-init
unfolding head_found between
loop-offset-init c =
    let s = c.args.settings in
    let count : c.contains.result ≡ both (leb 1 s.patterns) (leb s.patterns 15) = grind (arith, nat_tests, common_steps, both-and) in
    let low = bits {z = s.low} (omega arith) in
    let initial = bits {z = s.initial} (omega arith) in
    let high = bits {z = s.high} (omega arith) in
    let is_low = c.is_temperature.ensures ∙ ap temperature low in
    let is_high = c.is_above.ensures ∙ (λ i. both (temperature (high i)) (lt_z (low i) (high i))) in
    let is_initial = c.in_limits.ensures ∙ (λ i. within (low i) (initial i) (high i)) in
    λ i. first_of Accepted (
    (0, sym count i)
    ∷ (1, to s.start 1 refl i)
    ∷ (2, to s.outage 2 refl i)
    ∷ (3, sym is_low i)
    ∷ (5, sym is_high i)
    ∷ (7, sym is_initial i)
    ∷ (9, to s.width 29999 refl i)
    ∷ (11, to s.filter 999 refl i)
    ∷ []
    )

pub returns-then-not-right : goal.returns-then-not-right
returns-then-not-right c = let l = c.loop-offset in sym (l.invariant ∙ rows-off _ l.offset-index (omega arith) (search rules))

pub loop-offset-preserved : goal.loop-offset-preserved
loop-offset-preserved c = let l = c.loop-offset in l.invariant ∙ rows-on _ l.offset-index (omega arith) (search rules)

pub returns : goal.returns
returns c = let l = c.loop-offset in sym (l.invariant ∙ rows-end _ l.offset-index (omega arith))
