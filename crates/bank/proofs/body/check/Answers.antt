-- `bank::body::check` meets its contract: each part of the check ends the walk or lets it go on.
-- Assumes nothing.
use mathlib.Core.Path.{sym, ap, ◌∙◌}
use native.Mathlib.Omega.{arith}
use Rattle.setting.proofs.Laws.{exit-returns, ends, goes, numbers-tell, settings-count, bits}
use Rattle.setting.specs.Setting.{settings_at, settings_in}
use Rattle.bank.specs.View.{pattern_at, patterns_of}
use Rattle.field.specs.Tab.{tab}
use Rattle.bank.specs.Check.{pairs_found, bodies_found, of_length, found_in}
use Rattle.bank.proofs.Facts.{not-refusal, test-holds}
use Rattle.setting.specs.declared.BankRefusal.TheVariants.{Short}
use Rattle.bank.proofs.body.check.Goals as goal

pub returns-in_err-check_settings_in : goal.returns-in_err-check_settings_in
unfolding found_in
returns-in_err-check_settings_in c =
    let was = c.in_err-check_settings_in.was in
    exit-returns _ was c.from_residual.ensures.1 ∙ sym (ends _ (numbers-tell _ _ c.check_settings_in.ensures) was)

pub check_pairs-requires : goal.check_pairs-requires
unfolding settings_in settings_at
check_pairs-requires c =
    let found = sym (numbers-tell _ _ c.check_settings_in.ensures) ∙ c.in_ok-check_settings_in.was in
    let h = settings-count (settings_at c.args.bank.now) (test-holds _ _ _ (not-refusal Short) found).1 in
    omega (arith, h.1, c.byte-n.ensures)

pub returns-in_err-check_pairs : goal.returns-in_err-check_pairs
unfolding found_in settings_at
returns-in_err-check_pairs c =
    let was = c.in_err-check_pairs.was in
    exit-returns _ was c.from_residual-in_err-check_pairs.ensures.1
    ∙ sym (goes (numbers-tell _ _ c.check_settings_in.ensures) c.in_ok-check_settings_in.was
    ∙ ends _ (c.check_pairs.ensures ∙ ap (pairs_found c.args.bank.now) c.byte-n.ensures) was)

pub check_bodies-requires : goal.check_bodies-requires
check_bodies-requires c = sym c.check_pairs.ensures ∙ c.in_ok-check_pairs.was

pub returns : goal.returns
unfolding found_in patterns_of settings_at
returns c =
    let bank = c.args.bank.now in
    let n = c.byte-n.ensures in
    let low = bits c.signed.type_inv ∙ c.signed.ensures in
    let high = bits c.signed-2.type_inv ∙ c.signed-2.ensures in
    c.check_bodies.ensures
    ∙ (λ i. bodies_found of_length (low i) (high i) 1 (tab (pattern_at bank) 1 1 (n i)))
    ∙ sym (goes (numbers-tell _ _ c.check_settings_in.ensures) c.in_ok-check_settings_in.was
    ∙ goes (c.check_pairs.ensures ∙ ap (pairs_found bank) n) c.in_ok-check_pairs.was)
