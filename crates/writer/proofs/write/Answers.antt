-- `writer::write` meets its contract: 12 and 14 in turn, else what is right is written.
-- Assumes nothing.
use mathlib.Core.Path.{sym}
use Rattle.std.proofs.lemmas.Result.{err_from_is_err_and}
use Rattle.writer.proofs.Judged.{settings-refused, settings-right, patterns-refused, all-right}
use Rattle.writer.proofs.write.Goals as goal

pub returns-in_err-check_settings-clause-out_after : goal.returns-in_err-check_settings-clause-out_after
returns-in_err-check_settings-clause-out_after c =
    let p = err_from_is_err_and c.from_residual.result c.from_residual.ensures.1 in
    rw (p.1, p.2) (sym (settings-refused c.args.settings c.args.ps c.check_settings.ensures c.args.out.now c.in_err-check_settings.was))

pub check_patterns-requires : goal.check_patterns-requires
check_patterns-requires c = settings-right c.args.settings c.args.ps c.check_settings.ensures c.in_ok-check_settings.was

pub returns-in_err-check_patterns-clause-out_after : goal.returns-in_err-check_patterns-clause-out_after
returns-in_err-check_patterns-clause-out_after c =
    let e = c.from_residual-in_err-check_patterns in
    let p = err_from_is_err_and e.result e.ensures.1 in
    let a = c.args in
    rw (p.1, p.2)
    (sym (patterns-refused a.settings a.ps c.check_settings.ensures c.in_ok-check_settings.was c.check_patterns.ensures a.out.now c.in_err-check_patterns.was))

pub write_right-requires : goal.write_right-requires
write_right-requires c =
    all-right c.args.settings c.args.ps c.check_settings.ensures c.in_ok-check_settings.was c.check_patterns.ensures c.in_ok-check_patterns.was
