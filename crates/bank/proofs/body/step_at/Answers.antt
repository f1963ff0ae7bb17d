-- `bank::body::step_at` meets its contract: a step that passes the end is read from a copy with zeros behind it.
-- Assumes nothing.
use Rattle.std.proofs.Common.{◌∙◌, rules}
use Rattle.bank.proofs.Facts.{step-fields, step-padded}
use Rattle.bank.proofs.body.step_at.Goals as goal

pub returns : goal.returns
returns c =
    let step = c.step_in-2.result in
    let read = step-fields _ step _ c.step_in-2.ensures (search rules) (search rules) (λ same. search rules) (search rules) in
    read ∙ step-padded c.args.bytes.now _ c.args.at _ _ c.copy_from_slice.ensures.after c.min.ensures
