-- `carried::no_state` meets its contract. Assumes nothing.
use Rattle.std.proofs.lemmas.Result.{err_from_is_err_and}
use Rattle.carried.proofs.Left.{bank-ends, bank-goes}
use Rattle.carried.proofs.no_state.Goals as goal

pub returns-in_err-map_err : goal.returns-in_err-map_err
returns-in_err-map_err c =
    let p = err_from_is_err_and c.from_residual.result c.from_residual.ensures.1 in
    rw (p.1, p.2) (bank-ends _ _ _ c.check.ensures c.map_err.ensures.cases _ c.in_err-map_err.was)

pub returns : goal.returns
returns c = bank-goes _ _ _ c.check.ensures c.map_err.ensures.cases _ c.in_ok-map_err.was
