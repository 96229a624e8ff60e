use Rattle.std.proofs.Common.{rules}
use Rattle.std.proofs.lemmas.Result.{err_from_is_err_and}
use Rattle.pack.proofs.Signed.{all_made, last_refused}
use Rattle.pack.proofs.unit.PackUnit.new.Goals as goal

pub returns-in_err-signed-4 : goal.returns-in_err-signed-4
returns-in_err-signed-4 c =
    let p = err_from_is_err_and c.from_residual-in_err-signed-4.result c.from_residual-in_err-signed-4.ensures.1 in
    rw (p.1, p.2) (search (rules, last_refused))

pub returns : goal.returns
returns c = search (rules, all_made)
