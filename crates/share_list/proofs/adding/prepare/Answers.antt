use Rattle.std.proofs.lemmas.Result.{err_from_is_err_and}
use Rattle.share_list.proofs.Refusals.{refused_later}
use Rattle.share_list.proofs.adding.prepare.Goals as goal

pub returns-in_err-hashed-clause-refused : goal.returns-in_err-hashed-clause-refused
returns-in_err-hashed-clause-refused g c =
    let e = err_from_is_err_and c.from_residual-in_err-hashed.result c.from_residual-in_err-hashed.ensures.1 in
    rw (e.1, e.2) (refused_later _ _ _ _ _ _ c.file_size.ensures.stays c.in_err-hashed.ensures.refused)
