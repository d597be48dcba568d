use Rattle.shared_file.proofs.Closed.{origin_told}
use Rattle.shared_file.proofs.Turns.{marked_broken}
use Rattle.turn_lock.specs.Views.{birth_of, seen_of}
use Rattle.shared_file.proofs.shared_file.SharedFile.close.Goals as goal

pub returns-clause-origin : goal.returns-clause-origin
returns-clause-origin g c = origin_told g.V.Vault c.close-file.result.file (birth_of c.args.peer.pass.seat) c.close-file.ensures.birth

pub returns-clause-broken : goal.returns-clause-broken
returns-clause-broken g c some = marked_broken c.close-file.result.file.log c.close-file.result.file.broken (seen_of c.args.peer.pass.seat) c.close-file.ensures.log some
