use Rattle.ed2k_link.proofs.Reading.{hash_back}
use Rattle.ed2k_link.proofs.print.push_hash.Goals as goal

pub returns-clause-read_back : goal.returns-clause-read_back
returns-clause-read_back c = hash_back c.args.hash.now c.fits-hash c.told-hash
