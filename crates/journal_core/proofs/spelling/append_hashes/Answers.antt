use Rattle.journal_core.proofs.Spelled.{are-hashes, hashes-more}
use Rattle.journal_core.proofs.spelling.append_hashes.Goals as goal

pub loop-hash-preserved : goal.loop-hash-preserved
loop-hash-preserved c = hashes-more c.args.set.now c.loop-hash.hash-index _ c.args.out.now.items _ _ c.loop-hash-test.true c.loop-hash.invariant c.in_ok-extend_from_slice.ensures.items

pub returns-clause-hashes : goal.returns-clause-hashes
returns-clause-hashes c = are-hashes c.args.set.now c.told-set
