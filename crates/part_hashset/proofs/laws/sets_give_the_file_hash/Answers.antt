use Rattle.part_hashset.proofs.SetLemmas.{members_give_hash}
use Rattle.part_hashset.proofs.laws.sets_give_the_file_hash.Goals as goal

pub returns-clause-members : goal.returns-clause-members
returns-clause-members c = members_give_hash
