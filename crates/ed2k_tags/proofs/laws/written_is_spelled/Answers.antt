use Rattle.ed2k_tags.specs.Written.{written_list}
use Rattle.ed2k_tags.proofs.laws.written_is_spelled.Goals as goal

pub returns : goal.returns
returns c = written_list
