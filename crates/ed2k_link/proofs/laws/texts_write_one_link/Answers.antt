use Rattle.ed2k_link.proofs.Same.{link_one}
use Rattle.ed2k_link.proofs.laws.texts_write_one_link.Goals as goal

pub returns : goal.returns
returns c = link_one
