use Rattle.ed2k_link.proofs.Letters.{spells_one}
use Rattle.ed2k_link.proofs.laws.spelling_is_one.Goals as goal

pub returns : goal.returns
returns c = spells_one
