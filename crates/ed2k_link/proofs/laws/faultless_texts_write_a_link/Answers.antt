use Rattle.ed2k_link.proofs.Faultless.{faultless_writes}
use Rattle.ed2k_link.proofs.laws.faultless_texts_write_a_link.Goals as goal

pub returns : goal.returns
returns c = faultless_writes
