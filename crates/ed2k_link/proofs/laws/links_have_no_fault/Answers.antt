use Rattle.ed2k_link.proofs.Same.{no_fault}
use Rattle.ed2k_link.proofs.laws.links_have_no_fault.Goals as goal

pub returns : goal.returns
returns c = no_fault
