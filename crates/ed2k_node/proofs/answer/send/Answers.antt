use Rattle.ed2k_node.proofs.SentLemmas.{has_sent}
use Rattle.ed2k_node.proofs.answer.send.Goals as goal

pub returns-clause-sent : goal.returns-clause-sent
returns-clause-sent g c = has_sent _ _ _ _ c.send_all.ensures.sent
