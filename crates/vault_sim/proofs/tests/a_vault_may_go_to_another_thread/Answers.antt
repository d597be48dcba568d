use denote.Param.Send.{arg_send, param_send}
use Rattle.vault_sim.proofs.Crosses.{vault_send}
use Rattle.vault_sim.proofs.tests.a_vault_may_go_to_another_thread.Goals as goal

pub moved-vault-requires-send-T : goal.moved-vault-requires-send-T
moved-vault-requires-send-T c κs = search (vault_send, param_send, arg_send)
