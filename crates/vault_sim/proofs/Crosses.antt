-- A vault in memory may go to another thread. The search that a call with a bound `Send` makes gives up at its type, which is
-- large. A crate that sends one answers that call by `search (vault_send, param_send, arg_send)`, with `sendable` behind
-- these where the vault is in a type of its own.
use denote.Param.Send.{IsSend, owning_send, sendable}
use Rattle.std.proofs.Crossing.{crosses}
use Rattle.noted_bytes.specs.contracts.Noted as Noted
use Rattle.vault_sim.specs.contracts.mem_vault.MemVault as MemVault

-- it owns nothing
noted_send : IsSend Noted.the_row
noted_send = owning_send Noted.the_type tt (λ d. tt) (λ k x w. tt)

pub vault_send : IsSend MemVault.the_row
vault_send = let noted = noted_send in search (crosses, sendable) depth 30
