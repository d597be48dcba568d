use Rattle.std.proofs.Common.{◌≡◌, ◌-◌}
use Rattle.server_msgs.specs.Lists.{each_from, endpoint_at}
use Rattle.server_msgs.proofs.Each.{with_front}
use Rattle.server_msgs.proofs.lists.read_each_endpoint.Given as goal

abbrev pub invariant-loop : goal.invariant-loop
invariant-loop l = with_front l.list.items (each_from endpoint_at (l.count - l.counter) l.rest) ≡ each_from endpoint_at l.count l.bytes
