use Rattle.std.proofs.Common.{◌≡◌, ◌-◌}
use Rattle.server_msgs.specs.Lists.{each_from, file_at}
use Rattle.server_msgs.proofs.Each.{with_front}
use Rattle.server_msgs.proofs.lists.read_each_file.Given as goal

abbrev pub invariant-loop : goal.invariant-loop
invariant-loop l = with_front l.files.items (each_from (file_at l.end) (l.count - l.counter) l.rest) ≡ each_from (file_at l.end) l.count l.bytes
