use Rattle.std.proofs.Common.{◌≡◌, ◌++◌, length, take}
use Rattle.std.specs.List.{flat_map}
use Rattle.byteorder.specs.Endian.{little_bytes}
use Rattle.server_msgs.specs.Spelling.{spell_endpoint}
use Rattle.server_msgs.proofs.lists.append_endpoints.Given as goal

abbrev pub invariant-loop-endpoint : goal.invariant-loop-endpoint
invariant-loop-endpoint l = l.out.items ≡ l.fn.out.items ++ (little_bytes 1 (length l.list) ++ flat_map spell_endpoint (take l.endpoint-index l.list))
