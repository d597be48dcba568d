use Rattle.std.proofs.Common.{◌≡◌, ◌-◌, ◌*◌, ◌≤◌, ◌++◌, length, drop}
use Rattle.aich_packet.specs.Layout.{pairs_from}
use Rattle.aich_packet.proofs.layout.read_pairs.Given as goal

abbrev pub invariant-loop : goal.invariant-loop
invariant-loop l =
    record {
      there : (l.count - l.counter) * 22 ≤ length l.rest;
      read : l.pairs.items ++ pairs_from (l.count - l.counter) l.rest ≡ pairs_from l.count (drop 2 l.bytes);
    }
