use Rattle.std.proofs.Common.{◌≡◌, drop}
use Rattle.aich_packet.specs.Judging.{first_wrong}
use Rattle.aich_packet.specs.Packet.{idents_of}
use Rattle.aich_packet.proofs.judging.find_wrong.Given as goal

abbrev pub invariant-loop-pair : goal.invariant-loop-pair
invariant-loop-pair l =
    first_wrong l.path (idents_of (drop l.pair-index l.pairs)) ≡ first_wrong l.path (idents_of l.pairs)
