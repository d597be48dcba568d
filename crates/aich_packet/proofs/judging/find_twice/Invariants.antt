use Rattle.std.proofs.Common.{◌≡◌, [], take, drop}
use Rattle.aich_packet.specs.Judging.{first_twice}
use Rattle.aich_packet.specs.Packet.{idents_of}
use Rattle.aich_packet.proofs.judging.find_twice.Given as goal

abbrev pub invariant-loop-place : goal.invariant-loop-place
invariant-loop-place l =
    first_twice (idents_of (take l.place l.pairs)) (idents_of (drop l.place l.pairs)) ≡ first_twice [] (idents_of l.pairs)
