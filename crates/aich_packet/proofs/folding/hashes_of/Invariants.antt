use Rattle.std.proofs.Common.{◌≡◌, map, take}
use Rattle.aich_packet.specs.Packet.{hash_of}
use Rattle.aich_packet.proofs.folding.hashes_of.Given as goal

abbrev pub invariant-loop-ident : goal.invariant-loop-ident
invariant-loop-ident l = l.hashes.items ≡ map (hash_of l.pairs) (take l.ident-index l.idents)
