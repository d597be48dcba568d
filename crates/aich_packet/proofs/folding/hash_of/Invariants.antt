use Rattle.std.proofs.Common.{◌≡◌, drop}
use Rattle.aich_packet.specs.Packet.{hash_of}
use Rattle.aich_packet.proofs.folding.hash_of.Given as goal

abbrev pub invariant-loop-pair : goal.invariant-loop-pair
invariant-loop-pair l = hash_of (drop l.pair-index l.pairs) l.ident ≡ hash_of l.pairs l.ident
