use Rattle.std.proofs.Common.{◌≡◌, ◌++◌, map, flat_map, take}
use Rattle.byteorder.specs.Endian.{little_bytes}
use Rattle.aich_packet.specs.Layout.{spell_pair}
use Rattle.aich_packet.proofs.Made.{pair_with}
use Rattle.aich_packet.proofs.Trees.{known}
use Rattle.aich_packet.proofs.making.make_packet.Given as goal

abbrev pub invariant-loop-ident : goal.invariant-loop-ident
invariant-loop-ident l =
    l.out.items ≡ little_bytes 2 l.count ++ flat_map spell_pair (map (pair_with (known l.tree)) (take l.ident-index l.ident-items))
