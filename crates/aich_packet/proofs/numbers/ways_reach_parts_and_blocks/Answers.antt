use Rattle.aich_packet.proofs.Blocks.{ways-reach, leaves-are_blocks}
use Rattle.aich_packet.proofs.Reached.{length-path}
use Rattle.aich_packet.proofs.numbers.ways_reach_parts_and_blocks.Goals as goal

pub returns-clause-parts : goal.returns-clause-parts
returns-clause-parts c = ways-reach

pub returns-clause-leaves : goal.returns-clause-leaves
returns-clause-leaves c = leaves-are_blocks

pub returns-clause-short : goal.returns-clause-short
returns-clause-short c = length-path
