use Rattle.aich_packet.proofs.way.+append_leaves.Given as goal

abbrev pub decreases-append_leaves : goal.decreases-append_leaves
decreases-append_leaves l = l.levels
