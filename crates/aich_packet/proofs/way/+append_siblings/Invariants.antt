use Rattle.aich_packet.proofs.way.+append_siblings.Given as goal

abbrev pub decreases-append_siblings : goal.decreases-append_siblings
decreases-append_siblings l = l.levels
