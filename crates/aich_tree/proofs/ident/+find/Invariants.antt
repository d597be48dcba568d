use Rattle.aich_tree.proofs.ident.+find.Given as goal

abbrev pub decreases-find : goal.decreases-find
decreases-find l = l.ident
