use Rattle.std.proofs.Common.{◌≡◌, ◌+◌, ◌<◌, length, vec_len}
use Rattle.ed2k_bench.proofs.hashes.hash_file.Given as goal

abbrev pub invariant-pieces : goal.invariant-pieces
invariant-pieces l = (0 < vec_len l.piece) × (l.tree.size ≡ l.size) × (length l.tree.fed + l.left ≡ l.size)

abbrev pub decreases-pieces : goal.decreases-pieces
decreases-pieces l = l.left
