use Rattle.std.proofs.Common.{◌≡◌, ℕ, List, [], drop}
use Rattle.server_index.specs.Files.{IsKept, IsSwept, file_at}
use Rattle.server_index.specs.Offers.{cleared}
use Rattle.server_index.proofs.offers.remove_all.Given as goal

abbrev pub invariant-loop-hash : goal.invariant-loop-hash
invariant-loop-hash l = IsKept l.files
    × ((q : List ℕ × ℕ) → cleared l.number (drop l.hash-index l.hashes) (file_at l.files.live.entries) q ≡ cleared l.number l.hashes (file_at l.fn.files.live.entries) q)
    × IsSwept l.files.live.entries l.files.postings.set []
