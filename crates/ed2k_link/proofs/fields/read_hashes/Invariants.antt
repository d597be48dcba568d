use Rattle.std.proofs.Common.{◌≡◌, map, take, Some}
use Rattle.ed2k_link.specs.Fields.{hash_of}
use Rattle.ed2k_link.specs.Items.{texts}
use Rattle.ed2k_link.proofs.fields.read_hashes.Given as goal

abbrev pub invariant-loop-piece : goal.invariant-loop-piece
invariant-loop-piece l = map hash_of (texts (take l.piece-index l.piece-items)) ≡ map Some l.hashes.items
