use Rattle.std.proofs.Common.{◌≡◌, ◌++◌, take}
use Rattle.journal_core.specs.Records.{spell_hashes}
use Rattle.journal_core.proofs.spelling.append_hashes.Given as goal

abbrev pub invariant-loop-hash : goal.invariant-loop-hash
invariant-loop-hash l = l.out.items ≡ l.fn.out.items ++ spell_hashes (take l.hash-index l.set)
