use Rattle.std.proofs.Common.{◌≡◌, ◌+◌, ◌*◌, ◌++◌, length}
use Rattle.journal_core.specs.Records.{AreHashes, spell_hashes}
use Rattle.journal_core.proofs.payload.read_hashes.Given as goal

abbrev pub invariant-loop : goal.invariant-loop
invariant-loop l = record {
  count : length l.hashes.items ≡ l.counter;
  long : AreHashes l.hashes.items;
  left : length l.rest + 16 * l.counter ≡ 16 * l.count;
  spelled : l.bytes ≡ spell_hashes l.hashes.items ++ l.rest;
}
