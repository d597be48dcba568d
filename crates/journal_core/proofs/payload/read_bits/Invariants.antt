use Rattle.std.proofs.Common.{◌≡◌, ◌<◌, ℕ, length}
use Rattle.journal_core.specs.Records.{bit_at, bit_of}
use Rattle.journal_core.proofs.payload.read_bits.Given as goal

abbrev pub invariant-loop-place : goal.invariant-loop-place
invariant-loop-place l = record {
  count : length l.kept.items ≡ l.place;
  bits : (k : ℕ) → k < l.place → bit_at l.map k ≡ bit_of l.kept.items k;
}
