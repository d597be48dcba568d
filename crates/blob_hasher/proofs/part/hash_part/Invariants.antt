use Rattle.std.proofs.Common.{◌≡◌, ◌-◌, ◌%◌, ◌≤◌, length}
use Rattle.part_sizes.specs.declared.block.TheConstants.{BLOCK}
use Rattle.blob_hasher.specs.Parts.{IsPart}
use Rattle.blob_hasher.proofs.part.hash_part.Given as goal

abbrev pub invariant-fours : goal.invariant-fours
invariant-fours g l = record {
  part : IsPart (g.B.Blob.bytes l.fn.blob) l.start l.place l.part;
  begins : l.place % BLOCK ≡ 0;
  within : l.place ≤ l.len;
  long : length l.buffer ≡ length l.fn.buffer;
  bytes : g.B.Blob.bytes l.blob ≡ g.B.Blob.bytes l.fn.blob;
  later : g.B.Blob.blob_faults l.fn.blob ≤ g.B.Blob.blob_faults l.blob;
}

abbrev pub decreases-fours : goal.decreases-fours
decreases-fours g l = l.len - l.place
