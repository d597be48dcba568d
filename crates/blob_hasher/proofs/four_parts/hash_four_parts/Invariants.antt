use Rattle.std.proofs.Common.{◌≡◌, ◌-◌, ◌%◌, ◌<◌, ◌≤◌, length}
use Rattle.part_sizes.specs.declared.part.TheConstants.{PART}
use Rattle.part_sizes.specs.declared.block.TheConstants.{BLOCK}
use Rattle.blob_hasher.specs.Parts.{IsFour}
use Rattle.blob_hasher.proofs.four_parts.hash_four_parts.Given as goal

abbrev pub invariant-blocks-2 : goal.invariant-blocks-2
invariant-blocks-2 g l = record {
  parts : IsFour (g.B.Blob.bytes l.fn.blob) l.start l.place l.parts;
  begins : l.place < PART → l.place % BLOCK ≡ 0;
  within : l.place ≤ PART;
  long : length l.buffer ≡ length l.fn.buffer;
  bytes : g.B.Blob.bytes l.blob ≡ g.B.Blob.bytes l.fn.blob;
  later : g.B.Blob.blob_faults l.fn.blob ≤ g.B.Blob.blob_faults l.blob;
}

abbrev pub decreases-blocks-2 : goal.decreases-blocks-2
decreases-blocks-2 g l = PART - l.place
