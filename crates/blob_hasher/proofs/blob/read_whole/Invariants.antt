use Rattle.std.proofs.Common.{◌≡◌, ◌-◌, ◌%◌, ◌<◌, ◌≤◌, length}
use Rattle.part_sizes.specs.declared.part.TheConstants.{PART}
use Rattle.blob_hasher.specs.Parts.{IsFile}
use Rattle.blob_hasher.proofs.blob.read_whole.Given as goal

abbrev pub invariant-fours : goal.invariant-fours
invariant-fours g l = record {
  file : IsFile (g.B.Blob.bytes l.fn.blob) l.size l.at l.file;
  begins : l.at % PART ≡ 0;
  within : l.at ≤ l.size;
  long : length l.buffer ≡ length l.fn.buffer;
  bytes : g.B.Blob.bytes l.blob ≡ g.B.Blob.bytes l.fn.blob;
  later : g.B.Blob.blob_faults l.fn.blob ≤ g.B.Blob.blob_faults l.blob;
}

abbrev pub decreases-fours : goal.decreases-fours
decreases-fours g l = l.size - l.at

abbrev pub invariant-parts : goal.invariant-parts
invariant-parts g l = record {
  file : IsFile (g.B.Blob.bytes l.fn.blob) l.size l.at l.file;
  begins : l.at < l.size → l.at % PART ≡ 0;
  within : l.at ≤ l.size;
  long : length l.buffer ≡ length l.fn.buffer;
  bytes : g.B.Blob.bytes l.blob ≡ g.B.Blob.bytes l.fn.blob;
  later : g.B.Blob.blob_faults l.fn.blob ≤ g.B.Blob.blob_faults l.blob;
}

abbrev pub decreases-parts : goal.decreases-parts
decreases-parts g l = l.size - l.at
