use Rattle.std.proofs.Common.{◌≡◌, ◌-◌, ◌≤◌, length, take, drop, IfSome}
use Rattle.blob_hasher.proofs.reading.fill.Given as goal

abbrev pub invariant-filling : goal.invariant-filling
invariant-filling g l = record {
  within : l.filled ≤ length l.buffer;
  long : length l.buffer ≡ length l.fn.buffer;
  content : IfSome (g.B.Blob.bytes l.fn.blob) (λ bytes. take l.filled l.buffer ≡ take l.filled (drop l.at bytes));
  bytes : g.B.Blob.bytes l.blob ≡ g.B.Blob.bytes l.fn.blob;
  later : g.B.Blob.blob_faults l.fn.blob ≤ g.B.Blob.blob_faults l.blob;
}

abbrev pub decreases-filling : goal.decreases-filling
decreases-filling g l = length l.fn.buffer - l.filled
