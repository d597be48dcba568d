use Rattle.std.proofs.Common.{◌≡◌, ◌≤◌, ◌++◌, List, ℕ, length}
use Rattle.std.specs.Io.KnownBytes.{append_known}
use Rattle.framed_wire.proofs.send.send_all.Given as goal

-- what was sent so far and the rest are the bytes
abbrev pub invariant-sending : goal.invariant-sending
invariant-sending g l = record {
  beside : g.S.Sink.beside_sent l.sink ≡ g.S.Sink.beside_sent l.fn.sink;
  later : g.S.Sink.write_faults l.fn.sink ≤ g.S.Sink.write_faults l.sink;
  sent : (part : List ℕ) × (l.bytes ≡ part ++ l.rest) × (g.S.Sink.sent l.sink ≡ append_known (g.S.Sink.sent l.fn.sink) part);
}

abbrev pub decreases-sending : goal.decreases-sending
decreases-sending g l = length l.rest
