-- The members of a wire, its halves' too, as `W.Wire` in a clause.
use Rattle.std.specs.Prelude.{ℕ, List, Option}
use Rattle.ed2k_outside.specs.Halves.{Beside}
use Rattle.ed2k_outside.specs.declared.halves.Sink as sink
use Rattle.ed2k_outside.specs.declared.halves.Source as source
use Rattle.ed2k_outside.specs.declared.halves.Wire as wire

abbrev pub WireMembers : Type 0 → Type 0
WireMembers W = record {
  sent : W → Option (List ℕ);
  write_faults : W → ℕ;
  beside_sent : W → Beside;
  left : W → Option (List ℕ);
  read_faults : W → ℕ;
  beside_left : W → Beside;
  ports : W → Option (List ℕ);
  reach_faults : W → ℕ;
}

-- the same, where a proof has one dictionary for each trait
abbrev pub members : {W : Type 0} → source.Ghosts W → sink.Ghosts W → wire.Ghosts W → WireMembers W
members source sink wire = record {
  sent = sink.sent;
  write_faults = sink.write_faults;
  beside_sent = sink.beside_sent;
  left = source.left;
  read_faults = source.read_faults;
  beside_left = source.beside_left;
  ports = wire.ports;
  reach_faults = wire.reach_faults;
}
