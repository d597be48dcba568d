-- What a wire and a sink in memory hold.
use Rattle.std.specs.Prelude.{ℕ, List, drop, Some}
use Rattle.std.specs.Vec.Iter.{into_iter_items}
use Rattle.ed2k_outside.specs.Halves.{Beside}
use Rattle.ed2k_outside.specs.declared.script.Script.{Script}
use Rattle.ed2k_outside.specs.declared.mem_wire.MemWire.{MemWire}
use Rattle.ed2k_outside.specs.declared.mem_out.MemOut.{MemOut}

abbrev pub wire_left : MemWire → List ℕ
wire_left wire = drop wire.taken wire.input.items

abbrev pub wire_sent : MemWire → List ℕ
wire_sent wire = wire.sent.items

abbrev pub wire_ports : MemWire → List ℕ
wire_ports wire = wire.ports.items

-- how much the reads to come take at most, one after the other
abbrev pub wire_cuts : MemWire → List ℕ
wire_cuts wire = into_iter_items wire.cuts

abbrev pub wire_script : MemWire → Script
wire_script wire = wire.script

abbrev pub wire_read_count : MemWire → ℕ
wire_read_count wire = wire.read_faults

abbrev pub wire_write_count : MemWire → ℕ
wire_write_count wire = wire.write_faults

abbrev pub wire_reach_count : MemWire → ℕ
wire_reach_count wire = wire.reach_faults

-- what lies beside the bytes left
abbrev pub wire_beside_left : MemWire → Beside
wire_beside_left wire = record {
  bytes = Some (wire_sent wire);
  ports = Some (wire_ports wire);
  half_faults = wire_write_count wire;
  port_faults = wire_reach_count wire;
}

-- what lies beside the bytes sent
abbrev pub wire_beside_sent : MemWire → Beside
wire_beside_sent wire = record {
  bytes = Some (wire_left wire);
  ports = Some (wire_ports wire);
  half_faults = wire_read_count wire;
  port_faults = wire_reach_count wire;
}

abbrev pub out_sent : MemOut → List ℕ
out_sent out = out.sent.items

abbrev pub out_script : MemOut → Script
out_script out = out.script

abbrev pub out_count : MemOut → ℕ
out_count out = out.faults
