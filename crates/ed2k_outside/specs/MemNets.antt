-- What a net in memory holds.
use Rattle.std.specs.Prelude.{ℕ}
use Rattle.std.specs.Vec.Iter.{into_iter_items}
use Rattle.ed2k_outside.specs.Nets.{Told}
use Rattle.ed2k_outside.specs.declared.script.Script.{Script}
use Rattle.ed2k_outside.specs.declared.mem_net.MemNet.{MemNet}

abbrev pub net_told : {W : Type 0} → MemNet W → Told W
net_told net = record {
  left = into_iter_items net.left;
  closed = net.closed.items;
  handed = net.handed;
  reached = net.reached.items;
  listened = net.listened;
}

abbrev pub net_script : {W : Type 0} → MemNet W → Script
net_script net = net.script

abbrev pub net_count : {W : Type 0} → MemNet W → ℕ
net_count net = net.faults
