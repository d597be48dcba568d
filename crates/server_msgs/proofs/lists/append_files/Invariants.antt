use Rattle.std.proofs.Common.{◌≡◌, ◌++◌, length, take}
use Rattle.std.specs.List.{flat_map}
use Rattle.byteorder.specs.Endian.{little_bytes}
use Rattle.server_msgs.specs.Spelling.{spell_file}
use Rattle.server_msgs.proofs.lists.append_files.Given as goal

abbrev pub invariant-loop-file : goal.invariant-loop-file
invariant-loop-file l = l.out.items ≡ l.fn.out.items ++ (little_bytes 4 (length l.files) ++ flat_map spell_file (take l.file-index l.files))
