use Rattle.std.proofs.Common.{◌≡◌, ◌++◌, map, take, Some}
use Rattle.std.specs.List.{join_with_byte}
use Rattle.hex.specs.Hex.{encode_upper}
use Rattle.ed2k_link.specs.Fields.{hash_of}
use Rattle.ed2k_link.proofs.print.push_hashes.Given as goal

abbrev pub invariant-loop-place : goal.invariant-loop-place
invariant-loop-place l = record {
  written : l.out.items ≡ l.initial.out.items ++ join_with_byte 58 (map encode_upper (take l.place l.hashes));
  read : map hash_of (map encode_upper (take l.place l.hashes)) ≡ map Some (take l.place l.hashes);
}
