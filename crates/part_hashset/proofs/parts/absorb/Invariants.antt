use Rattle.std.proofs.Common.{◌≡◌, ◌+◌, ◌/◌, ◌<◌, ◌≤◌, ◌++◌, length, vec_len, vec_capacity}
use Rattle.part_sizes.specs.declared.part.TheConstants.{PART}
use Rattle.part_hashset.specs.WholeParts.{open_part, whole_hashes}
use Rattle.part_hashset.proofs.parts.absorb.Given as goal

abbrev pub invariant-loop-room : goal.invariant-loop-room
invariant-loop-room l =
    record {
      filled : l.room + length l.part ≡ PART;
      some : 0 < l.room;
      space : vec_len l.members + (length l.part + length l.rest) / PART ≤ vec_capacity l.members;
      whole : l.members.items ++ whole_hashes (l.part ++ l.rest) ≡ l.initial.members.items ++ whole_hashes (l.initial.part ++ l.piece);
      behind : open_part (l.part ++ l.rest) ≡ open_part (l.initial.part ++ l.piece);
    }

abbrev pub decreases-loop-room : goal.decreases-loop-room
decreases-loop-room l = length l.rest
