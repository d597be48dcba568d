use Rattle.std.proofs.Common.{◌≡◌, ◌-◌}
use Rattle.ed2k_tags.specs.Reading.{tags_from}
use Rattle.ed2k_tags.proofs.Loop.{with_front}
use Rattle.ed2k_tags.proofs.read.read_each.Given as goal

abbrev pub invariant-loop : goal.invariant-loop
invariant-loop l = with_front l.tags.items (tags_from l.end (l.count - l.counter) l.rest) ≡ tags_from l.end l.count l.bytes
