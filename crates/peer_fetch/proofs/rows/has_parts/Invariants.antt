use Rattle.std.proofs.Common.{◌≡◌, ◌==◌, ◌||◌, map, get_or, false}
use Rattle.std.specs.List.{range_with_len}
use Rattle.peer_fetch.proofs.rows.has_parts.Given as goal

abbrev pub invariant-loop-part : goal.invariant-loop-part
invariant-loop-part l = l.named.items ≡ map (λ part. l.count == 0 || get_or l.bits part false) (range_with_len 0 l.part)
