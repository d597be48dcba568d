use Rattle.std.proofs.Common.{◌≡◌, ◌-◌, find}
use Rattle.std.specs.List.{range_with_len}
use Rattle.part_sizes.specs.Part.{data_parts}
use Rattle.reserve_core.specs.Events.{events}
use Rattle.reserve_core.specs.Verdicts.{is_unjudged}
use Rattle.reserve_core.proofs.core_state.Core.next_unjudged.Given as goal

abbrev pub invariant-loop-part : goal.invariant-loop-part
invariant-loop-part l =
    find (is_unjudged l.self.aim.size (events l.self.log)) (range_with_len l.from (data_parts l.self.aim.size - l.from))
    ≡ find (is_unjudged l.self.aim.size (events l.self.log)) (range_with_len l.part (data_parts l.self.aim.size - l.part))
