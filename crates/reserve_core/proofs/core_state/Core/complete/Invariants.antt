use Rattle.std.proofs.Common.{◌≡◌, ◌-◌}
use Rattle.std.specs.List.{list_all, range_with_len}
use Rattle.part_sizes.specs.Part.{data_parts}
use Rattle.reserve_core.specs.Events.{events}
use Rattle.reserve_core.specs.Verdicts.{is_verified, parts}
use Rattle.reserve_core.proofs.core_state.Core.complete.Given as goal

abbrev pub invariant-loop-part : goal.invariant-loop-part
invariant-loop-part l =
    list_all (is_verified l.self.aim (events l.self.log)) (parts l.self.aim.size)
    ≡ list_all (is_verified l.self.aim (events l.self.log)) (range_with_len l.part (data_parts l.self.aim.size - l.part))
