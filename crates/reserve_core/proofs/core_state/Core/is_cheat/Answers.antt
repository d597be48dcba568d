use Rattle.std.proofs.Common.{ap, sym, ◌∙◌}
use Rattle.reserve_core.specs.Events.{events}
use Rattle.reserve_core.specs.Seen.{Seen}
use Rattle.reserve_core.specs.Verdicts.{cheats}
use Rattle.reserve_core.proofs.Counted.{nobody-cheats}
use Rattle.reserve_core.proofs.core_state.Core.is_cheat.Goals as goal

pub returns : goal.returns
returns c =
    sym (nobody-cheats c.self.inside.aim.size (events c.self.inside.log.items) c.args._peer c.self.invariant.tells.unrecovered)
    ∙ ap (λ (v : Seen). cheats v.aim.size (events v.log) c.args._peer) c.self.view_is
