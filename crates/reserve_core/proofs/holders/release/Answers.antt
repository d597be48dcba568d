use Rattle.std.proofs.Common.{List, [], refl, rules}
use Rattle.reserve_core.specs.declared.hold.Hold.{Hold}
use Rattle.reserve_core.proofs.HolderEdits.{replaces-set, replaces-unfound}
use Rattle.reserve_core.proofs.holders.release.Goals as goal

pub returns-in-Ok : goal.returns-in-Ok
returns-in-Ok c =
    let at = c.in-Ok.ensures.found in
    replaces-set c.args.holders.now c.args.peer c.in-Ok.place c.index-holders-place.result _ _ c.requires at (at.own c.index-holders-place.result) (search rules)

pub returns-in_default : goal.returns-in_default
returns-in_default c = replaces-unfound c.args.holders.now c.args.peer c.find.result (λ (ks : List Hold). []) c.requires c.find.ensures.absent c.in_default.not-Ok refl
