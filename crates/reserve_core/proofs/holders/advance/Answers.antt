use Rattle.std.proofs.Common.{List, map, ap, sym, ◌∙◌, refl}
use Rattle.std.specs.List.{filter}
use Rattle.reserve_core.specs.Held.{is_open}
use Rattle.reserve_core.specs.Steps.{past}
use Rattle.reserve_core.specs.declared.hold.Hold.{Hold}
use Rattle.reserve_core.proofs.HolderEdits.{kept-at, replaces-set, replaces-unfound}
use Rattle.reserve_core.proofs.holders.advance.Goals as goal

pub returns-in-Ok : goal.returns-in-Ok
returns-in-Ok c =
    let at = c.in-Ok.ensures.found in
    let f = λ (ks : List Hold). filter is_open (map (past c.args.span) ks) in
    replaces-set c.args.holders.now c.args.peer c.in-Ok.place c.index-holders-place.result _ _ c.requires at (at.own c.index-holders-place.result)
    (c.advance.ensures ∙ ap f (sym (kept-at c.args.holders.now c.args.peer c.in-Ok.place c.index-holders-place.result c.requires at)))

pub returns-in_default : goal.returns-in_default
returns-in_default c = replaces-unfound c.args.holders.now c.args.peer c.find.result (λ (ks : List Hold). filter is_open (map (past c.args.span) ks)) c.requires c.find.ensures.absent c.in_default.not-Ok refl
