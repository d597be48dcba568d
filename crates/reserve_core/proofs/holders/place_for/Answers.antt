use Rattle.std.proofs.Common.{List, subst, refl}
use Rattle.reserve_core.specs.Holders.{IsGap}
use Rattle.reserve_core.specs.declared.hold.Holder.{Holder}
use Rattle.reserve_core.proofs.HolderEdits.{replaces-insert}
use Rattle.reserve_core.proofs.holders.place_for.Goals as goal

pub returns-in_ok-insert-in-Err-clause-same : goal.returns-in_ok-insert-in-Err-clause-same
returns-in_ok-insert-in-Err-clause-same c =
    let gap = subst (λ (xs : List Holder). IsGap xs c.args.peer c.in-Err.place) c.deref.ensures.value c.in-Err.ensures.absent in
    rw c.in_ok-insert-in-Err.ensures.items
    (replaces-insert c.args.holders.now.items c.args.peer c.in-Err.place _ c.requires gap refl c.new-ranges.ensures.items)
