use Rattle.std.proofs.Common.{sym, ◌∙◌}
use Rattle.reserve_core.proofs.HolderEdits.{kept-at, kept-gap}
use Rattle.reserve_core.proofs.holders.ranges_of.Goals as goal

pub returns-in-Ok : goal.returns-in-Ok
returns-in-Ok c = c.as_slice.ensures.value ∙ sym (kept-at c.args.holders.now c.args.peer c.in-Ok.place c.index-holders-place.result c.requires c.in-Ok.ensures.found)

pub returns-in-Err : goal.returns-in-Err
returns-in-Err c = sym (kept-gap c.args.holders.now c.args.peer c.in-Err.field-0 c.in-Err.ensures.absent)
