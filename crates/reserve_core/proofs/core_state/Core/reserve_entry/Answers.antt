use Rattle.reserve_core.proofs.Added.{keeps-more}
use Rattle.reserve_core.proofs.core_state.Core.reserve_entry.Goals as goal

pub invariant_of-self-then-is_err-2 : goal.invariant_of-self-then-is_err-2
invariant_of-self-then-is_err-2 c =
    let both = c.reserve_both.ensures in
    rw (c.reserve.ensures.items, c.reserve.ensures.len)
    (keeps-more _ _ _ _ _ _ _ _ _ _ _ _ _ _ _ both.filled_size both.filled_set both.fresh_size both.fresh_set both.spare c.reserve.ensures.capacity c.self.invariant)

pub invariant_of-self-then-is_err-3 : goal.invariant_of-self-then-is_err-3
invariant_of-self-then-is_err-3 c =
    let both = c.reserve_both.ensures in
    rw (c.reserve.ensures.items, c.reserve.ensures.len, c.reserve-else-is_err-2.ensures.items)
    (keeps-more _ _ _ _ _ _ _ _ _ _ _ _ _ _ _ both.filled_size both.filled_set both.fresh_size both.fresh_set both.spare c.reserve.ensures.capacity c.self.invariant)

pub invariant_of-self-else-is_err-3 : goal.invariant_of-self-else-is_err-3
invariant_of-self-else-is_err-3 c =
    let both = c.reserve_both.ensures in
    rw (c.reserve.ensures.items, c.reserve.ensures.len, c.reserve-else-is_err-2.ensures.items)
    (keeps-more _ _ _ _ _ _ _ _ _ _ _ _ _ _ _ both.filled_size both.filled_set both.fresh_size both.fresh_set both.spare c.reserve.ensures.capacity c.self.invariant)
