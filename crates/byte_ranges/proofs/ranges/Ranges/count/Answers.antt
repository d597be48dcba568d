use Rattle.std.proofs.Common.{ℕ, ◌+◌, ◌<◌, IsTrue, ap, subst, sym, ◌∙◌, arith}
use Rattle.std.specs.FinSet as set
use Rattle.byte_ranges.specs.Spans.{total}
use Rattle.byte_ranges.proofs.Total.{len-set_of, set_of_below, total_below}
use Rattle.byte_ranges.proofs.ranges.Ranges.count.Goals as goal

pub total-requires : goal.total-requires
total-requires c =
    let below = total_below 0 (c.self.inside.size + 1) c.self.inside.spans.items (omega arith) c.self.invariant.0 in
    rw c.deref.ensures.value (omega (arith, below, c.self.invariant.1))

pub returns-clause-count : goal.returns-clause-count
returns-clause-count c =
    c.total.ensures
    ∙ ap total c.deref.ensures.value
    ∙ sym (len-set_of (c.self.inside.size + 1) c.self.inside.spans.items c.self.invariant.0)
    ∙ ap (λ v. set.len v.set) c.self.view_is

pub returns-clause-below : goal.returns-clause-below
returns-clause-below c =
    subst (λ v. (x : ℕ) → IsTrue (set.contains v.set x) → x < v.size) c.self.view_is
    (λ x held. set_of_below c.self.inside.size c.self.inside.spans.items x c.self.invariant.0 held)
