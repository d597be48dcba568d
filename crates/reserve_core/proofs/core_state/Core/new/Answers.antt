use Rattle.std.proofs.Common.{ℕ, ◌||◌, false, List, length, ap, ◌∙◌, arith}
use Rattle.std.specs.FinSet.{FinSet, contains, contains-empty}
use Rattle.std.specs.List.{list_any}
use Rattle.std.specs.Ordering.{nat_cmp}
use Rattle.part_sizes.specs.Span.{has}
use Rattle.part_sizes.specs.declared.span.Span.{Span}
use Rattle.part_sizes.specs.declared.small_lists.Pair.{Pair}
use Rattle.part_hashset.specs.Goals.{digest_in}
use Rattle.reserve_core.specs.declared.part_state.PartState.{PartState}
use Rattle.reserve_core.proofs.Begun.{keeps-opened}
use Rattle.reserve_core.proofs.core_state.Core.new.Goals as goal

pub invariant_of-result : goal.invariant_of-result
invariant_of-result c =
    let parts = c.data_parts-parts.ensures.value in
    let fill = c.fill_all.ensures in
    let fresh = λ (x : ℕ). ap (λ (s : FinSet nat_cmp). contains s x) (c.in_ok-reserve.ensures.set ∙ c.new-filled.ensures.set) ∙ contains-empty nat_cmp x in
    rw (c.push_reserved.ensures.items, c.push_reserved.ensures.len, c.push_reserved.ensures.capacity, c.in_ok-log.ensures.items, c.in_ok-log.ensures.len, c.new.ensures.items, c.new-2.ensures.items)
    (keeps-opened c.args.aim c.args.opened c.args.calls c.fill_all.new.filled _ c.in_ok-states.states.items _ c.requires.size c.requires.state
    (fill.size ∙ c.in_ok-reserve.ensures.size ∙ c.new-filled.ensures.size)
    (λ x. fill.set x ∙ ap (λ b. b || list_any (λ r. has r x) c.as_slice.result.now) (fresh x) ∙ ap (λ (rs : List Span). list_any (λ r. has r x) rs) c.as_slice.ensures)
    (omega (arith, c.in_ok-reserve.ensures.ok, fill.spare, ap length c.as_slice.ensures, c.len.ensures, c.from-entries.ensures, parts))
    (c.in_ok-reserve-2.ensures.size ∙ c.new-fresh.ensures.size)
    (λ x. ap (λ (s : FinSet nat_cmp). contains s x) (c.in_ok-reserve-2.ensures.set ∙ c.new-fresh.ensures.set) ∙ contains-empty nat_cmp x)
    (omega (arith, c.in_ok-reserve-2.ensures.ok, c.from-entries.ensures, parts))
    (c.in_ok-states.ensures.len ∙ parts)
    (λ i d exists. c.in_ok-states.ensures.each i d (omega (arith, exists, parts)) ∙ ap (λ (ps : List Pair). let s : PartState = record { verdict = digest_in ps i; uncommitted = false; failures = 0 } in s) c.as_slice-2.ensures)
    (omega (arith, c.in_ok-log.ensures.exact, c.from-entries.ensures, parts)))
