use Rattle.std.proofs.Common.{◌≡◌, ℕ, ◌<◌, length, slice_index_or, count_by}
use Rattle.reserve_core.specs.Choice.{offers_part}
use Rattle.reserve_core.specs.Events.{events}
use Rattle.reserve_core.specs.declared.offers.Offerer.{Offerer}
use Rattle.reserve_core.proofs.offers.counts.Given as goal

abbrev pub invariant-loop-part : goal.invariant-loop-part
invariant-loop-part l =
    (length l.counts.items ≡ l.part)
    × ((i : ℕ) (d : ℕ) → i < l.part → slice_index_or l.counts.items i d ≡ count_by (λ (offer : Offerer). offers_part (events l.log) offer.peer i) l.offers)
