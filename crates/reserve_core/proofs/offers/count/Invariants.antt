use Rattle.std.proofs.Common.{◌≡◌, take, count_by}
use Rattle.reserve_core.specs.Choice.{offers_part}
use Rattle.reserve_core.specs.Events.{events}
use Rattle.reserve_core.specs.declared.offers.Offerer.{Offerer}
use Rattle.reserve_core.proofs.offers.count.Given as goal

abbrev pub invariant-loop-offer : goal.invariant-loop-offer
invariant-loop-offer l = l.count ≡ count_by (λ (offer : Offerer). offers_part (events l.log) offer.peer l.part) (take l.offer-index l.offers)
