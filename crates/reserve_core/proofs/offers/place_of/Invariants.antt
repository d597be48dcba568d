use Rattle.std.proofs.Common.{◌≡◌, ◌==◌, drop, find}
use Rattle.std.specs.Option.{option_map}
use Rattle.reserve_core.specs.declared.offers.Offerer.{Offerer}
use Rattle.reserve_core.proofs.offers.place_of.Given as goal

abbrev pub invariant-loop-offer : goal.invariant-loop-offer
invariant-loop-offer l =
    option_map (λ (offer : Offerer). offer.place) (find (λ (offer : Offerer). offer.peer == l.peer) l.offers)
    ≡ option_map (λ (offer : Offerer). offer.place) (find (λ (offer : Offerer). offer.peer == l.peer) (drop l.offer-index l.offers))
