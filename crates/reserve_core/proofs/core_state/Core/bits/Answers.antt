use Rattle.std.proofs.Common.{◌<◌, ◌==◌, [], List, Bool, Option, find, length, unwrap_or, ap, sym, ◌∙◌, rules}
use Rattle.std.specs.Option.{option_map}
use Rattle.reserve_core.specs.Choice.{offer_by}
use Rattle.reserve_core.specs.Events.{events, latest}
use Rattle.reserve_core.specs.Seen.{Seen}
use Rattle.reserve_core.specs.Tells.{bits_in}
use Rattle.reserve_core.specs.declared.event.Entry.{Entry}
use Rattle.reserve_core.specs.declared.offers.Offerer.{Offerer}
use Rattle.reserve_core.proofs.NewestOffers.{found-place, not-found}
use Rattle.reserve_core.proofs.core_state.Core.bits.Goals as goal

pub index-requires : goal.index-requires
index-requires c =
    let at = found-place c.self.inside.log.items c.self.inside.offers.items c.args.peer c.in-Some.place c.self.invariant.offers.each
    (c.in-Some.ensures {u = tt} ∙ ap (λ (os : List Offerer). option_map (λ (offer : Offerer). offer.place) (find (λ (offer : Offerer). offer.peer == c.args.peer) os)) c.deref.ensures.value) in
    let within : c.in-Some.place < length c.self.inside.log.items = at.within in
    search rules

pub returns-in-None : goal.returns-in-None
returns-in-None c =
    sym (ap (λ (o : Option (List Bool)). unwrap_or o []) (not-found c.self.inside.log.items c.self.inside.offers.items c.args.peer c.self.invariant.offers
    (c.in-None.ensures {u = tt} ∙ ap (λ (os : List Offerer). option_map (λ (offer : Offerer). offer.place) (find (λ (offer : Offerer). offer.peer == c.args.peer) os)) c.deref.ensures.value)))
    ∙ ap (λ (v : Seen). unwrap_or (latest (offer_by c.args.peer) (events v.log)) []) c.self.view_is

pub returns-in-Some : goal.returns-in-Some
returns-in-Some c =
    let at = found-place c.self.inside.log.items c.self.inside.offers.items c.args.peer c.in-Some.place c.self.invariant.offers.each
    (c.in-Some.ensures {u = tt} ∙ ap (λ (os : List Offerer). option_map (λ (offer : Offerer). offer.place) (find (λ (offer : Offerer). offer.peer == c.args.peer) os)) c.deref.ensures.value) in
    c.bits_in.ensures
    ∙ ap (λ (e : Entry). bits_in e.event) c.index.ensures
    ∙ sym (ap (λ (o : Option (List Bool)). unwrap_or o []) (at.is c.index.result.now))
    ∙ ap (λ (v : Seen). unwrap_or (latest (offer_by c.args.peer) (events v.log)) []) c.self.view_is
