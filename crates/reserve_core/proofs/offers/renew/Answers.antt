use Rattle.std.proofs.Common.{not, ◌==◌, ◌++◌, [], ◌∷◌, List, ap, ◌∙◌, rules, tests}
use Rattle.std.proofs.lemmas.Fn.{filter_same}
use Rattle.reserve_core.specs.declared.offers.Offerer.{Offerer}
use Rattle.reserve_core.proofs.offers.renew.Goals as goal

pub returns : goal.returns
returns c =
    let last : Offerer = record { peer = c.args.peer; place = c.args.place } in
    record {
      items =
          c.push_reserved.ensures.items
          ∙ ap (λ (os : List Offerer). os ++ last ∷ []) (filter_same _ (λ (offer : Offerer). not (offer.peer == c.args.peer)) _ (λ x b f r. (search (rules, tests), search (rules, tests))) _ _ c.retain.ensures.filtered);
    }
