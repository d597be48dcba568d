use Rattle.std.proofs.Common.{◌≡◌, ◌∙◌, ap, rules, subst, OnOk}
use Rattle.part_hashset.specs.declared.aim.Aim.{Aim}
use Rattle.part_store.specs.Body.{body_of, log_of}
use Rattle.part_store.specs.Origin.{Origin, origin_of}
use Rattle.part_store.proofs.Origins.{same_origin}
use Rattle.reserve_core.specs.Events.{events}
use Rattle.ed2k_node.specs.Left.{HasNoFailed, IsComplete, IsSettled}
use Rattle.ed2k_node.specs.Talks.{inside_file}
use Rattle.ed2k_node.proofs.Foreign.{holders_stay, no_faults, worked}
use Rattle.ed2k_node.proofs.rounds.run_round.Goals as goal

pub returns : goal.returns
returns g c =
    let mid = c.fetch-end.new.desk.file in
    let new = c.settle-settled.new.file in
    let settled = c.settle-settled.ensures in
    let born = same_origin (origin_of g.V.Vault mid) (origin_of g.V.Vault c.args.desk.now.file) c.fetch-end.ensures.fetch.leaves.same.origin in
    let still = subst (λ (aim : Aim). IsSettled aim (events mid.log) → HasNoFailed aim (events mid.log) → new.log ≡ mid.log) c.fetch-end.ensures.fetch.leaves.same.wanted settled.still in
    record {
      round = record {
        ran = record {
          paused = inside_file g.V.Vault.files mid;
          fetched = c.fetch-end.ensures.fetch.fetched;
          settles = settled.goes_on;
          rests = λ rest whole. ap events (still rest whole);
          stays = subst (λ (aim : Aim). IsComplete aim (events mid.log) → IsComplete aim (events new.log)) c.fetch-end.ensures.fetch.leaves.same.wanted settled.kept;
          body = ap body_of settled.files;
        };
        wanted = search rules;
        ready = c.fetch-end.ensures.fetch.ready;
        reopened = subst (λ (aim : Aim). OnOk c.settle-settled.result (HasNoFailed aim (events c.settle-settled.new.file.log))) c.fetch-end.ensures.fetch.leaves.same.wanted c.settle-settled.ensures.reopened;
        legal = search rules;
        from = search rules;
        leaves = record {
          aim = search rules;
          initial = ap g.V.Vault.faults c.settle-settled.ensures.same.1 ∙ ap (λ (o : Origin). o.faults) born;
          placed = ap g.V.Vault.placed c.settle-settled.ensures.same.1 ∙ ap (λ (o : Origin). o.place) born;
          began = ap (λ (v : _). body_of (g.V.Vault.files v)) c.settle-settled.ensures.same.1 ∙ ap (λ (o : Origin). o.body) born;
          log_file = ap (λ (v : _). log_of (g.V.Vault.files v)) c.settle-settled.ensures.same.1 ∙ ap (λ (o : Origin). o.log_file) born;
          settled = search rules;
          cause = search rules;
          number = search rules;
          asked = search rules;
          alive = search rules;
          free = λ works. holders_stay (events mid.log) (events new.log) 0 c.settle-settled.ensures.goes_on
              ∙ c.fetch-end.ensures.fetch.leaves.free (no_faults mid.broken (worked mid.broken new.broken c.settle-settled.ensures.broken works));
          later = search rules;
          blame = search rules;
        };
      };
    }
