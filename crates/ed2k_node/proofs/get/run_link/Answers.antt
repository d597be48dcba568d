use Rattle.std.proofs.Common.{◌∙◌, ap, rules, subst, sym, List}
use Rattle.part_store.specs.Body.{body_of}
use Rattle.part_hashset.specs.declared.aim.Aim.{Aim}
use Rattle.ed2k_outside.specs.WireMembers.{members}
use Rattle.reserve_core.specs.Events.{events}
use Rattle.reserve_core.specs.declared.event.Entry.{Entry}
use Rattle.ed2k_node.specs.Download.{IsDownload, left_by, order_at}
use Rattle.ed2k_node.specs.Link.{aim_of}
use Rattle.ed2k_node.specs.Report.{verified_count}
use Rattle.ed2k_node.proofs.Codes.{made_where_complete}
use Rattle.ed2k_node.proofs.ReportLemmas.{reported_as}
use Rattle.ed2k_node.proofs.Whole.{is_file_told}
use Rattle.ed2k_node.proofs.get.run_link.Goals as goal

pub returns : goal.returns
returns g c =
    let m = members g.N.Wire.Source g.N.Wire.Sink g.N.Wire.Wire in
    let link = c.args.link in
    let left = c.download-status.result in
    let told = c.report_download-status.ensures in
    let did = left_by g.N.Net g.V.Vault c.args.hands.net c.args.hands.vault c.download-status.new.net left in
    let own = subst (λ (aim : Aim). IsDownload m (order_at aim link.parts c.args.get.now.place.now c.args.get.now.from) did) c.aim_of-aim.ensures.aim
    c.download-status.ensures.download in
    record {
      ending = left.status;
      download = own;
      complete = λ is began.
          let done = (own.ends.verified (made_where_complete left.status is)).0 is in
          is_file_told (aim_of link) left.log.items (body_of did.before.files) did.after.files link.is_sized (own.ends.legal done.0) (own.ends.fits done.0) began done.1;
      printed = reported_as link _ _ _ _ _ _ _ _ _ _ c.aim_of-aim.ensures.aim c.as_slice.ensures c.deref.ensures.value c.deref-2.ensures.value told.reported;
      status = told.status;
      refused = told.refused;
      output = told.output;
      untried = search rules;
      silent = search rules;
      beside = search rules;
    }

pub report_download-status-requires-clause-counted : goal.report_download-status-requires-clause-counted
report_download-status-requires-clause-counted g c =
    c.download-status.ensures.verified ∙ ap (λ (log : List Entry). verified_count c.aim_of-aim.result (events log)) (sym c.deref.ensures.value)
