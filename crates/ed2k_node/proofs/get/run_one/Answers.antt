use Rattle.std.proofs.Common.{rules, refl, inl, inr}
use Rattle.ed2k_node.specs.Link.{aim_of}
use Rattle.ed2k_node.specs.declared.status.Status.TheVariants.{NoMemory}
use Rattle.ed2k_node.proofs.Codes.{get_status}
use Rattle.ed2k_node.proofs.Shared.{never_shared, none_is_never_shared}
use Rattle.ed2k_node.proofs.Wanted.{if_some}
use Rattle.ed2k_node.proofs.get.run_one.Goals as goal

pub returns-in-Ok-clause-get : goal.returns-in-Ok-clause-get
returns-in-Ok-clause-get g c =
    let got = c.run_link.ensures in
    if_some _ _ _ c.in-Some.ensures (record {
      came = inr (inr (record { link = c.in-Ok.link; reads = c.in-Ok.ensures; downloads = got }));
      shared = never_shared c.no_position_is_held_twice.ensures (aim_of c.in-Ok.link) c.run_link.result.log.items got.download.ends.legal;
      listed = get_status got.ending c.run_link.result.status got.status;
    })

pub returns-in-Err-NoMemory-clause-get : goal.returns-in-Err-NoMemory-clause-get
returns-in-Err-NoMemory-clause-get g c =
    if_some _ _ _ c.in-Some.ensures (record {
      came = inr (inl (search rules));
      shared = none_is_never_shared c.new.result.items c.new.ensures.items;
      listed = inr (inr (NoMemory, refl));
    })
