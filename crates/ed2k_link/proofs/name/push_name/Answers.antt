use Rattle.std.proofs.Common.{◌≡◌, ◌∙◌, sym}
use Rattle.percent_encoding.specs.Iter.{encoded_text}
use Rattle.ed2k_link.specs.Name.{escaped}
use Rattle.ed2k_link.proofs.Escapes.{encode_is_escaped}
use Rattle.ed2k_link.proofs.name.push_name.Goals as goal

pub returns-clause-written : goal.returns-clause-written
returns-clause-written c =
    let same : escaped c.args.name.now ≡ encoded_text c.percent_encode.result =
    sym (c.percent_encode.ensures.text ∙ encode_is_escaped c.args.name.now) in
    rw same c.append_to.ensures.ok
