use Rattle.std.proofs.Common.{◌≡◌, ◌∙◌, ap, sym, Some}
use Rattle.ed2k_link.specs.Items.{texts, split_at_bars}
use Rattle.ed2k_link.specs.Prefix.{after_prefix}
use Rattle.ed2k_link.specs.Grammar.{head}
use Rattle.ed2k_link.proofs.Whole.{link_from_items}
use Rattle.ed2k_link.proofs.parse.parse_link.Goals as goal

pub returns : goal.returns
returns c =
    let items : texts c.deref.result.now ≡ split_at_bars c.in-Some.body.now = ap texts c.deref.ensures.value ∙ c.in_ok-items.ensures in
    let begun : after_prefix head c.args.text.now ≡ Some c.in-Some.body.now =
    ap (after_prefix head) (sym c.as_bytes.ensures.value) ∙ c.in-Some.ensures in
    link_from_items c.args.text.now c.in-Some.body.now (texts c.deref.result.now) c.parse_items.result begun items c.parse_items.ensures
