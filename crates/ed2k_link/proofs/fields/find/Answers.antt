use Rattle.ed2k_link.proofs.Lists.{find_more, shown_is}
use Rattle.ed2k_link.proofs.fields.find.Goals as goal

pub loop-field-preserved : goal.loop-field-preserved
loop-field-preserved c =
    let value = shown_is _ _ c.strip_prefix.ensures in
    find_more c.args.key.now c.args.fields.now c.loop-field.field-index _ c.also-found.result c.strip_prefix.result c.loop-field-test.true value
    (c.also-found.ensures _ c.loop-field.invariant)
