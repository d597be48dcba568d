use Rattle.std.proofs.Common.{◌≡◌, ◌-◌, ◌∙◌, length, arith}
use Rattle.blob_hasher.proofs.PartLemmas.{fill_more, length-put_tail}
use Rattle.blob_hasher.proofs.reading.fill.Goals as goal

pub filling-preserved : goal.filling-preserved
filling-preserved g c =
    let invariant = c.filling.invariant in
    let buffer = c.filling.buffer in
    let tail = c.read_some.new.buffer in
    let filled = c.filling.filled in
    let bound = c.in_ok-filled.ensures.bound in
    let same = c.in_ok-filled.ensures.bytes ∙ invariant.bytes in
    let content = rw same at c.in_ok-filled.ensures.content in
    let long : length tail ≡ length buffer - filled = omega arith in
    let whole = length-put_tail buffer tail filled invariant.within long in
    record {
      within = omega (arith, whole, bound, long, invariant.within);
      long = whole ∙ invariant.long;
      content = fill_more (g.B.Blob.bytes c.args.blob.now) buffer tail filled c.in_ok-filled.field-0 c.args.at invariant.within invariant.content content;
      bytes = same;
      later = omega (arith, c.in_ok-filled.ensures.cause, invariant.later);
    }
