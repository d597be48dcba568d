use Rattle.std.proofs.Common.{◌∙◌, arith}
use Rattle.blob_hasher.proofs.PartLemmas.{IsFile-part}
use Rattle.blob_hasher.proofs.blob.read_whole.Goals as goal

pub parts-preserved : goal.parts-preserved
parts-preserved g c =
    let invariant = c.parts.invariant in
    let begins = invariant.begins c.parts-test.true in
    let own = g.B.Blob.bytes c.args.blob.now in
    record {
      file = IsFile-part own _ c.args.size c.parts.at c.min-len.result c.parts.file c.append.new.self c.in_ok-part.part invariant.file
          c.in_ok-part.ensures.part invariant.bytes c.append.ensures.size c.in_ok-append.ensures.set c.in_ok-append.ensures.tree;
      begins = λ left. omega (arith, left, begins, c.min-len.ensures);
      within = omega (arith, c.min-len.ensures, c.parts-test.true);
      long = omega (arith, invariant.long);
      bytes = c.in_ok-part.ensures.bytes ∙ invariant.bytes;
      later = omega (arith, c.in_ok-part.ensures.cause.later, invariant.later);
    }
