use Rattle.std.proofs.Common.{◌≡◌, refl, arith}
use Rattle.part_sizes.specs.declared.part.TheConstants.{PART}
use Rattle.blob_hasher.proofs.PartLemmas.{IsFile-four}
use Rattle.blob_hasher.proofs.four_parts.hash_four_parts.Goals as goal

pub blocks-2-init : goal.blocks-2-init
blocks-2-init g c =
    record {
      parts = c.new-parts.ensures (g.B.Blob.bytes c.args.blob.now) c.args.start;
      begins = λ left. refl;
      within = omega arith;
      long = refl;
      bytes = refl;
      later = omega arith;
    }

pub returns-clause-file : goal.returns-clause-file
returns-clause-file g c =
    let end : c.blocks-2.place ≡ PART = omega (arith, c.blocks-2.invariant.within, c.blocks-2-test.false) in
    IsFile-four (g.B.Blob.bytes c.args.blob.now) _ c.args.start c.args.file.now c.append_four.new.file c.blocks-2.parts c.requires.file
    (rw end at c.blocks-2.invariant.parts) c.append_four.ensures.size c.in_ok-append_four.ensures.set c.in_ok-append_four.ensures.same
