use Rattle.std.proofs.Common.{◌≡◌, ◌+◌, ◌-◌, ◌≤◌, ◌∙◌, length, drop, arith, refl, length-append, length-drop}
use Rattle.std.proofs.lemmas.List.{length-take-le}
use Rattle.blob_hasher.proofs.PartLemmas.{IsPart-more}
use Rattle.blob_hasher.proofs.part.hash_part.Goals as goal

pub slice_bounds-blocks-end-in-fours : goal.slice_bounds-blocks-end-in-fours
slice_bounds-blocks-end-in-fours g c =
    let fits : 737280 ≤ length c.fours.buffer = omega (arith, c.requires.room, c.fours.invariant.long, c.fours-test.true) in
    omega (arith, length-take-le 737280 c.fours.buffer fits)

pub fill-requires : goal.fill-requires
fill-requires g c =
    let fits : 737280 ≤ length c.fours.buffer = omega (arith, c.requires.room, c.fours.invariant.long, c.fours-test.true) in
    omega (arith, length-take-le 737280 c.fours.buffer fits, c.requires.within, c.fours-test.true)

pub take_blocks-requires-clause-whole : goal.take_blocks-requires-clause-whole
take_blocks-requires-clause-whole g c =
    let fits : 737280 ≤ length c.fours.buffer = omega (arith, c.requires.room, c.fours.invariant.long, c.fours-test.true) in
    omega (arith, length-take-le 737280 c.fours.buffer fits)

pub fours-preserved : goal.fours-preserved
fours-preserved g c =
    let invariant = c.fours.invariant in
    let buffer = c.fours.buffer in
    let piece = c.fill.new.buffer in
    let own = g.B.Blob.bytes c.args.blob.now in
    let fits : 737280 ≤ length buffer = omega (arith, c.requires.room, invariant.long, c.fours-test.true) in
    let taken = length-take-le 737280 buffer fits in
    let long : length piece ≡ 737280 = omega (arith, taken) in
    let same = c.in_ok-fill.ensures.bytes ∙ invariant.bytes in
    record {
      part = IsPart-more own _ c.args.start c.fours.place _ 737280 _ _ c.fours.part c.take_blocks.new.self piece invariant.part
          c.in_ok-take_blocks.ensures c.in_ok-fill.ensures.content same refl taken long refl;
      begins = omega (arith, invariant.begins);
      within = omega (arith, c.fours-test.true);
      long = length-append piece (drop 737280 buffer) ∙ omega (arith, long, length-drop 737280 buffer, fits, invariant.long);
      bytes = same;
      later = omega (arith, c.in_ok-fill.ensures.cause, invariant.later);
    }

pub returns-clause-part : goal.returns-clause-part
returns-clause-part g c =
    let invariant = c.fours.invariant in
    let buffer = c.fours.buffer in
    let piece = c.fill-2.new.buffer in
    let n = c.args.len - c.fours.place in
    let own = g.B.Blob.bytes c.args.blob.now in
    let fits : n ≤ length buffer = omega (arith, c.requires.room, invariant.long, c.fours-test.false) in
    let taken = length-take-le n buffer fits in
    let long : length piece ≡ n = omega (arith, taken) in
    let same = c.in_ok-fill-2.ensures.bytes ∙ invariant.bytes in
    let end : c.fours.place + n ≡ c.args.len = omega (arith, invariant.within) in
    IsPart-more own _ c.args.start c.fours.place _ n _ _ c.fours.part c.take.new.self piece invariant.part
    c.in_ok-take.ensures c.in_ok-fill-2.ensures.content same refl taken long end
