use Rattle.std.proofs.Common.{◌≡◌, ℕ, ◌+◌, ◌-◌, ◌*◌, ◌∙◌, min, refl, arith}
use Rattle.part_sizes.specs.declared.part.TheConstants.{PART}
use Rattle.part_sizes.specs.declared.block.TheConstants.{BLOCK}
use Rattle.blob_hasher.proofs.PartLemmas.{IsPart-more}
use Rattle.blob_hasher.proofs.four_parts.feed_block.Goals as goal

pub returns-clause-parts : goal.returns-clause-parts
returns-clause-parts g c =
    let own = g.B.Blob.bytes c.args.blob.now in
    let start = c.args.start in
    let place = c.args.place in
    let n : ℕ = min (PART - place) BLOCK in
    let parts = c.args.parts.now in
    let new = c.take.new.self in
    let first = c.in_ok-fill.ensures.bytes in
    let second = c.in_ok-fill-2.ensures.bytes ∙ first in
    let third = c.in_ok-fill-3.ensures.bytes ∙ second in
    let fourth = c.in_ok-fill-4.ensures.bytes ∙ third in
    let at1 : start + place + PART ≡ start + PART + place = omega arith in
    let at2 : start + place + 2 * PART ≡ start + 2 * PART + place = omega arith in
    let at3 : start + place + 3 * PART ≡ start + 3 * PART + place = omega arith in
    record {
      first = IsPart-more own _ start place _ n _ _ parts.first new.first _ c.requires.parts.first
          c.in_ok-take.ensures.first c.in_ok-fill.ensures.content first refl (omega arith) (omega arith) refl;
      second = IsPart-more own _ (start + PART) place _ n _ _ parts.second new.second _ c.requires.parts.second
          c.in_ok-take.ensures.second c.in_ok-fill-2.ensures.content second at1 (omega arith) (omega arith) refl;
      third = IsPart-more own _ (start + 2 * PART) place _ n _ _ parts.third new.third _ c.requires.parts.third
          c.in_ok-take.ensures.third c.in_ok-fill-3.ensures.content third at2 (omega arith) (omega arith) refl;
      fourth = IsPart-more own _ (start + 3 * PART) place _ n _ _ parts.fourth new.fourth _ c.requires.parts.fourth
          c.in_ok-take.ensures.fourth c.in_ok-fill-4.ensures.content fourth at3 (omega arith) (omega arith) refl;
    }
