use Rattle.std.proofs.Common.{◌≡◌, ◌∙◌, ◌<◌, arith, length, take}
use Rattle.std.proofs.lemmas.List.{length-set, take_all}
use Rattle.ed2k_link.proofs.Letters.{upper_letters, base32_from_number, spells_from_number}
use Rattle.ed2k_link.proofs.Steps.{letter_bound, next_upper, next_letter, encode_end}
use Rattle.ed2k_link.proofs.base32.base32_encode.Goals as goal

pub bounds-number : goal.bounds-number
bounds-number c =
    letter_bound c.refill-full.result.count c.refill-full.result.value _ _ c.refill-full.ensures.enough c.refill-full.ensures.low
    c.split_bits-number.ensures.whole c.split_bits-number.ensures.low

pub loop-i-preserved : goal.loop-i-preserved
loop-i-preserved c =
    let full = c.refill-full.result in
    let old = c.loop-i.invariant in
    let bound = letter_bound full.count full.value _ _ c.refill-full.ensures.enough c.refill-full.ensures.low
    c.split_bits-number.ensures.whole c.split_bits-number.ensures.low in
    let within : c.loop-i.i < length c.loop-i.text = omega (arith, old.long) in
    record {
      long = length-set c.loop-i.text c.loop-i.i _ ∙ old.long;
      bits = omega (arith, old.bits, c.refill-full.ensures.bits, c.refill-full.ensures.enough);
      few = omega (arith, c.refill-full.ensures.few);
      low = c.split_bits-number.ensures.low;
      upper = next_upper c.loop-i.text c.loop-i.i c.split_bits-number.result.0 within bound old.upper;
      same = next_letter c.loop-i.text c.loop-i.i full.count full.value c.split_bits-number.result.0 c.split_bits-number.result.1 _
          within c.refill-full.ensures.enough bound c.split_bits-number.ensures.whole (c.refill-full.ensures.same _ old.same);
    }

pub returns-clause-value : goal.returns-clause-value
returns-clause-value c =
    let end = c.loop-i.invariant in
    let same = encode_end c.loop-i.text c.args.root.now c.loop-i.i c.loop-i.left.next c.loop-i.left.count c.loop-i.left.value
    c.loop-i-test.false c.loop-i.auto.i-end end.long c.told-root end.bits end.few end.low end.same in
    let all : take c.loop-i.i c.loop-i.text ≡ c.loop-i.text = take_all c.loop-i.i c.loop-i.text (omega (arith, end.long)) in
    base32_from_number c.loop-i.text c.args.root.now end.long (rw all at end.upper) same

pub returns-clause-spelled : goal.returns-clause-spelled
returns-clause-spelled c =
    let end = c.loop-i.invariant in
    let same = encode_end c.loop-i.text c.args.root.now c.loop-i.i c.loop-i.left.next c.loop-i.left.count c.loop-i.left.value
    c.loop-i-test.false c.loop-i.auto.i-end end.long c.told-root end.bits end.few end.low end.same in
    let all : take c.loop-i.i c.loop-i.text ≡ c.loop-i.text = take_all c.loop-i.i c.loop-i.text (omega (arith, end.long)) in
    spells_from_number c.loop-i.text c.args.root.now end.long (upper_letters c.loop-i.text (rw all at end.upper)).1
    c.fits-root c.told-root same
