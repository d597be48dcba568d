use Rattle.std.proofs.Common.{◌≡◌, ◌∙◌, sym, ap, ◌+◌, ◌*◌, ◌<◌, arith, length, get_or, map, take}
use Rattle.std.proofs.Math.Facts.{Fits-of_lt}
use Rattle.std.proofs.lemmas.List.{length-set}
use Rattle.ed2k_link.proofs.Steps.{bytes_set, byte_bound, letter_low, number_longer, next_byte, kept_letter, kept_low, decode_end}
use Rattle.std.specs.Int.Digits.{number_from_digits}
use Rattle.ed2k_link.specs.Base32.{letter_value}
use Rattle.ed2k_link.proofs.base32.bytes_of.Goals as goal
use Rattle.ed2k_link.proofs.base32.bytes_of.Goals.{then-count-ge3, else-count-ge3}

pub overflow_cast-root : goal.overflow_cast-root
overflow_cast-root c =
    let number : c.from.result ≡ letter_value (get_or c.args.text.now c.loop-letter.letter-index 0) = c.from.ensures ∙ c.letter_value.ensures in
    let small = letter_low c.args.text.now c.loop-letter.letter-index c.requires.letters c.loop-letter-test.true in
    let letter : c.from.result < 32 = omega (arith, number, small) in
    Fits-of_lt (byte_bound c.loop-letter.count c.loop-letter.pending c.from.result _ _ c.if-count-ge3.true c.loop-letter.invariant.low letter
    c.split_bits-byte.ensures.whole c.split_bits-byte.ensures.low)

pub loop-letter-preserved : goal.loop-letter-preserved
loop-letter-preserved c =
    let old = c.loop-letter.invariant in
    let number : c.from.result ≡ letter_value (get_or c.args.text.now c.loop-letter.letter-index 0) = c.from.ensures ∙ c.letter_value.ensures in
    let small = letter_low c.args.text.now c.loop-letter.letter-index c.requires.letters c.loop-letter-test.true in
    let letter : c.from.result < 32 = omega (arith, number, small) in
    let longer = number_longer c.args.text.now c.loop-letter.letter-index c.loop-letter-test.true in
    elim c.if-count-ge3.branch [
      | then-count-ge3 w ↦
          let within : c.loop-letter.next < length c.loop-letter.root = omega (arith, old.bits, old.long, old.few, c.requires.count, c.loop-letter-test.true, w.if-count-ge3.true) in
          let high = byte_bound c.loop-letter.count c.loop-letter.pending c.from.result _ _ w.if-count-ge3.true old.low letter
          w.split_bits-byte.ensures.whole w.split_bits-byte.ensures.low in
          rw (w.root-is, w.next-is, w.pending-is, w.count-is) (record {
            long = length-set c.loop-letter.root c.loop-letter.next _ ∙ old.long;
            bytes = bytes_set c.loop-letter.root c.loop-letter.next w.split_bits-byte.result.0 old.bytes high;
            bits = omega (arith, old.bits, w.if-count-ge3.true);
            few = omega (arith, old.few);
            low = w.split_bits-byte.ensures.low;
            same = next_byte c.loop-letter.root c.loop-letter.next c.loop-letter.count c.loop-letter.pending c.from.result
                w.split_bits-byte.result.0 w.split_bits-byte.result.1 _ within w.if-count-ge3.true w.split_bits-byte.ensures.whole old.same
                ∙ sym (longer ∙ ap (λ d. number_from_digits 32 (map letter_value (take c.loop-letter.letter-index c.args.text.now)) * 32 + d) (sym number));
          })
      | else-count-ge3 w ↦
          rw (w.root-is, w.next-is, w.pending-is, w.count-is) (record {
            long = old.long;
            bytes = old.bytes;
            bits = omega (arith, old.bits);
            few = omega (arith, w.if-count-ge3.false);
            low = kept_low c.loop-letter.count c.loop-letter.pending c.from.result old.low letter;
            same = kept_letter _ c.loop-letter.count c.loop-letter.pending c.from.result _ old.same
                ∙ sym (longer ∙ ap (λ d. number_from_digits 32 (map letter_value (take c.loop-letter.letter-index c.args.text.now)) * 32 + d) (sym number));
          })
    ]

pub returns-clause-number : goal.returns-clause-number
returns-clause-number c =
    let end = c.loop-letter.invariant in
    decode_end c.args.text.now c.loop-letter.root c.loop-letter.letter-index c.loop-letter.next c.loop-letter.count c.loop-letter.pending
    c.loop-letter-test.false c.loop-letter.auto.letter-index-end c.requires.count end.long end.bits end.few end.low end.same
