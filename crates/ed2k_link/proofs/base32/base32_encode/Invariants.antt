use Rattle.std.proofs.Common.{◌≡◌, ◌+◌, ◌*◌, ◌<◌, ◌^◌, take, map, true, length}
use Rattle.std.specs.Int.Digits.{number_from_digits}
use Rattle.std.specs.List.{list_all}
use Rattle.ed2k_link.specs.Base32.{letter_value}
use Rattle.ed2k_link.proofs.Letters.{is_upper}
use Rattle.ed2k_link.proofs.base32.base32_encode.Given as goal

abbrev pub invariant-loop-i : goal.invariant-loop-i
invariant-loop-i l = record {
  long : length l.text ≡ 32;
  bits : 8 * l.left.next ≡ 5 * l.i + l.left.count;
  few : l.left.count < 8;
  low : l.left.value < 2 ^ l.left.count;
  upper : list_all is_upper (take l.i l.text) ≡ true;
  same : number_from_digits 32 (map letter_value (take l.i l.text)) * 2 ^ l.left.count + l.left.value
      ≡ number_from_digits 256 (take l.left.next l.root);
}
