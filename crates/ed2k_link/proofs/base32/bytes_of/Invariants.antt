use Rattle.std.proofs.Common.{◌≡◌, ◌+◌, ◌*◌, ◌<◌, ◌^◌, take, map, length, ℕ, get_or}
use Rattle.std.specs.Int.Digits.{number_from_digits}
use Rattle.ed2k_link.specs.Base32.{letter_value}
use Rattle.ed2k_link.proofs.base32.bytes_of.Given as goal

abbrev pub invariant-loop-letter : goal.invariant-loop-letter
invariant-loop-letter l = record {
  long : length l.root ≡ 20;
  bytes : (k : ℕ) → get_or l.root k 0 < 256;
  bits : 8 * l.next + l.count ≡ 5 * l.letter-index;
  few : l.count < 8;
  low : l.pending < 2 ^ l.count;
  same : number_from_digits 256 (take l.next l.root) * 2 ^ l.count + l.pending
      ≡ number_from_digits 32 (map letter_value (take l.letter-index l.text));
}
