use Rattle.std.proofs.Common.{arith, ◌≡◌, refl, sym, add-one, ◌≤◌, true, ℕ, ◌-◌, get_or}
use Rattle.std.proofs.lemmas.Bool.Decides.{nat_tests}
use Rattle.std.proofs.lemmas.List.Elements.{All-get_or}
use Rattle.std.proofs.Math.Nat.{pow-suc}
use Rattle.std.proofs.lemmas.Int.Digits.{digits_value_more}
use Rattle.std.proofs.lemmas.List.Sums.{AllPass-from_list_all}
use Rattle.std.specs.Char.{is_ascii_digit, digit_value}
use Rattle.ed2k_link.proofs.decimal.value_of.Goals as goal

in_range : (c : ℕ) → is_ascii_digit c ≡ true → (48 ≤ c) × (c ≤ 57)
in_range c h = (grind (arith, nat_tests, h), grind (arith, nat_tests, h))

value_is : (c : ℕ) → 48 ≤ c → c ≤ 57 → digit_value c ≡ c - 48
value_is c low high = grind (arith, nat_tests)

pub loop-digit-preserved : goal.loop-digit-preserved
loop-digit-preserved c =
    let i = c.loop-digit.digit-index in
    let digits = c.args.digits.now in
    let passes = AllPass-from_list_all is_ascii_digit digits c.requires.digits in
    let is_digit : is_ascii_digit (get_or digits i 0) ≡ true =
    All-get_or (λ x. is_ascii_digit x ≡ true) digits i 0 c.loop-digit-test.true passes in
    let bounds = in_range (get_or digits i 0) is_digit in
    let value = value_is (get_or digits i 0) bounds.0 bounds.1 in
    let longer = digits_value_more 10 digits i c.loop-digit-test.true in
    let invariant = c.loop-digit.invariant in
    record {
      value = sym (rw (longer, ← invariant.value, value, ← c.from.ensures) refl);
      small = rw (add-one, pow-suc 10 i) (omega (arith, c.from.ensures, bounds.1, invariant.small));
    }
