-- A text without a fault writes a link.
use Rattle.std.proofs.Common.{◌≡◌, ◌∙◌, refl, sym, ap, ℕ, ◌<◌, ◌^◌, ◌&&◌, ◌==◌, Bool, true, false, cond, not, List, [], ◌∷◌, arith, length, map, drop, Option, Some, None, is_some, lit<, nat_lt}
use Rattle.std.proofs.lemmas.Bool.{eqb-true}
use Rattle.std.proofs.lemmas.Bool.Decides.{nat_tests}
use Rattle.std.proofs.lemmas.Int.Digits.{number_lt}
use Rattle.std.specs.Int.Digits.{number_from_digits}
use Rattle.std.specs.List.{list_all, list_any}
use Rattle.std.specs.Str.Parse.{digits_value}
use Rattle.percent_encoding.specs.Percent.{percent_decode}
use Rattle.part_sizes.specs.Part.{IsSize}
use Rattle.ed2k_link.proofs.Letters.{digits_at_below, length-digits_at, length_map, letters_below, number-digits_at}
use Rattle.ed2k_link.specs.Base32.{digits_at, is_base32, letter_value, Spells}
use Rattle.ed2k_link.specs.Fields.{AreParts, IsRoot, WriteFields, are_parts, is_root, hash_of, is_hash, part_texts, root_texts, field_fault}
use Rattle.ed2k_link.specs.Grammar.{Link, Write, fault_of, is_file, item, item_fault, items_of}
use Rattle.ed2k_link.specs.Items.{is_end, split_at_colons}
use Rattle.ed2k_link.specs.Name.{is_name}
use Rattle.ed2k_link.specs.Decimal.{is_numeral}
use Rattle.ed2k_link.specs.Size.{is_size, size_of}
use Rattle.ed2k_link.specs.declared.fault.LinkFault.{LinkFault}
use Rattle.ed2k_link.specs.declared.link.FileLink.{FileLink}

-- a test that is passed on the way to no fault
passed : (b : Bool) (fault : LinkFault) (rest : Option LinkFault) → cond (not b) (Some fault) rest ≡ None → (b ≡ true) × (rest ≡ None)
passed true fault rest h = (refl, h)
passed false fault rest h = absurd (cc)

both : (a b : Bool) → (a && b) ≡ true → (a ≡ true) × (b ≡ true)
both true true h = (refl, refl)
both true false h = absurd (cc)
both false b h = absurd (cc)

has : {A : Type 0} (o : Option A) → is_some o ≡ true → (x : A) × (o ≡ Some x)
has (Some x) h = (x, refl)
has None h = absurd (cc)

-- the bytes that 32 letters spell
spelled : (text : List ℕ) → is_base32 text ≡ true → (root : List ℕ) × Spells text root
spelled text h =
    let number = number_from_digits 32 (map letter_value text) in
    let parts = both (length text == 32) (list_all (λ c. nat_lt (letter_value c) 32) text) h in
    let long : length (map letter_value text) ≡ 32 = length_map letter_value text ∙ eqb-true (length text) 32 parts.0 in
    let small : number < 32 ^ 32 = rw long at (number_lt 32 (map letter_value text) (letters_below text parts.1)) in (
      digits_at 256 20 number,
      record {
        letters = h;
        bytes = digits_at_below 256 20 number (lit< tt);
        count = length-digits_at 256 20 number;
        number = sym (number-digits_at 256 20 number (lit< tt) small);
      },
    )

hashes : (pieces : List (List ℕ)) → list_all is_hash pieces ≡ true → (parts : List (List ℕ)) × (map hash_of pieces ≡ map Some parts)
hashes [] h = ([], refl)
hashes (piece ∷ pieces) h =
    let here = both (is_hash piece) (list_all is_hash pieces) h in
    let hash = has (hash_of piece) here.0 in
    let rest = hashes pieces here.1 in
    (hash.0 ∷ rest.0, ap (λ h. h ∷ map hash_of pieces) hash.1 ∙ ap (λ hs. Some hash.0 ∷ hs) rest.1)

parts_are : (texts : List (List ℕ)) → are_parts texts ≡ true → (parts : List (List ℕ)) × AreParts texts parts
parts_are [] h = ([], refl)
parts_are (text ∷ []) h = hashes (split_at_colons text) h
parts_are (_ ∷ _ ∷ _) h = absurd (cc)

root_is : (texts : List (List ℕ)) → is_root texts ≡ true → (root : Option (List ℕ)) × IsRoot texts root
root_is [] h = (None, refl)
root_is (text ∷ []) h = let root = spelled text h in (Some root.0, root.1)
root_is (_ ∷ _ ∷ _) h = absurd (cc)

fields_are : (items : List (List ℕ)) → field_fault items ≡ None → (parts : List (List ℕ)) × (root : Option (List ℕ)) × WriteFields items parts root
fields_are items h =
    let first = passed (are_parts (part_texts items)) _ _ h in
    let second = passed (is_root (root_texts items)) _ _ first.1 in
    let third = passed (list_any is_end items) _ _ second.1 in
    let parts = parts_are (part_texts items) first.0 in
    let root = root_is (root_texts items) second.0 in
    (parts.0, root.0, record { part_hashes = parts.1; root_hash = root.1; ended = third.0 })

-- the size that a text writes is one of a file
size_is : (text : List ℕ) → is_some (size_of text) ≡ true → (size : ℕ) × (size_of text ≡ Some size) × IsSize size
size_is text h = by_tests (is_numeral text && is_size (digits_value 10 text)) refl h
  where
    by_tests : (b : Bool) → is_numeral text && is_size (digits_value 10 text) ≡ b → is_some (cond b (Some (digits_value 10 text)) None) ≡ true
        → (size : ℕ) × (size_of text ≡ Some size) × IsSize size
    by_tests true e h =
        let tests = both (is_numeral text) (is_size (digits_value 10 text)) e in
        (digits_value 10 text, rw e refl, grind (arith, nat_tests, tests.1))
    by_tests false e h = absurd (cc)

items_write : (items : List (List ℕ)) → item_fault items ≡ None → (link : FileLink) × Write items link
items_write items h =
    let first = passed (is_name (percent_decode (item items 0))) _ _ h in
    let second = passed (is_some (size_of (item items 1))) _ _ first.1 in
    let third = passed (is_some (hash_of (item items 2))) _ _ second.1 in
    let size = size_is (item items 1) second.0 in
    let hash = has (hash_of (item items 2)) third.0 in
    let fields = fields_are (drop 3 items) third.1 in
    let link : FileLink = record {
      name = percent_decode (item items 0);
      size = size.0;
      hash = hash.0;
      parts = fields.0;
      root = fields.1;
      is_named = first.0;
      is_sized = size.2;
    } in
    (link, record { file_name = refl; file_size = size.1; file_hash = hash.1; rest = fields.2 })

pub faultless_writes : (text : List ℕ) → fault_of text ≡ None → (link : FileLink) × Link text link
faultless_writes text h =
    let first = passed (is_file text) _ _ h in
    let items = items_write (items_of text) first.1 in
    (items.0, record { begun = first.0; items = items.1 })
