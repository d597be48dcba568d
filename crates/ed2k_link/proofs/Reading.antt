-- The printed form of a link is a text that writes it.
use Rattle.std.proofs.Common.{◌≡◌, ◌∙◌, refl, sym, ap, subst, ℕ, ◌+◌, ◌*◌, take, ◌/◌, ◌%◌, ◌^◌, ◌<◌, ◌≤◌, ◌==◌, ◌||◌, Bool, true, false, List, [], ◌∷◌, ◌++◌, arith, get_or, length, map, codes, append_assoc, nat_lt, Option, Some, None, lit<, not}
use Rattle.std.proofs.lemmas.Bool.Decides.{nat_tests}
use Rattle.std.proofs.lemmas.Fmt.{decimal_by_steps, decimal_is_IsNumeral, decimal_nonempty, length-decimal-le}
use Rattle.std.proofs.lemmas.List.{get_or_past}
use Rattle.std.proofs.lemmas.List.Elements.{All-weaker, All-append, All-cons}
use Rattle.std.proofs.lemmas.List.Folds.{list_all-append}
use Rattle.std.proofs.lemmas.List.Splits.{slice_split_at, slice_split_none}
use Rattle.std.proofs.lemmas.List.Sums.{AllPass-from_list_all}
use Rattle.std.specs.Char.{is_ascii_digit}
use Rattle.std.specs.Fmt.{decimal}
use Rattle.std.specs.List.{All, list_all, list_any, range_with_len, join_with_byte}
use Rattle.std.specs.Str.Parse.{digits_value}
use Rattle.std.specs.Result.{result_ok}
use Rattle.hex.proofs.HexLemmas.{length-encode_with, decode_sized-twice, decode_of-encode_upper}
use Rattle.hex.specs.Hex.{encode_upper, encode_with, upper_digits}
use Rattle.ed2k_link.proofs.Lists.{map_more, map_app}
use Rattle.percent_encoding.proofs.PercentLemmas.{All-percent_encode, IsEscapeByte, IsByte, round_trip}
use Rattle.percent_encoding.specs.AsciiSet.{contains}
use Rattle.percent_encoding.specs.Percent.{percent_decode}
use Rattle.part_sizes.specs.Part.{IsSize}
use Rattle.ed2k_link.proofs.Escapes.{encode_is_escaped, should_is}
use Rattle.ed2k_link.proofs.Letters.{table_at, letters_of_base32}
use Rattle.ed2k_link.specs.Base32.{base32, is_letter}
use Rattle.ed2k_link.specs.Fields.{hash_of, AreParts, IsRoot, part_texts, root_texts, WriteFields}
use Rattle.ed2k_link.specs.Grammar.{Link, Write, head, items_of, is_file}
use Rattle.ed2k_link.specs.Items.{split_at_bars, split_at_colons, is_end}
use Rattle.ed2k_link.specs.Name.{escaped, is_unreserved}
use Rattle.ed2k_link.specs.Printed.{bar, parts_field, root_field, printed, IsWritten}
use Rattle.ed2k_link.specs.Decimal.{is_numeral}
use Rattle.ed2k_link.specs.Size.{size_of, is_size}
use Rattle.ed2k_link.specs.declared.link.FileLink.{FileLink}
use Rattle.ed2k_link.specs.declared.name.TheConstants.{ESCAPES}

-- neither a bar nor a colon
abbrev pub is_clear : ℕ → Bool
is_clear c = not (c == 124 || c == 58)

abbrev pub IsClear : ℕ → Type 0
IsClear c = is_clear c ≡ true

no_bar : (c : ℕ) → IsClear c → (c == 124) ≡ false
no_bar c h = grind (arith, nat_tests, h)

no_colon : (c : ℕ) → IsClear c → (c == 58) ≡ false
no_colon c h = grind (arith, nat_tests, h)

kept_clear : (c : ℕ) → is_unreserved c ≡ true → IsClear c
kept_clear c h = grind (arith, nat_tests, h)

escape_clear : (c : ℕ) → IsEscapeByte c → IsClear c
escape_clear c h = grind (arith, nat_tests, h)

from_not : (a : Bool) → not a ≡ false → a ≡ true
from_not true h = refl
from_not false h = sym h

name_clear : (name : List ℕ) → All IsClear (escaped name)
name_clear name =
    rw (← encode_is_escaped name)
    (All-percent_encode IsClear ESCAPES name
    (λ b h. kept_clear b (from_not (is_unreserved b) (sym (should_is b) ∙ h))) escape_clear)

digit_clear : (c : ℕ) → is_ascii_digit c ≡ true → IsClear c
digit_clear c h = grind (arith, nat_tests, h)

is_digit_char : (d : ℕ) → d < 10 → is_ascii_digit (48 + d) ≡ true
is_digit_char d low = grind (arith, nat_tests)

last_digit : (n : ℕ) → n % 10 < 10
last_digit n = omega arith

pub decimal_digits : (n : ℕ) → n < 2 ^ 64 → list_all is_ascii_digit (decimal n) ≡ true
decimal_digits n small =
    decimal_by_steps (λ m ds. list_all is_ascii_digit ds ≡ true)
    (λ m low. rw (is_digit_char m low) refl)
    (λ m ds high h. list_all-append is_ascii_digit ds ((48 + m % 10) ∷ []) ∙ (rw (h, is_digit_char (m % 10) (last_digit m)) refl))
    n small

size_clear : (n : ℕ) → n < 2 ^ 64 → All IsClear (decimal n)
size_clear n small =
    All-weaker (λ c. is_ascii_digit c ≡ true) IsClear digit_clear (decimal n)
    (AllPass-from_list_all is_ascii_digit (decimal n) (decimal_digits n small))

digit_table : list_all (λ k. is_clear (get_or upper_digits k 0)) (range_with_len 0 16) ≡ true
digit_table = refl

upper_clear : (k : ℕ) → is_clear (get_or upper_digits k 0) ≡ true
upper_clear k = elim (nat_lt k 16) as (λ t. nat_lt k 16 ≡ t → is_clear (get_or upper_digits k 0) ≡ true) [
  | true ↦ λ h. table_at (λ m. is_clear (get_or upper_digits m 0)) 16 digit_table k (grind (arith, nat_tests, h))
  | false ↦ λ h. let past : length upper_digits ≤ k = grind (arith, nat_tests, h) in rw (get_or_past upper_digits k 0 past) refl
] refl

hex_clear : (bytes : List ℕ) → list_all is_clear (encode_upper bytes) ≡ true
unfolding encode_with
hex_clear [] = refl
hex_clear (b ∷ bytes) = rw (upper_clear (b / 16), upper_clear (b % 16), hex_clear bytes) refl

hash_clear : (bytes : List ℕ) → All IsClear (encode_upper bytes)
hash_clear bytes = AllPass-from_list_all is_clear (encode_upper bytes) (hex_clear bytes)

without_bar : (text : List ℕ) → All IsClear text → All (λ c. (c == 124) ≡ false) text
without_bar text h = All-weaker IsClear (λ c. (c == 124) ≡ false) no_bar text h

without_colon : (text : List ℕ) → All IsClear text → All (λ c. (c == 58) ≡ false) text
without_colon text h = All-weaker IsClear (λ c. (c == 58) ≡ false) no_colon text h

cut_bar : (text rest : List ℕ) → All (λ c. (c == 124) ≡ false) text → split_at_bars (text ++ 124 ∷ rest) ≡ text ∷ split_at_bars rest
cut_bar text rest free = slice_split_at (λ c. c == 124) text 124 rest free refl

-- the hashes between the colons are those that were joined
pub pieces_joined : (hash : List ℕ) (hashes : List (List ℕ)) → split_at_colons (join_with_byte 58 (map encode_upper (hash ∷ hashes))) ≡ map encode_upper (hash ∷ hashes)
pieces_joined hash [] = slice_split_none (λ c. c == 58) (encode_upper hash) (without_colon _ (hash_clear hash))
pieces_joined hash (next ∷ hashes) =
    slice_split_at (λ c. c == 58) (encode_upper hash) 58 (join_with_byte 58 (map encode_upper (next ∷ hashes))) (without_colon _ (hash_clear hash)) refl
    ∙ ap (λ rest. encode_upper hash ∷ rest) (pieces_joined next hashes)

joined_free : (hash : List ℕ) (hashes : List (List ℕ)) → All (λ c. (c == 124) ≡ false) (join_with_byte 58 (map encode_upper (hash ∷ hashes)))
joined_free hash [] = without_bar (encode_upper hash) (hash_clear hash)
joined_free hash (next ∷ hashes) =
    All-append (λ c. (c == 124) ≡ false) (encode_upper hash) (58 ∷ join_with_byte 58 (map encode_upper (next ∷ hashes)))
    (without_bar (encode_upper hash) (hash_clear hash))
    (All-cons (λ c. (c == 124) ≡ false) 58 (join_with_byte 58 (map encode_upper (next ∷ hashes))) refl (joined_free next hashes))

letter_free : (c : ℕ) → is_letter c ≡ true → (c == 124) ≡ false
letter_free c h = grind (arith, nat_tests, h)

letters_free : (text : List ℕ) → list_all is_letter text ≡ true → All (λ c. (c == 124) ≡ false) text
letters_free text h =
    All-weaker (λ c. is_letter c ≡ true) (λ c. (c == 124) ≡ false) letter_free text (AllPass-from_list_all is_letter text h)

-- the items of the two fields
abbrev pub part_items : List (List ℕ) → List (List ℕ)
part_items [] = []
part_items (hash ∷ hashes) = (codes "p=" ++ join_with_byte 58 (map encode_upper (hash ∷ hashes))) ∷ []

abbrev pub root_items : Option (List ℕ) → List (List ℕ)
root_items None = []
root_items (Some root) = (codes "h=" ++ base32 root) ∷ []

abbrev pub items_behind : List (List ℕ) → Option (List ℕ) → List (List ℕ)
items_behind parts root = part_items parts ++ (root_items root ++ (codes "/" ∷ []))

split_root : (root : Option (List ℕ)) → IsWritten root → split_at_bars (root_field root ++ codes "/") ≡ root_items root ++ (codes "/" ∷ [])
split_root None h = refl
split_root (Some root) h =
    let letters = letters_of_base32 (base32 root) h.letters in
    let free = All-cons (λ c. (c == 124) ≡ false) 104 (61 ∷ base32 root) refl
    (All-cons (λ c. (c == 124) ≡ false) 61 (base32 root) refl (letters_free (base32 root) letters)) in
    ap split_at_bars (append_assoc (codes "h=" ++ base32 root) bar (codes "/"))
    ∙ cut_bar (codes "h=" ++ base32 root) (codes "/") free

split_behind : (parts : List (List ℕ)) (root : Option (List ℕ)) → IsWritten root
    → split_at_bars (parts_field parts ++ (root_field root ++ codes "/")) ≡ items_behind parts root
split_behind [] root h = split_root root h
split_behind (hash ∷ hashes) root h =
    let joined = join_with_byte 58 (map encode_upper (hash ∷ hashes)) in
    let rest = root_field root ++ codes "/" in
    let free = All-cons (λ c. (c == 124) ≡ false) 112 (61 ∷ joined) refl
    (All-cons (λ c. (c == 124) ≡ false) 61 joined refl (joined_free hash hashes)) in
    ap split_at_bars (append_assoc (codes "p=" ++ joined) bar rest)
    ∙ cut_bar (codes "p=" ++ joined) rest free
    ∙ ap (λ items. (codes "p=" ++ joined) ∷ items) (split_root root h)

-- the values of the fields `p=`
abbrev pub joined_parts : List (List ℕ) → List (List ℕ)
joined_parts [] = []
joined_parts (hash ∷ hashes) = join_with_byte 58 (map encode_upper (hash ∷ hashes)) ∷ []

part_texts_are : (parts : List (List ℕ)) (root : Option (List ℕ)) → part_texts (items_behind parts root) ≡ joined_parts parts
part_texts_are [] None = refl
part_texts_are [] (Some root) = refl
part_texts_are (hash ∷ hashes) None = refl
part_texts_are (hash ∷ hashes) (Some root) = refl

-- the values of the fields `h=`
abbrev pub written_root : Option (List ℕ) → List (List ℕ)
written_root None = []
written_root (Some root) = base32 root ∷ []

root_texts_are : (parts : List (List ℕ)) (root : Option (List ℕ)) → root_texts (items_behind parts root) ≡ written_root root
root_texts_are [] None = refl
root_texts_are [] (Some root) = refl
root_texts_are (hash ∷ hashes) None = refl
root_texts_are (hash ∷ hashes) (Some root) = refl

ends : (parts : List (List ℕ)) (root : Option (List ℕ)) → list_any is_end (items_behind parts root) ≡ true
ends [] None = refl
ends [] (Some root) = refl
ends (hash ∷ hashes) None = refl
ends (hash ∷ hashes) (Some root) = refl

parts_read : (parts : List (List ℕ)) → map hash_of (map encode_upper parts) ≡ map Some parts → AreParts (joined_parts parts) parts
parts_read [] h = refl
parts_read (hash ∷ hashes) h = ap (map hash_of) (pieces_joined hash hashes) ∙ h

root_read : (root : Option (List ℕ)) → IsWritten root → IsRoot (written_root root) root
root_read None h = refl
root_read (Some root) h = h

fields_read : (parts : List (List ℕ)) (root : Option (List ℕ)) → map hash_of (map encode_upper parts) ≡ map Some parts → IsWritten root
    → WriteFields (items_behind parts root) parts root
fields_read parts root hashes written = record {
  part_hashes = rw (part_texts_are parts root) (parts_read parts hashes);
  root_hash = rw (root_texts_are parts root) (root_read root written);
  ended = ends parts root;
}

-- the printed form from the head on
body : FileLink → List ℕ
body link = escaped link.name ++ 124 ∷ (decimal link.size ++ 124 ∷ (encode_upper link.hash ++ 124 ∷ (parts_field link.parts ++ (root_field link.root ++ codes "/"))))

printed_is : (link : FileLink) → printed link ≡ head ++ body link
unfolding body
printed_is link = simp append_assoc

begins : (rest : List ℕ) → is_file (head ++ rest) ≡ true
begins rest = refl

behind_head : (rest : List ℕ) → items_of (head ++ rest) ≡ split_at_bars rest
behind_head rest = refl

split_body : (link : FileLink) → link.size < 2 ^ 64 → IsWritten link.root
    → split_at_bars (body link) ≡ escaped link.name ∷ decimal link.size ∷ encode_upper link.hash ∷ items_behind link.parts link.root
unfolding body
split_body link small written =
    cut_bar (escaped link.name) _ (without_bar (escaped link.name) (name_clear link.name))
    ∙ ap (λ items. escaped link.name ∷ items)
    (cut_bar (decimal link.size) _ (without_bar (decimal link.size) (size_clear link.size small))
    ∙ ap (λ items. decimal link.size ∷ items)
    (cut_bar (encode_upper link.hash) _ (without_bar (encode_upper link.hash) (hash_clear link.hash))
    ∙ ap (λ items. encode_upper link.hash ∷ items) (split_behind link.parts link.root written)))

size_read : (n : ℕ) → IsSize n → size_of (decimal n) ≡ Some n
size_read n within =
    let small : n < 2 ^ 64 = omega (arith, within.1) in
    let long : 1 ≤ length (decimal n) = decimal_nonempty n small in
    let short : length (decimal n) ≤ 20 = length-decimal-le 20 n (lit< tt) (omega (arith, within.1)) small in
    let digits = decimal_digits n small in
    let value : digits_value 10 (decimal n) ≡ n = (decimal_is_IsNumeral n small).1 in
    let numeral : is_numeral (decimal n) ≡ true = grind (arith, nat_tests, long, short, digits) in
    let size : is_size n ≡ true = grind (arith, nat_tests, within) in
    rw (numeral, value, size) refl

reserved_percent : contains ESCAPES 37 ≡ true
reserved_percent = refl

abbrev pub IsFile : List ℕ → Type 0
IsFile text = is_file text ≡ true

-- the printed form writes the link
pub printed_writes : (link : FileLink) → All IsByte link.name → hash_of (encode_upper link.hash) ≡ Some link.hash
    → map hash_of (map encode_upper link.parts) ≡ map Some link.parts → IsWritten link.root → Link (printed link) link
printed_writes link bytes hash parts root =
    let small : link.size < 2 ^ 64 = omega (arith, link.is_sized) in
    let items : items_of (printed link) ≡ escaped link.name ∷ decimal link.size ∷ encode_upper link.hash ∷ items_behind link.parts link.root =
    ap items_of (printed_is link) ∙ behind_head (body link) ∙ split_body link small root in
    let name : percent_decode (escaped link.name) ≡ link.name =
    rw (← encode_is_escaped link.name) (round_trip ESCAPES link.name reserved_percent bytes) in
    record {
      begun = subst IsFile (sym (printed_is link)) (begins (body link));
      items = subst (λ them. Write them link) (sym items) (record {
        file_name = name;
        file_size = size_read link.size link.is_sized;
        file_hash = hash;
        rest = fields_read link.parts link.root parts root;
      });
    }

-- a printed hash is read back
pub hash_back : (hash : List ℕ) → ((i : ℕ) → get_or hash i 0 < 256) → length hash ≡ 16 → hash_of (encode_upper hash) ≡ Some hash
hash_back hash bytes long =
    let twice : length (encode_upper hash) ≡ 2 * 16 = length-encode_with upper_digits hash ∙ ap (λ n. 2 * n) long in
    ap result_ok (decode_sized-twice (encode_upper hash) 16 twice ∙ decode_of-encode_upper hash bytes)

pub hashes_back : (hashes : List (List ℕ)) (i : ℕ) (d : List ℕ) → i < length hashes
    → map hash_of (map encode_upper (take i hashes)) ≡ map Some (take i hashes) → hash_of (encode_upper (get_or hashes i d)) ≡ Some (get_or hashes i d)
    → map hash_of (map encode_upper (take (i + 1) hashes)) ≡ map Some (take (i + 1) hashes)
hashes_back hashes i d within so_far here =
    let hash = get_or hashes i d in
    ap (map hash_of) (map_more encode_upper hashes i d within)
    ∙ map_app hash_of (map encode_upper (take i hashes)) (encode_upper hash ∷ [])
    ∙ rw (so_far, here) (sym (map_more (λ x. Some x) hashes i d within))
