-- Members put together, and sets that are the part hashes of some bytes.
use Rattle.std.proofs.Common.{arith, ◌≡◌, sym, ◌∙◌, ap, ℕ, ◌+◌, ◌-◌, ◌*◌, ◌/◌, ◌%◌, ◌<◌, ◌≤◌, List, [], ◌∷◌, ◌++◌, length, take, get_or, nat_lt, false, if◌then◌else◌, Bool, inl, inr}
use Rattle.std.proofs.lemmas.Bool.{cases_lt}
use Rattle.std.proofs.lemmas.Bool.Decides.{nat_tests}
use Rattle.std.proofs.lemmas.Grind.{flat_map-append}
use Rattle.std.proofs.lemmas.List.{take_more, append-nil, ext_get_or, drop_all}
use Rattle.std.proofs.lemmas.List.FromFn.{get_or-map-range_with_len, length-map-range_with_len}
use Rattle.md4_hash.specs.Md4.{md4}
use Rattle.part_sizes.specs.Part.{part, data_parts, hash_count}
use Rattle.part_sizes.specs.declared.part.TheConstants.{PART}
use Rattle.part_hashset.specs.HashSet.{set_of, joined, IsWholeSet}
use Rattle.part_hashset.specs.HashSetLaws.{IsSetOfParts, MembersGiveHash}

pub joined_more : (set : List (List ℕ)) (i : ℕ) → i < length set → joined (take (i + 1) set) ≡ joined (take i set) ++ get_or set i []
joined_more set i below =
    ap joined (take_more set i [] below)
    ∙ flat_map-append (λ member. member) (take i set) (get_or set i [] ∷ [])
    ∙ ap (λ (end : List ℕ). joined (take i set) ++ end) (append-nil (get_or set i []))

-- past the parts that exist stands one empty part at most, where the size is a whole multiple
is_past : (n i : ℕ) → PART ≤ n → i < n / PART + 1 → data_parts n ≤ i → (n % PART ≡ 0) × (i ≡ n / PART) × (i * PART ≡ n)
is_past n i large below past = (omega arith, omega arith, omega arith)

empty_part : (bytes : List ℕ) (i : ℕ) → i * PART ≡ length bytes → part bytes i ≡ []
empty_part bytes i at_end = ap (λ (rest : List ℕ). take PART rest) (drop_all (i * PART) bytes (omega (arith, at_end)))

count_of_whole : (n : ℕ) → PART ≤ n → hash_count n ≡ n / PART + 1
count_of_whole n large = grind (arith, nat_tests)

member_is : (hash bytes : List ℕ) (set : List (List ℕ)) → PART ≤ length bytes → IsWholeSet (length bytes) hash set → IsSetOfParts set bytes
    → (i : ℕ) → i < length set → get_or set i [] ≡ md4 (part bytes i)
member_is hash bytes set large valid parts i below =
    elim (cases_lt i (data_parts (length bytes))) [
      | inl within ↦ parts i within
      | inr past ↦
          let counted = valid.count ∙ count_of_whole (length bytes) large in
          let end = is_past (length bytes) i large (omega (arith, counted)) past in
          let last : i ≡ length set - 1 = omega (arith, counted, end.1) in
          ap (λ (k : ℕ). get_or set k []) last ∙ valid.empty_part end.0 ∙ sym (ap md4 (empty_part bytes i end.2))
    ]

is_set_of : (hash bytes : List ℕ) (set : List (List ℕ)) → PART ≤ length bytes → IsWholeSet (length bytes) hash set → IsSetOfParts set bytes
    → set ≡ set_of bytes
is_set_of hash bytes set large valid parts =
    let n = hash_count (length bytes) in
    ext_get_or [] set (set_of bytes)
    (valid.count ∙ sym (length-map-range_with_len (λ i. md4 (part bytes i)) 0 n))
    (λ i below.
    member_is hash bytes set large valid parts i below
    ∙ sym (get_or-map-range_with_len (λ i. md4 (part bytes i)) 0 n i i [] (omega (arith, valid.count)) (omega arith)))

pub members_give_hash : MembersGiveHash
members_give_hash hash bytes set large valid parts =
    let whole = valid.whole large in
    let same = is_set_of hash bytes set large whole parts in
    let at_least : nat_lt (length bytes) PART ≡ false = grind (arith, nat_tests) in
    let hashed : md4 (joined (set_of bytes)) ≡ hash = sym (ap (λ (members : List (List ℕ)). md4 (joined members)) same) ∙ whole.hashed in
    ap (λ (b : Bool). if b then md4 bytes else md4 (joined (set_of bytes))) at_least ∙ hashed
