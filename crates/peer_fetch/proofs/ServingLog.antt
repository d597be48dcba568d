-- The log of a session that is served: the kept set is the file's, and each full part has its own digest as its
-- verdict. So nothing is refused.
use Rattle.std.proofs.Common.{◌≡◌, ℕ, zero, suc, ◌+◌, ◌-◌, ◌*◌, ◌/◌, ◌%◌, ◌<◌, ◌≤◌, Bool, true, false, not, ◌&&◌, ◌==◌, nat_lt, nat_le, List, [], ◌∷◌, ◌++◌, length, take, get_or, cond, if◌then◌else◌, Option, None, Some, is_none, find, count_by, refl, ap, sym, ◌∙◌, arith, take_all}
use Rattle.std.specs.Bool.{then_some}
use Rattle.std.specs.List.{list_all, list_any, range_with_len, slice_get}
use Rattle.std.specs.Option.{option_map}
use Rattle.std.specs.Str.{bytes_eq}
use Rattle.std.proofs.lemmas.Bool.Decides.{nat_tests}
use Rattle.std.proofs.lemmas.List.{drop_all, get_or-map, length-map}
use Rattle.std.proofs.lemmas.List.FromFn.{get_or-range_with_len, length-range_with_len}
use Rattle.std.proofs.lemmas.List.Sums.{sum_by-cons}
use Rattle.std.proofs.lemmas.Option.{slice_get-get_or}
use Rattle.std.proofs.lemmas.Slice.Eq.{bytes_eq-Decides}
use Rattle.md4_hash.specs.Md4.{md4}
use Rattle.part_hashset.specs.HashSet.{ed2k, joined, last_member, set_fault, set_of}
use Rattle.part_hashset.specs.declared.aim.Aim.{Aim}
use Rattle.part_hashset.specs.declared.check.SetFault.{SetFault}
use Rattle.part_hashset.specs.declared.check.SetFault.TheVariants.{Count, EmptyPart, Mismatch}
use Rattle.part_sizes.specs.Part.{part, data_parts, hash_count}
use Rattle.part_sizes.specs.declared.part.TheConstants.{PART}
use Rattle.part_sizes.specs.declared.span.Span.{Span}
use Rattle.part_sizes.proofs.Laws.{data_parts_hashed}
use Rattle.reserve_core.specs.Refusals.{first_cause, no_spans, refusal}
use Rattle.reserve_core.specs.Choice.{pick_of}
use Rattle.reserve_core.specs.Desk.{verdict_on}
use Rattle.reserve_core.specs.Filled.{first_unfilled, is_full, is_part_uncommitted}
use Rattle.reserve_core.specs.Tells.{is_recovered}
use Rattle.part_hashset.specs.Goals.{is_nil, is_wanted}
use Rattle.reserve_core.specs.Verdicts.{cheats, goal, is_failure, is_verified, is_worn, kept_set, lacks_set, parts, verdict_of}
use Rattle.reserve_core.specs.declared.event.Event.{Event}
use Rattle.reserve_core.specs.declared.event.Event.TheVariants.{Hashes, Reserve, Verdict}
use Rattle.reserve_core.specs.declared.fault.DeskFault.TheVariants.{AlreadySet, Already, Cheat, NoBlock, NoSet, NotCommitted, NotFull, NotNeeded, Set, Worn}
use Rattle.reserve_core.specs.declared.verdict.Verdict.TheVariants.{Verified}
use Rattle.reserve_core.proofs.Counted.{nobody-cheats}

-- the file has the link's size and hash
pub record IsFile (aim : Aim) (file : List ℕ) : Type 0 where
  pub whole : length file ≡ aim.size
  pub hash : ed2k file ≡ aim.hash

-- the file's own set

same_bytes : (xs : List ℕ) → bytes_eq xs xs ≡ true
same_bytes xs = (bytes_eq-Decides xs xs).1 refl

pub ours : (xs ys : List ℕ) → xs ≡ ys → bytes_eq xs ys ≡ true
ours xs ys same = (bytes_eq-Decides xs ys).1 same

pub length-set_of : (file : List ℕ) → length (set_of file) ≡ hash_count (length file)
length-set_of file =
    length-map (range_with_len 0 (hash_count (length file))) (λ i. md4 (part file i)) ∙ length-range_with_len 0 (hash_count (length file))

member : (file : List ℕ) (i : ℕ) → i < hash_count (length file) → get_or (set_of file) i [] ≡ md4 (part file i)
member file i below =
    let long = length-range_with_len 0 (hash_count (length file)) in
    get_or-map (λ j. md4 (part file j)) (range_with_len 0 (hash_count (length file))) i 0 [] (omega arith)
    ∙ ap (λ j. md4 (part file j)) (get_or-range_with_len 0 (hash_count (length file)) i 0 below ∙ omega arith)

hashed_from : (n : ℕ) → PART ≤ n → hash_count n ≡ n / PART + 1
hashed_from n large = grind (arith, nat_tests)

past_the_end : (file : List ℕ) (i : ℕ) → length file ≤ i * PART → part file i ≡ []
past_the_end file i past = ap (take PART) (drop_all (i * PART) file past)

whole_multiple : (n : ℕ) → n % PART ≡ 0 → n / PART * PART ≡ n
whole_multiple n none = omega arith

last_is_empty : (file : List ℕ) → PART ≤ length file → length file % PART ≡ 0 → last_member (set_of file) ≡ md4 []
last_is_empty file large none =
    let count = hashed_from (length file) large in
    let last : length (set_of file) - 1 ≡ length file / PART = omega (arith, length-set_of file) in
    ap (λ i. get_or (set_of file) i []) last
    ∙ member file (length file / PART) (omega arith)
    ∙ ap md4 (past_the_end file (length file / PART) (omega (arith, whole_multiple (length file) none)))

-- no test of a set fails
no_fault : (count small multiple hashes : Bool) (a b c : SetFault) → count ≡ true → small ≡ false → multiple ≡ false → hashes ≡ true
    → (if not count then Some a else if small then None else if multiple then Some b else if hashes then None else Some c) ≡ None
no_fault true false false true a b c one two three four = refl
no_fault false small multiple hashes a b c one two three four = absurd (cc)
no_fault true true multiple hashes a b c one two three four = absurd (cc)
no_fault true false true hashes a b c one two three four = absurd (cc)
no_fault true false false false a b c one two three four = absurd (cc)

no_empty : (multiple same : Bool) → (multiple ≡ true → same ≡ true) → (multiple && not same) ≡ false
no_empty true same is = ap not (is refl)
no_empty false same is = refl

large_hash : (file : List ℕ) → PART ≤ length file → ed2k file ≡ md4 (joined (set_of file))
large_hash file large =
    let test : nat_lt (length file) PART ≡ false = grind (arith, nat_tests) in
    ap (λ (b : Bool). if b then md4 file else md4 (joined (set_of file))) test

small_hash : (file : List ℕ) → length file < PART → ed2k file ≡ md4 file
small_hash file small =
    let test : nat_lt (length file) PART ≡ true = grind (arith, nat_tests) in
    ap (λ (b : Bool). if b then md4 file else md4 (joined (set_of file))) test

pub set_is_valid : (aim : Aim) (file : List ℕ) → IsFile aim file → PART ≤ aim.size → set_fault aim.size aim.hash (set_of file) ≡ None
set_is_valid aim file is large =
    let whole = is.whole in
    let long : PART ≤ length file = omega arith in
    let count : length (set_of file) ≡ hash_count aim.size = length-set_of file ∙ ap hash_count whole in
    let counted : (length (set_of file) == hash_count aim.size) ≡ true = grind (arith, nat_tests) in
    let small : nat_lt aim.size PART ≡ false = grind (arith, nat_tests) in
    let hashes : bytes_eq (md4 (joined (set_of file))) aim.hash ≡ true = ours (md4 (joined (set_of file))) aim.hash (sym (large_hash file long) ∙ is.hash) in
    no_fault (length (set_of file) == hash_count aim.size) (nat_lt aim.size PART) (aim.size % PART == 0 && not (bytes_eq (last_member (set_of file)) (md4 []))) (bytes_eq (md4 (joined (set_of file))) aim.hash)
    (Count (length (set_of file)) (hash_count aim.size)) (EmptyPart (last_member (set_of file))) (Mismatch (md4 (joined (set_of file))))
    counted small
    (no_empty (aim.size % PART == 0) (bytes_eq (last_member (set_of file)) (md4 []))
    (λ multiple. ours (last_member (set_of file)) (md4 []) (last_is_empty file long (ap (λ k. k % PART) whole ∙ rest_none (aim.size % PART) multiple))))
    hashes
  where
    rest_none : (k : ℕ) → (k == 0) ≡ true → k ≡ 0
    rest_none k test = grind (arith, nat_tests)

pub set_some : (aim : Aim) (file : List ℕ) → IsFile aim file → PART ≤ aim.size → is_nil (set_of file) ≡ false
set_some aim file is large =
    let whole = is.whole in
    let count = hashed_from (length file) (omega arith) in
    let long : 0 < length (set_of file) = omega (arith, length-set_of file) in
    not_nil (set_of file) long
  where
    not_nil : (set : List (List ℕ)) → 0 < length set → is_nil set ≡ false
    not_nil [] some = absurd (omega arith)
    not_nil (x ∷ xs) some = refl

-- the digest that a part is to have is its own

only_part : (n i : ℕ) → n < PART → i < data_parts n → i ≡ 0
only_part n i small exists = omega arith

whole_part : (file : List ℕ) (i : ℕ) → length file < PART → i ≡ 0 → part file i ≡ file
whole_part file i small first = ap (λ j. part file j) first ∙ take_all PART file (omega arith)

own_goal : (aim : Aim) (file : List ℕ) (set : List (List ℕ)) (i : ℕ) (small : Bool) → nat_lt aim.size PART ≡ small → IsFile aim file → (PART ≤ aim.size → set ≡ set_of file) → i < data_parts aim.size
    → (if small then Some aim.hash else slice_get set i) ≡ Some (md4 (part file i))
own_goal aim file set i true test is kept exists =
    let whole = is.whole in
    let small : aim.size < PART = grind (arith, nat_tests) in
    let short : length file < PART = omega arith in
    ap Some (sym is.hash ∙ small_hash file short ∙ ap md4 (sym (whole_part file i short (only_part aim.size i small exists))))
own_goal aim file set i false test is kept exists =
    let whole = is.whole in
    let large : PART ≤ aim.size = grind (arith, nat_tests) in
    let hashed = data_parts_hashed aim.size large in
    let counted : hash_count (length file) ≡ hash_count aim.size = ap hash_count whole in
    let below : i < hash_count (length file) = omega arith in
    ap (λ (xs : List (List ℕ)). slice_get xs i) (kept large)
    ∙ slice_get-get_or (set_of file) i [] (omega (arith, length-set_of file))
    ∙ ap Some (member file i below)

pub goal_is : (aim : Aim) (file : List ℕ) (h : List Event) (i : ℕ) → IsFile aim file → (PART ≤ aim.size → kept_set h ≡ set_of file) → i < data_parts aim.size → goal aim h i ≡ Some (md4 (part file i))
goal_is aim file h i is kept exists = own_goal aim file (kept_set h) i (nat_lt aim.size PART) refl is kept exists

-- each verdict of the log is the digest of its own part
abbrev pub IsRight : List ℕ → Event → Type 0
IsRight file (Verdict i digest) = digest ≡ md4 (part file i)
IsRight file _ = Unit {0}

abbrev pub AreRight : List ℕ → List Event → Type 0
AreRight file [] = Unit {0}
AreRight file (e ∷ h) = IsRight file e × AreRight file h

pub right_push : (file : List ℕ) (h : List Event) (e : Event) → AreRight file h → IsRight file e → AreRight file (h ++ e ∷ [])
right_push file [] e right one = (one, tt)
right_push file (first ∷ h) e right one = (right.0, right_push file h e right.1 one)

pub record Sound (aim : Aim) (file : List ℕ) (h : List Event) : Type 0 where
  pub right : AreRight file h
  pub unrecovered : list_any is_recovered h ≡ false
  pub set : PART ≤ aim.size → kept_set h ≡ set_of file
  pub judged : (i : ℕ) → i < data_parts aim.size → verdict_of h i ≡ then_some (is_full aim.size h i) (md4 (part file i))

-- no part failed

not_failure : (file : List ℕ) (i j : ℕ) (digest : List ℕ) (own : Bool) → (j == i) ≡ own → digest ≡ md4 (part file j) → (own && not (bytes_eq digest (md4 (part file i)))) ≡ false
not_failure file i j digest true test is =
    let same : j ≡ i = grind (arith, nat_tests) in
    ap not (ours digest (md4 (part file i)) (is ∙ ap (λ k. md4 (part file k)) same))
not_failure file i j digest false test is = refl

no_failure : (file : List ℕ) (i : ℕ) (e : Event) → IsRight file e → is_failure (Some (md4 (part file i))) i e ≡ false
no_failure file i (Verdict j digest) right = not_failure file i j digest (j == i) refl right
no_failure file i _ right = refl

no_failures : (file : List ℕ) (i : ℕ) (h : List Event) → AreRight file h → count_by (is_failure (Some (md4 (part file i))) i) h ≡ 0
no_failures file i [] right = refl
no_failures file i (e ∷ h) right =
    let one : ℕ = cond (is_failure (Some (md4 (part file i))) i e) 1 0 in
    let here : one ≡ 0 = ap {B = ℕ} (λ (b : Bool). cond b 1 0) (no_failure file i e right.0) in
    let later : count_by (is_failure (Some (md4 (part file i))) i) h ≡ 0 = no_failures file i h right.1 in
    let both : count_by (is_failure (Some (md4 (part file i))) i) (e ∷ h) ≡ one + count_by (is_failure (Some (md4 (part file i))) i) h = sum_by-cons (λ (x : Event). cond (is_failure (Some (md4 (part file i))) i x) 1 0) e h in
    none_both one (count_by (is_failure (Some (md4 (part file i))) i) h) (count_by (is_failure (Some (md4 (part file i))) i) (e ∷ h)) here later both
  where
    none_both : (a b c : ℕ) → a ≡ 0 → b ≡ 0 → c ≡ a + b → c ≡ 0
    none_both a b c one two three = omega arith

unworn : (aim : Aim) (file : List ℕ) (h : List Event) (i : ℕ) → IsFile aim file → Sound aim file h → i < data_parts aim.size → is_worn aim h i ≡ false
unworn aim file h i is sound exists =
    ap (λ (wanted : Option (List ℕ)). nat_le 8 (count_by (is_failure wanted i) h)) (goal_is aim file h i is sound.set exists)
    ∙ ap (nat_le 8) (no_failures file i h sound.right)

found_none : (test : ℕ → Bool) (from n : ℕ) → ((x : ℕ) → x < from + n → test x ≡ false) → find test (range_with_len from n) ≡ None
found_none test from zero none = refl
found_none test from (suc n) none = rw (none from (omega arith)) (found_none test (from + 1) n (λ x below. none x (omega arith)))

none_worn : (aim : Aim) (file : List ℕ) (h : List Event) → IsFile aim file → Sound aim file h → find (is_worn aim h) (parts aim.size) ≡ None
none_worn aim file h is sound = found_none (is_worn aim h) 0 (data_parts aim.size) (λ i exists. unworn aim file h i is sound (omega arith))

-- a set is kept where one is needed

lacks_none : (aim : Aim) (file : List ℕ) (h : List Event) (large : Bool) → nat_le PART aim.size ≡ large → IsFile aim file → (PART ≤ aim.size → kept_set h ≡ set_of file) → (large && is_nil (kept_set h)) ≡ false
lacks_none aim file h true test is kept =
    let large : PART ≤ aim.size = grind (arith, nat_tests) in
    ap is_nil (kept large) ∙ set_some aim file is large
lacks_none aim file h false test is kept = refl

pub has_set : (aim : Aim) (file : List ℕ) (h : List Event) → IsFile aim file → (PART ≤ aim.size → kept_set h ≡ set_of file) → lacks_set aim.size h ≡ false
has_set aim file h is kept = lacks_none aim file h (nat_le PART aim.size) refl is kept

-- what is reserved is refused only where nothing is left to choose

no_cause : (a : Bool) (b : Option ℕ) (c d : Bool) → a ≡ false → b ≡ None → c ≡ false → first_cause (then_some a Cheat ∷ option_map Worn b ∷ then_some c NoSet ∷ then_some d NoBlock ∷ []) ≡ first_cause (then_some d NoBlock ∷ [])
no_cause false None false d honest unworn set = refl
no_cause true b c d honest unworn set = absurd (cc)
no_cause false (Some x) c d honest unworn set = absurd (cc)
no_cause false None true d honest unworn set = absurd (cc)

pub reserve_refusal : (aim : Aim) (file : List ℕ) (h : List Event) (p : ℕ) (spans : List Span) → IsFile aim file → Sound aim file h → refusal aim h (Reserve p spans) ≡ first_cause (then_some (no_spans (pick_of aim.size h p)) NoBlock ∷ [])
reserve_refusal aim file h p spans is sound =
    no_cause (cheats aim.size h p) (find (is_worn aim h) (parts aim.size)) (lacks_set aim.size h) (no_spans (pick_of aim.size h p))
    (nobody-cheats aim.size h p sound.unrecovered) (none_worn aim file h is sound) (has_set aim file h is sound.set)

-- a set is refused only where one is there or isn't needed

no_set_cause : (a b : Bool) (c : Option SetFault) → a ≡ false → b ≡ false → c ≡ None → first_cause (then_some a NotNeeded ∷ then_some b AlreadySet ∷ option_map Set c ∷ []) ≡ None
no_set_cause false false None needed absent valid = refl
no_set_cause true b c needed absent valid = absurd (cc)
no_set_cause false true c needed absent valid = absurd (cc)
no_set_cause false false (Some x) needed absent valid = absurd (cc)

pub hashes_refusal : (aim : Aim) (file : List ℕ) (h : List Event) → IsFile aim file → PART ≤ aim.size → is_nil (kept_set h) ≡ true → refusal aim h (Hashes (set_of file)) ≡ None
hashes_refusal aim file h is large none =
    let needed : nat_lt aim.size PART ≡ false = grind (arith, nat_tests) in
    no_set_cause (nat_lt aim.size PART) (not (is_nil (kept_set h))) (set_fault aim.size aim.hash (set_of file)) needed (ap not none) (set_is_valid aim file is large)

-- a part that is full and not judged is judged, and its digest is the one that is wanted

no_judge_cause : (a : Option ℕ) (b c : Bool) (d : Option (List ℕ)) → a ≡ None → b ≡ false → c ≡ false → d ≡ None → first_cause (option_map NotFull a ∷ then_some b NotCommitted ∷ then_some c NoSet ∷ option_map Already d ∷ []) ≡ None
no_judge_cause None false false None full committed set unjudged = refl
no_judge_cause (Some x) b c d full committed set unjudged = absurd (cc)
no_judge_cause None true c d full committed set unjudged = absurd (cc)
no_judge_cause None false true d full committed set unjudged = absurd (cc)
no_judge_cause None false false (Some x) full committed set unjudged = absurd (cc)

pub verdict_refusal : (aim : Aim) (file : List ℕ) (h : List Event) (i : ℕ) (digest : List ℕ) → IsFile aim file → (PART ≤ aim.size → kept_set h ≡ set_of file)
    → is_full aim.size h i ≡ true → is_part_uncommitted aim.size h i ≡ false → verdict_of h i ≡ None → refusal aim h (Verdict i digest) ≡ None
verdict_refusal aim file h i digest is kept full committed unjudged =
    no_judge_cause (first_unfilled aim.size h i) (is_part_uncommitted aim.size h i) (lacks_set aim.size h) (verdict_of h i)
    (found_nothing (first_unfilled aim.size h i) full) committed (has_set aim file h is kept) unjudged
  where
    found_nothing : (o : Option ℕ) → is_none o ≡ true → o ≡ None
    found_nothing None none = refl
    found_nothing (Some x) none = absurd (cc)

pub verdict_is : (aim : Aim) (file : List ℕ) (h : List Event) (i : ℕ) (digest : List ℕ) → IsFile aim file → (PART ≤ aim.size → kept_set h ≡ set_of file) → i < data_parts aim.size → digest ≡ md4 (part file i) → verdict_on aim h i digest ≡ Verified
verdict_is aim file h i digest is kept exists own =
    let wanted : is_wanted (goal aim h i) digest ≡ true = ap (λ (o : Option (List ℕ)). is_wanted o digest) (goal_is aim file h i is kept exists) ∙ ours digest (md4 (part file i)) own in
    rw wanted refl

-- a whole file is verified

all_within : (test : ℕ → Bool) (from n : ℕ) → ((x : ℕ) → x < from + n → test x ≡ true) → list_all test (range_with_len from n) ≡ true
all_within test from zero each = refl
all_within test from (suc n) each = rw (each from (omega arith)) (all_within test (from + 1) n (λ x below. each x (omega arith)))

passes_own : (aim : Aim) (file : List ℕ) (h : List Event) (i : ℕ) → IsFile aim file → Sound aim file h → i < data_parts aim.size → is_full aim.size h i ≡ true → is_verified aim h i ≡ true
passes_own aim file h i is sound exists full =
    let wanted = goal_is aim file h i is sound.set exists in
    let told : verdict_of h i ≡ Some (md4 (part file i)) = sound.judged i exists ∙ ap (λ (b : Bool). then_some b (md4 (part file i))) full in
    rw (wanted, told) (same_bytes (md4 (part file i)))

pub all_verified : (aim : Aim) (file : List ℕ) (h : List Event) → IsFile aim file → Sound aim file h → ((i : ℕ) → i < data_parts aim.size → is_full aim.size h i ≡ true) → list_all (is_verified aim h) (parts aim.size) ≡ true
all_verified aim file h is sound full = all_within (is_verified aim h) 0 (data_parts aim.size) (λ i below. let exists : i < data_parts aim.size = omega arith in passes_own aim file h i is sound exists (full i exists))
