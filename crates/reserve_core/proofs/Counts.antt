-- How many elements of a list pass a test, and that the choice takes no position twice.
use Rattle.std.proofs.Common.{◌≡◌, ℕ, zero, suc, ◌+◌, ◌-◌, ◌<◌, ◌≤◌, Bool, true, false, not, ◌&&◌, ◌==◌, nat_lt, List, [], ◌∷◌, ◌++◌, take, length, Option, Some, None, unwrap_or, find, refl, ap, subst, cond, arith, IsTrue}
use Rattle.std.specs.List.{filter, filter_map, flat_map, range_with_len, cons_option}
use Rattle.std.specs.Option.{option_map}
use Rattle.std.proofs.lemmas.Bool.Decides.{nat_tests}
use Rattle.part_sizes.specs.Block.{block_count, block_range, block_of}
use Rattle.part_sizes.specs.Part.{data_parts, part_of}
use Rattle.part_sizes.specs.Span.{has, positions}
use Rattle.part_sizes.specs.declared.span.Span.{Span}
use Rattle.part_sizes.proofs.Laws.{has_between, between_has, block_within, block_of_alone, part_of_alone, part_within}
use Rattle.reserve_core.specs.Choice.{run_from, first_run, is_available, runs_of, offered_parts, offers_part, offer_count, offerers, pick_of}
use Rattle.reserve_core.specs.Verdicts.{parts}
use Rattle.reserve_core.specs.declared.event.Event.{Event}
use Rattle.reserve_core.proofs.Lists.{EachPasses, AllPass, AllPass-take, AllPass-flat_map, AllPass-filter_map}

abbrev pub bit : Bool → ℕ
bit true = 1
bit false = 0

abbrev pub count : {X : Type 0} → (X → Bool) → List X → ℕ
count test [] = 0
count test (x ∷ xs) = bit (test x) + count test xs

pub bit-some : (b : Bool) → b ≡ true → bit b ≡ 1
bit-some b is = ap bit is

pub bit-none : (b : Bool) → b ≡ false → bit b ≡ 0
bit-none b is = ap bit is

bit-most : (b : Bool) → bit b ≤ 1
bit-most true = omega arith
bit-most false = omega arith

pub count-append : {X : Type 0} (test : X → Bool) (xs ys : List X) → count test (xs ++ ys) ≡ count test xs + count test ys
count-append test [] ys = omega arith
count-append test (x ∷ xs) ys = let more = count-append test xs ys in omega arith

pub count-filter : {X : Type 0} (test keep : X → Bool) (xs : List X) → count test (filter keep xs) ≤ count test xs
count-filter test keep [] = omega arith
count-filter test keep (x ∷ xs) =
    let rest = count-filter test keep xs in
    elim (keep x) as (λ b. count test (cond b (x ∷ filter keep xs) (filter keep xs)) ≤ bit (test x) + count test xs) [ true ↦ omega arith | false ↦ omega arith ]

-- nothing passes where what passes is left out
pub count-left_out : {X : Type 0} (test keep : X → Bool) → ((x : X) → test x ≡ true → keep x ≡ false) → (xs : List X) → count test (filter keep xs) ≡ 0
count-left_out test keep out [] = refl
count-left_out test keep out (x ∷ xs) =
    let rest = count-left_out test keep out xs in
    elim (test x) as (λ b. test x ≡ b → count test (filter keep (x ∷ xs)) ≡ 0) [
      | true ↦ λ is. rw (out x is) rest
      | false ↦ λ is. elim (keep x) as (λ b. count test (cond b (x ∷ filter keep xs) (filter keep xs)) ≡ 0) [
        | true ↦ let none = bit-none (test x) is in omega arith
        | false ↦ rest
      ]
    ] refl

pub count-take : {X : Type 0} (test : X → Bool) (k : ℕ) (xs : List X) → count test (take k xs) ≤ count test xs
count-take test zero xs = omega arith
count-take test (suc k) [] = omega arith
count-take test (suc k) (x ∷ xs) = let more = count-take test k xs in omega arith

count-flat : {X Y : Type 0} (test : Y → Bool) (f : X → List Y) (is : X → Bool) → ((x : X) → count test (f x) ≤ bit (is x)) → (xs : List X) → count test (flat_map f xs) ≤ count is xs
count-flat test f is each [] = omega arith
count-flat test f is each (x ∷ xs) = let here = each x in let more = count-flat test f is each xs in let e = count-append test (f x) (flat_map f xs) in omega arith

-- each number of a range is there once
count-past : (j from n : ℕ) → j < from → count (λ k. j == k) (range_with_len from n) ≡ 0
count-past j from zero below = refl
count-past j from (suc n) below =
    let test : (j == from) ≡ false = grind (arith, nat_tests) in
    let none = bit-none (j == from) test in
    let more = count-past j (from + 1) n (omega arith) in omega arith

count-range : (j from n : ℕ) → count (λ k. j == k) (range_with_len from n) ≤ 1
count-range j from zero = omega arith
count-range j from (suc n) =
    let most = bit-most (j == from) in
    let more = count-range j (from + 1) n in
    elim (j == from) as (λ b. (j == from) ≡ b → bit b + count (λ k. j == k) (range_with_len (from + 1) n) ≤ 1) [
      | true ↦ λ is. let at : j ≡ from = grind (arith, nat_tests) in let none = count-past j (from + 1) n (omega arith) in omega arith
      | false ↦ λ is. omega arith
    ] refl

-- the first run of a span lies in it
found : (p : ℕ → Bool) (from n x : ℕ) → find p (range_with_len from n) ≡ Some x → (from ≤ x) × (x < from + n)
found p from zero x is = absurd (cc)
found p from (suc n) x is =
    elim (p from) as (λ b. cond b (Some from) (find p (range_with_len (from + 1) n)) ≡ Some x → (from ≤ x) × (x < from + suc n)) [
      | true ↦ λ here. let at : from ≡ x = cc in (omega arith, omega arith)
      | false ↦ λ later. let more = found p (from + 1) n x later in (omega arith, omega arith)
    ] is

found_position : (p : ℕ → Bool) (r : Span) (x : ℕ) → find p (positions r) ≡ Some x → (r.s ≤ x) × (x < r.e)
unfolding positions
found_position p r x is = let at = found p r.s (r.e - r.s) x is in (omega arith, omega arith)

found_end : (p : ℕ → Bool) (r : Span) → unwrap_or (find p (positions r)) r.e ≤ r.e
found_end p r =
    elim (find p (positions r)) as (λ o. find p (positions r) ≡ o → unwrap_or o r.e ≤ r.e) [
      | None ↦ λ is. omega arith
      | Some x ↦ λ is. let at = found_position p r x is in omega arith
    ] refl

run_within : (passes : ℕ → Bool) (r : Span) (start x : ℕ) → r.s ≤ start → has (run_from passes r start) x ≡ true → has r x ≡ true
run_within passes r start x above here =
    let ends = between_has (run_from passes r start) x here in
    let most = found_end (λ y. not (passes y)) (record { s = start; e = r.e }) in
    has_between r x (omega arith) (omega arith)

first_run_within : (passes : ℕ → Bool) (r : Span) → EachPasses (has r) (first_run passes r)
first_run_within passes r =
    elim (find passes (positions r)) as (λ o. find passes (positions r) ≡ o → EachPasses (has r) (option_map (run_from passes r) o)) [
      | None ↦ λ is. tt
      | Some start ↦ λ is x here. let at = found_position passes r start is in run_within passes r start x at.0 here
    ] refl

bit-le : (a b : Bool) → (a ≡ true → b ≡ true) → bit a ≤ bit b
bit-le true b gives = let one = bit-some b (gives refl) in omega arith
bit-le false b gives = omega arith

count-filter_map : (x : ℕ) (f : ℕ → Option Span) (is : ℕ → Bool) → ((k : ℕ) (r : Span) → f k ≡ Some r → has r x ≡ true → is k ≡ true) → (ks : List ℕ) → count (λ s. has s x) (filter_map f ks) ≤ count is ks
count-filter_map x f is each [] = omega arith
count-filter_map x f is each (k ∷ ks) =
    let rest = count-filter_map x f is each ks in
    elim (f k) as (λ o. f k ≡ o → count (λ s. has s x) (cons_option o (filter_map f ks)) ≤ bit (is k) + count is ks) [
      | None ↦ λ e. omega arith
      | Some r ↦ λ e. let here = bit-le (has r x) (is k) (each k r e) in omega arith
    ] refl

count-none : {X : Type 0} (xs : List X) → count (λ x. false) xs ≡ 0
count-none [] = refl
count-none (x ∷ xs) = let rest = count-none xs in omega arith

count-both : (b : Bool) (j from n : ℕ) → count (λ k. b && (j == k)) (range_with_len from n) ≤ bit b
count-both true j from n = count-range j from n
count-both false j from n = let none = count-none (range_with_len from n) in omega arith

-- a run of a block is of its part and its block
run_of_block : (n : ℕ) (h : List Event) (x i k : ℕ) (q : Span) → first_run (is_available n h) (block_range n i k) ≡ Some q → has q x ≡ true → ((part_of x == i) && (block_of x == k)) ≡ true
run_of_block n h x i k q is here =
    let within : EachPasses (has (block_range n i k)) (Some q) = subst (λ (o : Option Span). EachPasses (has (block_range n i k)) o) is (first_run_within (is_available n h) (block_range n i k)) in
    let block : IsTrue (has (block_range n i k) x) = within x here in
    let one : part_of x ≡ i = part_of_alone n i x (block_within n i k x block) in
    let two : block_of x ≡ k = block_of_alone n i k x block in
    grind (arith, nat_tests)

runs_once : (n : ℕ) (h : List Event) (x i : ℕ) → count (λ s. has s x) (runs_of n h i) ≤ bit (part_of x == i)
runs_once n h x i =
    let some = count-filter_map x (λ k. first_run (is_available n h) (block_range n i k)) (λ k. (part_of x == i) && (block_of x == k)) (λ k q is here. run_of_block n h x i k q is here) (range_with_len 0 (block_count n i)) in
    let most = count-both (part_of x == i) (block_of x) 0 (block_count n i) in
    omega arith

-- a part is offered once
kept_out : (offers : Bool) (c d : ℕ) → (c == d) ≡ false → (offers && (c == d)) ≡ false
kept_out offers c d is = grind (arith, nat_tests)

offered_with : (n : ℕ) (h : List Event) (p j c : ℕ) → count (λ i. j == i) (filter (λ i. offers_part h p i && (offer_count h i == c)) (parts n)) ≤ bit (offer_count h j == c)
offered_with n h p j c =
    elim (offer_count h j == c) as (λ b. (offer_count h j == c) ≡ b → count (λ i. j == i) (filter (λ i. offers_part h p i && (offer_count h i == c)) (parts n)) ≤ bit b) [
      | true ↦ λ is. let all = count-filter (λ i. j == i) (λ i. offers_part h p i && (offer_count h i == c)) (parts n) in let most = count-range j 0 (data_parts n) in omega arith
      | false ↦ λ is. let none = count-left_out (λ i. j == i) (λ i. offers_part h p i && (offer_count h i == c)) (λ i here. let at : j ≡ i = grind (arith, nat_tests) in subst (λ (k : ℕ). (offers_part h p k && (offer_count h k == c)) ≡ false) at (kept_out (offers_part h p j) (offer_count h j) c is)) (parts n) in omega arith
    ] refl

offered_once : (n : ℕ) (h : List Event) (p j : ℕ) → count (λ i. j == i) (offered_parts n h p) ≤ 1
offered_once n h p j =
    let all = count-flat (λ i. j == i) (λ c. filter (λ i. offers_part h p i && (offer_count h i == c)) (parts n)) (λ c. offer_count h j == c) (offered_with n h p j) (range_with_len 0 (length (offerers h) + 1)) in
    let most = count-range (offer_count h j) 0 (length (offerers h) + 1) in
    omega arith

pub pick_once : (n : ℕ) (h : List Event) (p x : ℕ) → count (λ s. has s x) (pick_of n h p) ≤ 1
pick_once n h p x =
    let front = count-take (λ s. has s x) 3 (flat_map (runs_of n h) (offered_parts n h p)) in
    let all = count-flat (λ s. has s x) (runs_of n h) (λ i. part_of x == i) (runs_once n h x) (offered_parts n h p) in
    let most = offered_once n h p (part_of x) in
    omega arith

block_in_file : (n i k x : ℕ) → has (block_range n i k) x ≡ true → nat_lt x n ≡ true
block_in_file n i k x here =
    let within : x < n = part_within n i x (block_within n i k x here) in grind (arith, nat_tests)

each-in_file : (n i k : ℕ) (o : Option Span) → EachPasses (has (block_range n i k)) o → EachPasses (λ x. nat_lt x n) o
each-in_file n i k None each = tt
each-in_file n i k (Some q) each = λ x here. block_in_file n i k x (each x here)

pub pick_within : (n : ℕ) (h : List Event) (p : ℕ) → AllPass (λ x. nat_lt x n) (pick_of n h p)
pick_within n h p =
    AllPass-take (λ x. nat_lt x n) 3 (flat_map (runs_of n h) (offered_parts n h p))
    (AllPass-flat_map (λ x. nat_lt x n) (runs_of n h)
    (λ i. AllPass-filter_map (λ x. nat_lt x n) (λ k. first_run (is_available n h) (block_range n i k))
    (λ k. each-in_file n i k (first_run (is_available n h) (block_range n i k)) (first_run_within (is_available n h) (block_range n i k))) (range_with_len 0 (block_count n i)))
    (offered_parts n h p))
