-- Filters, maps and tests of lists.
use Rattle.std.proofs.Common.{◌≡◌, ℕ, ◌+◌, ◌-◌, ◌<◌, ◌≤◌, Bool, true, false, ◌&&◌, ◌||◌, List, [], ◌∷◌, ◌++◌, take, Option, Some, None, unwrap_or, find, refl, ap, ◌∙◌, subst, arith, zero, suc, inl, inr, cond, length, drop, map, slice_index_or, sym}
use Rattle.std.specs.List.{list_any, list_all, filter_map, flat_map, range_with_len, cons_option}
use Rattle.std.proofs.lemmas.List.{append-nil, drop_all, ext_get_or, get_or-map, length-map, take_all}
use Rattle.std.proofs.lemmas.Bool.{cases_eq}
use Rattle.byte_ranges.specs.Spans.{Each}
use Rattle.part_sizes.specs.declared.span.Span.{Span}
use Rattle.part_sizes.specs.Span.{has}
use Rattle.reserve_core.specs.declared.hold.Hold.{Hold}

pub or_cases : (a b : Bool) {P : Type 0} → (a || b) ≡ true → (a ≡ true → P) → (b ≡ true → P) → P
or_cases true b e left right = left refl
or_cases false b e left right = right e

pub or_left : (a b : Bool) → a ≡ true → (a || b) ≡ true
or_left a b e = rw e refl

pub or_right : (a b : Bool) → b ≡ true → (a || b) ≡ true
or_right true b e = refl
or_right false b e = e

pub and_left : (a b : Bool) → (a && b) ≡ true → a ≡ true
and_left true b e = refl
and_left false b e = e

pub and_right : (a b : Bool) → (a && b) ≡ true → b ≡ true
and_right true b e = e
and_right false b e = cc

pub both : (a b : Bool) → a ≡ true → b ≡ true → (a && b) ≡ true
both a b e f = rw e f

-- each position of the spans passes
abbrev pub AllPass : (ℕ → Bool) → List Span → Type 0
AllPass passes spans = (x : ℕ) → list_any (λ r. has r x) spans ≡ true → passes x ≡ true

pub AllPass-take : (passes : ℕ → Bool) (k : ℕ) (spans : List Span) → AllPass passes spans → AllPass passes (take k spans)
AllPass-take passes zero spans all = λ x here. cc
AllPass-take passes (suc k) [] all = λ x here. cc
AllPass-take passes (suc k) (r ∷ spans) all = λ x here.
    or_cases (has r x) (list_any (λ r. has r x) (take k spans)) here
    (λ first. all x (or_left (has r x) (list_any (λ r. has r x) spans) first))
    (λ later. AllPass-take passes k spans (λ y there. all y (or_right (has r y) (list_any (λ r. has r y) spans) there)) x later)

pub AllPass-append : (passes : ℕ → Bool) (rs qs : List Span) → AllPass passes rs → AllPass passes qs → AllPass passes (rs ++ qs)
AllPass-append passes [] qs first later = later
AllPass-append passes (r ∷ rs) qs first later = λ x here.
    or_cases (has r x) (list_any (λ r. has r x) (rs ++ qs)) here
    (λ at_r. first x (or_left (has r x) (list_any (λ r. has r x) rs) at_r))
    (λ behind. AllPass-append passes rs qs (λ y there. first y (or_right (has r y) (list_any (λ r. has r y) rs) there)) later x behind)

pub AllPass-flat_map : {X : Type 0} (passes : ℕ → Bool) (f : X → List Span) → ((i : X) → AllPass passes (f i)) → (xs : List X) → AllPass passes (flat_map f xs)
AllPass-flat_map passes f each [] = λ x here. cc
AllPass-flat_map passes f each (i ∷ xs) = AllPass-append passes (f i) (flat_map f xs) (each i) (AllPass-flat_map passes f each xs)

-- each position of the span, if there is one, passes
abbrev pub EachPasses : (ℕ → Bool) → Option Span → Type 0
EachPasses passes None = Unit {0}
EachPasses passes (Some r) = (x : ℕ) → has r x ≡ true → passes x ≡ true

AllPass-cons_option : (passes : ℕ → Bool) (first : Option Span) (rs : List Span) → EachPasses passes first → AllPass passes rs → AllPass passes (cons_option first rs)
AllPass-cons_option passes None rs one all = all
AllPass-cons_option passes (Some r) rs one all = λ x here.
    or_cases (has r x) (list_any (λ r. has r x) rs) here (one x) (all x)

pub AllPass-filter_map : {X : Type 0} (passes : ℕ → Bool) (f : X → Option Span) → ((i : X) → EachPasses passes (f i)) → (xs : List X) → AllPass passes (filter_map f xs)
AllPass-filter_map passes f each [] = λ x here. cc
AllPass-filter_map passes f each (i ∷ xs) = AllPass-cons_option passes (f i) (filter_map f xs) (each i) (AllPass-filter_map passes f each xs)

-- nothing before the first that passes does
pub before_find : (p : ℕ → Bool) (from n d y : ℕ) → d ≤ from + n → from ≤ y → y < unwrap_or (find p (range_with_len from n)) d → p y ≡ false
before_find p from zero d y within above below = absurd (omega arith)
before_find p from (suc n) d y within above below =
    elim (p from) as (λ b. p from ≡ b → y < unwrap_or (cond b (Some from) (find p (range_with_len (from + 1) n))) d → p y ≡ false) [
      | true ↦ λ e low. absurd (omega arith)
      | false ↦ λ e low. elim (cases_eq from y) [
        | inl same ↦ subst (λ k. p k ≡ false) same e
        | inr other ↦ before_find p (from + 1) n d y (omega arith) (omega arith) low
      ]
    ] refl below

-- a slice of a whole list, written back
pub written_back : {X : Type 0} (n : ℕ) (xs ys : List X) → n ≡ length ys → length xs ≡ length ys → take n (xs ++ drop (length xs) ys) ≡ xs
written_back n xs ys whole same =
    let none : drop (length xs) ys ≡ [] = drop_all (length xs) ys (omega (arith, same)) in
    ap (λ zs. take n (xs ++ zs)) none ∙ ap (take n) (append-nil xs) ∙ take_all n xs (omega (arith, whole, same))

-- a list whose elements are those of another, each changed
pub is_map : (f : Hold → Hold) (old new : List Hold) → length new ≡ length old → ((k : ℕ) (d : Hold) → k < length old → slice_index_or new k d ≡ f (slice_index_or old k d)) → new ≡ map f old
is_map f old new long each =
    let d : Hold = record { peer = 0; whole = record { s = 0; e = 0 }; from = 0 } in
    ext_get_or d new (map f old) (long ∙ sym (length-map old f)) (λ k below. each k d (omega (arith, long)) ∙ sym (get_or-map f old k d d (omega (arith, long))))

pub range-front : (from n : ℕ) → from < n → range_with_len from (n - from) ≡ from ∷ range_with_len (from + 1) (n - (from + 1))
range-front from n below =
    let e : n - from ≡ suc (n - (from + 1)) = omega arith in rw e refl

pub all-front : (test : ℕ → Bool) (from n : ℕ) → from < n → list_all test (range_with_len from (n - from)) ≡ (test from && list_all test (range_with_len (from + 1) (n - (from + 1))))
all-front test from n below = ap (list_all test) (range-front from n below)

pub find-front : (test : ℕ → Bool) (from n : ℕ) → from < n → find test (range_with_len from (n - from)) ≡ cond (test from) (Some from) (find test (range_with_len (from + 1) (n - (from + 1))))
find-front test from n below = ap (find test) (range-front from n below)

-- what is found is in the list and passes
pub find_within : (p : ℕ → Bool) (from n x : ℕ) → find p (range_with_len from n) ≡ Some x → (from ≤ x) × (x < from + n) × (p x ≡ true)
find_within p from zero x found = cc
find_within p from (suc n) x found =
    elim (p from) as (λ b. p from ≡ b → cond b (Some from) (find p (range_with_len (from + 1) n)) ≡ Some x → (from ≤ x) × (x < from + suc n) × (p x ≡ true)) [
      | true ↦ λ e is. let same : from ≡ x = cc in (omega arith, omega arith, subst (λ k. p k ≡ true) same e)
      | false ↦ λ e is. let rest = find_within p (from + 1) n x is in (omega (arith, rest.0), omega (arith, rest.1), rest.2)
    ] refl found

-- each span of a list has a fact
pub Each-append : (P : Span → Type 0) (rs qs : List Span) → Each P rs → Each P qs → Each P (rs ++ qs)
Each-append P [] qs first later = later
Each-append P (r ∷ rs) qs first later = (first.0, Each-append P rs qs first.1 later)

pub Each-take : (P : Span → Type 0) (k : ℕ) (rs : List Span) → Each P rs → Each P (take k rs)
Each-take P zero rs all = tt
Each-take P (suc k) [] all = tt
Each-take P (suc k) (r ∷ rs) all = (all.0, Each-take P k rs all.1)

pub Each-flat_map : (P : Span → Type 0) (f : ℕ → List Span) → ((i : ℕ) → Each P (f i)) → (xs : List ℕ) → Each P (flat_map f xs)
Each-flat_map P f each [] = tt
Each-flat_map P f each (i ∷ xs) = Each-append P (f i) (flat_map f xs) (each i) (Each-flat_map P f each xs)

Each-cons_option : (P : Span → Type 0) (first : Option Span) (rs : List Span) → ((r : Span) → first ≡ Some r → P r) → Each P rs → Each P (cons_option first rs)
Each-cons_option P None rs one all = all
Each-cons_option P (Some r) rs one all = (one r refl, all)

pub Each-filter_map : (P : Span → Type 0) (f : ℕ → Option Span) → ((i : ℕ) (r : Span) → f i ≡ Some r → P r) → (xs : List ℕ) → Each P (filter_map f xs)
Each-filter_map P f each [] = tt
Each-filter_map P f each (i ∷ xs) = Each-cons_option P (f i) (filter_map f xs) (each i) (Each-filter_map P f each xs)
